-- Each hypothesis of the promises is met, by a call on a table of one page or by a page.
use Rattle.std.specs.Prelude.{◌≡◌, true, false, List, [], ◌∷◌, ℕ, ◌+◌, ◌*◌, ◌^◌, ◌<◌, ◌≤◌, eqb, length}
use Rattle.words.specs.Codes as codes
use Rattle.page.specs.Page.{strange}
use Rattle.page.specs.declared.moves.Move.TheVariants as move
use Rattle.page.specs.declared.sweeps.Sweep.TheVariants.{Track, Pause}
use Rattle.table.specs.Table.{page_count, page_at}
use Rattle.session.specs.Session.{new_session}
use Rattle.session.specs.declared.Phase.TheVariants as phase
use Rattle.session.specs.declared.Session.{Session}
use Rattle.memory.specs.Memory.{on_page}
use Rattle.entry.specs.declared.Ground.{Ground}
use Rattle.lists.specs.Run.{Standing, standing, gpa_of, taking}
use Rattle.export.specs.Export.{export_step}
use Rattle.restore.specs.Restore.{restore_step}
use Rattle.calls.specs.Calls.{effect_of}
use Rattle.calls.specs.Promises.{refusal, is_new}
use Rattle.calls.specs.declared.Call.TheVariants.{OnAll}

-- what New makes: a session of one page and two streams, and the page's two words
abbrev pub fresh : Session
fresh = new_session 1 2

abbrev pub free : List ℕ
free = 0 ∷ 0 ∷ []

-- a page in state 5, which the base does not use
abbrev pub unused : List ℕ
unused = 5 ∷ 0 ∷ []

-- an export that stands before an entry for page 0
abbrev pub ground : Ground
ground = record { phase = phase.Live; clock = record { tlb = 2 }; epoch = 1; pages = 1 }

abbrev pub export : List ℕ → Standing
export t = standing (record { next = 0; errors = 0; filled = 0 }) t (0x0010000000000000 ∷ []) (0 ∷ [])

-- MAPPED with stamp 1
abbrev pub before : Standing
before = export (0x10004 ∷ 0 ∷ [])

-- EXPORTED, as a migration left it
abbrev pub left_behind : Standing
left_behind = export (0x18 ∷ 0 ∷ [])

abbrev pub unready : Standing
unready = export free

pub record Met : Type 0 where
  -- RefusalKeeps: a pause in Idle
  pub refuses : refusal (effect_of (OnAll Pause) fresh free [] []).returned.code ≡ true
  pub not53 : eqb (effect_of (OnAll Pause) fresh free [] []).returned.code codes.exported_dirty_pages_remain ≡ false
  pub not54 : eqb (effect_of (OnAll Pause) fresh free [] []).returned.code codes.unexported_memory_remains ≡ false
  -- StrangeStays: a track that is done
  pub other : is_new (OnAll Track) ≡ false
  pub passed : strange (page_at unused 0) ≡ true
  pub done : (effect_of (OnAll Track) fresh unused [] []).returned.code ≡ codes.done
  -- PagesMove: an add, the page beside it, and every page; an entry; a scan of the table
  pub one : (on_page move.Add fresh free 0).answer.code ≡ 0
  pub others : ◌≡◌ {A = ℕ} 1 0 → ⊥
  pub all : 0 < page_count free
  pub epoch : ground.epoch < 2 ^ 16
  pub entry : gpa_of before < page_count before.table
  pub succeeds : (taking (export_step ground) before).status ≡ 0
  pub fails : (taking (export_step ground) unready).status ≡ 0 → ⊥
  pub restores : (taking (restore_step ground) left_behind).status ≡ 0
  pub unrestored : (taking (restore_step ground) unready).status ≡ 0 → ⊥
  pub beside : 1 ≡ gpa_of before → ⊥
  pub range : 2 * 0 + 2 * 1 ≤ length free
  pub look : fresh.clock.tlb < 2 ^ 16
