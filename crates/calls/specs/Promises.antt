-- What holds of every call.
use Rattle.std.specs.Prelude.{◌≡◌, Bool, true, false, ◌||◌, List, ℕ, ◌+◌, ◌*◌, ◌^◌, ◌<◌, ◌≤◌, length, eqb}
use Rattle.words.specs.Codes as codes
use Rattle.page.specs.Page.{page_of, strange}
use Rattle.page.specs.Moves.{moved_by}
use Rattle.page.specs.Page.{unless_strange}
use Rattle.page.specs.Sweeps.{swept_by, restored}
use Rattle.page.specs.declared.Clock.{Clock}
use Rattle.page.specs.declared.PageWords.{PageWords}
use Rattle.page.specs.declared.moves.Move.{Move}
use Rattle.page.specs.declared.sweeps.Sweep.{Sweep}
use Rattle.table.specs.Table.{page_count, words_at, page_at}
use Rattle.session.specs.Formed.{within}
use Rattle.session.specs.Outcome.{answered_by}
use Rattle.session.specs.declared.Session.{Session}
use Rattle.memory.specs.Memory.{on_page}
use Rattle.scan.specs.Look.{listed_page, look_of, LookedAt}
use Rattle.scan.specs.Scan.{range_run}
use Rattle.scan.specs.declared.Scan.{Scan}
use Rattle.entry.specs.Entry.{exported_page}
use Rattle.entry.specs.declared.Ground.{Ground}
use Rattle.lists.specs.Kinds.{taken_by}
use Rattle.lists.specs.Run.{Standing, gpa_of, taking, stepped}
use Rattle.lists.specs.declared.Kind.{Kind}
use Rattle.export.specs.Export.{export_step}
use Rattle.restore.specs.Restore.{restore_step}
use Rattle.calls.specs.Calls.{Effect, effect_of}
use Rattle.calls.specs.declared.Call.{Call}
use Rattle.calls.specs.declared.Call.TheVariants.{New, OnPage, OnAll, OnSession, StartToken, Dscan, Dcheck, Export, Restore}
use Rattle.calls.specs.declared.Returned.{Returned}

-- what a call's contract says of an answer, and of the table, the list and the buffer that it leaves
pub record Meets (c : Call) (s : Session) (t l b : List ℕ) (r : Returned) (u m v : List ℕ) : Type 0 where
  pub returned : r ≡ (effect_of c s t l b).returned
  pub table : u ≡ (effect_of c s t l b).table
  pub list : m ≡ (effect_of c s t l b).list
  pub buffer : v ≡ (effect_of c s t l b).buffer

-- two outcomes, the same in every part
pub record Same (r r' : Returned) (u u' m m' v v' : List ℕ) : Type 0 where
  pub answer : r ≡ r'
  pub table : u ≡ u'
  pub list : m ≡ m'
  pub buffer : v ≡ v'

-- no second outcome satisfies it
pub record OneOutcome : Type 0 where
  pub one : (c : Call) (s : Session) (t l b : List ℕ) (r r' : Returned) (u u' m m' v v' : List ℕ) → Meets c s t l b r u m v → Meets c s t l b r' u' m' v' →
      Same r r' u u' m m' v v'

-- 0 to 3 and 40 to 56
abbrev pub named : ℕ → Bool
named n = within 0 3 n || within 40 56 n

-- every call answers with one of document 01's codes
pub record AnswersNamed : Type 0 where
  pub code : (c : Call) (s : Session) (t l b : List ℕ) → named (effect_of c s t l b).returned.code ≡ true

-- 40 to 50 and 52 to 56
abbrev pub refusal : ℕ → Bool
refusal n = within 40 50 n || within 52 56 n

-- everything as it came; of the numbers the code alone, but for the page, of which `page` below tells
pub record Kept (s : Session) (t l b : List ℕ) (e : Effect) : Type 0 where
  pub session : e.returned.session ≡ s
  pub table : e.table ≡ t
  pub list : e.list ≡ l
  pub buffer : e.buffer ≡ b
  pub next : e.returned.next ≡ 0
  pub first : e.returned.first ≡ 0
  pub last : e.returned.last ≡ 0
  pub info : e.returned.info ≡ 0
  pub errors : e.returned.errors ≡ 0
  pub buffers : e.returned.buffers ≡ 0

-- a refusal changes nothing, and its answer is the code; a page stands in an answer for 53 and 54 alone
pub record RefusalKeeps : Type 0 where
  pub all : (c : Call) (s : Session) (t l b : List ℕ) → refusal (effect_of c s t l b).returned.code ≡ true → Kept s t l b (effect_of c s t l b)
  pub page : (c : Call) (s : Session) (t l b : List ℕ) → eqb (effect_of c s t l b).returned.code codes.exported_dirty_pages_remain ≡ false →
      eqb (effect_of c s t l b).returned.code codes.unexported_memory_remains ≡ false → (effect_of c s t l b).returned.page ≡ 0

abbrev pub is_new : Call → Bool
is_new (New created) = true
is_new (OnPage page m) = false
is_new (OnAll k) = false
is_new (OnSession k) = false
is_new StartToken = false
is_new (Dscan first count budget) = false
is_new (Dcheck budget) = false
is_new (Export stream resume info budget) = false
is_new (Restore info budget) = false

-- no call but New changes a strange record
pub record StrangeStays : Type 0 where
  pub words : (c : Call) (s : Session) (t l b : List ℕ) (i : ℕ) → is_new c ≡ false → strange (page_at t i) ≡ true →
      words_at (effect_of c s t l b).table i ≡ words_at t i

-- a call that is done has moved its page, or every page, and no other; an entry that succeeds moves the page that it names and no other, and one that fails
-- none; after a scan every page's words are as they were or as the look that listed it left them, and those are the words of `listed_page`. Both epochs of a
-- session that passes 40 are below 2 ^ 16, as a record's are; and past its tests a scan's range lies within the table (`dscan-fits`, `dcheck-fits` in
-- `scan`).
pub record PagesMove : Type 0 where
  pub one : (m : Move) (s : Session) (t : List ℕ) (at : ℕ) → (on_page m s t at).answer.code ≡ 0 →
      page_at (on_page m s t at).table at ≡ moved_by m s.clock (page_at t at)
  pub others : (m : Move) (s : Session) (t : List ℕ) (at k : ℕ) → (k ≡ at → ⊥) → words_at (on_page m s t at).table k ≡ words_at t k
  pub all : (k : Sweep) (s s' : Session) (t : List ℕ) (i : ℕ) → i < page_count t →
      page_at (answered_by (swept_by k) 0 s s' t).table i ≡ unless_strange (swept_by k) (page_at t i)
  pub entry : (g : Ground) (x : Standing) → g.epoch < 2 ^ 16 → gpa_of x < page_count x.table → (taking (export_step g) x).status ≡ 0 →
      page_at (stepped (export_step g) x).table (gpa_of x) ≡ exported_page g.epoch (page_at x.table (gpa_of x))
  pub failed : (g : Ground) (x : Standing) → ((taking (export_step g) x).status ≡ 0 → ⊥) →
      words_at (stepped (export_step g) x).table (gpa_of x) ≡ words_at x.table (gpa_of x)
  pub restores : (g : Ground) (x : Standing) → gpa_of x < page_count x.table → (taking (restore_step g) x).status ≡ 0 →
      page_at (stepped (restore_step g) x).table (gpa_of x) ≡ restored (page_at x.table (gpa_of x))
  pub unrestored : (g : Ground) (x : Standing) → ((taking (restore_step g) x).status ≡ 0 → ⊥) →
      words_at (stepped (restore_step g) x).table (gpa_of x) ≡ words_at x.table (gpa_of x)
  pub beside : (kind : Kind) (g : Ground) (x : Standing) (k : ℕ) → (k ≡ gpa_of x → ⊥) → words_at (stepped (taken_by kind g) x).table k ≡ words_at x.table k
  pub range : (count : ℕ) (scan : Scan) (t l : List ℕ) → 2 * scan.first + 2 * count ≤ length t → (k : ℕ) →
      LookedAt k scan.clock (words_at t k) (words_at (range_run count scan t l).part k)
  pub look : (w : PageWords) (number : ℕ) (clock : Clock) → clock.tlb < 2 ^ 16 → page_of (look_of w number clock).words ≡ listed_page clock (page_of w)
