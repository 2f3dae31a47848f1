-- Histories: New, and then any calls with any operands and any lent words, each given the session and the table that the one before returned. A step is
-- `effect_of`, which the contracts of all calls cite. What somebody who sees the calls and their answers can note is computed beside it: the log of what was
-- sent, the guest's memory, and its copy at the last pause.
use Rattle.std.specs.Prelude.{◌≡◌, Bool, true, false, cond, not, ◌&&◌, List, [], ◌∷◌, ◌++◌, ℕ, zero, suc, ◌+◌, ◌-◌, get_or, eqb}
use Rattle.words.specs.Codes as codes
use Rattle.words.specs.Entry.{entry_of}
use Rattle.words.specs.Info.{info_of}
use Rattle.words.specs.Operations as operations
use Rattle.words.specs.Statuses as statuses
use Rattle.words.specs.declared.entries.Entry.{Entry}
use Rattle.page.specs.declared.moves.Move.{Move}
use Rattle.page.specs.declared.moves.Move.TheVariants.{Write, Add, Accept, Block, Unblock, Remove}
use Rattle.page.specs.declared.sweeps.Sweep.{Sweep}
use Rattle.page.specs.declared.sweeps.Sweep.TheVariants.{Track, Start, Pause}
use Rattle.session.specs.declared.Session.{Session}
use Rattle.calls.specs.Calls.{Effect, effect_of}
use Rattle.calls.specs.declared.Call.{Call}
use Rattle.calls.specs.declared.Call.TheVariants.{New, OnPage, OnAll, OnSession, StartToken, Dscan, Dcheck, Export, Restore}
use Rattle.calls.specs.declared.Returned.{Returned}
use Rattle.bundle.specs.Bundle.{Holding, absent, holds, Operation, migrate, cancel, remigrate, Sent, nothing}

-- a call, and the list and the buffer that are lent to it
pub record Given : Type 0 where
  pub call : Call
  pub list : List ℕ
  pub buffer : List ℕ

abbrev pub given : Call → List ℕ → List ℕ → Given
given c l b = record { call = c; list = l; buffer = b }

-- what stands between two calls: session and table as they were returned, and what was noted
pub record World : Type 0 where
  pub session : Session
  pub table : List ℕ
  -- the successful entries since the last accepted start
  pub log : List Sent
  -- what the guest has of each page, by the calls on its memory
  pub memory : ℕ → Holding
  -- and what it had at the last accepted pause
  pub copy : ℕ → Holding

-- what a call leaves: the definition that its contract cites
abbrev pub effect_in : World → Given → Effect
effect_in w g = effect_of g.call w.session w.table g.list g.buffer

abbrev pub accepted : Effect → Bool
accepted e = eqb e.returned.code codes.done

-- ---- the log, from answers and returned words alone

abbrev pub operation_of : ℕ → Operation
operation_of n = cond (eqb n operations.cancel) cancel (cond (eqb n operations.remigrate) remigrate migrate)

-- a success: STATUS 0, and an operation that was done
abbrev pub succeeded : Entry → Bool
succeeded e = eqb e.status statuses.success && not (eqb e.operation operations.nop)

abbrev pub sent_of : ℕ → Entry → ℕ → Sent
sent_of epoch e buffer =
    record { epoch = epoch; page = e.gpa; operation = operation_of e.operation; pending = e.pending; contents = buffer }

-- what a word and a buffer word that came back say: an entry that was sent, or none
abbrev pub sent_by : ℕ → ℕ → ℕ → List Sent
sent_by epoch word buffer = cond (succeeded (entry_of word)) (sent_of epoch (entry_of word) buffer ∷ []) []

-- n entries of a list from `first` on
abbrev pub sent_from : ℕ → List ℕ → List ℕ → ℕ → ℕ → List Sent
sent_from epoch l b first zero = []
sent_from epoch l b first (suc n) = sent_from epoch l b first n ++ sent_by epoch (get_or l (first + n) 0) (get_or b (first + n) 0)

-- the entry that an export has come to, by its code and the info word that came back: done, behind LAST; interrupted, FIRST as it came back; refused,
-- FIRST as it was given
abbrev pub came_by : ℕ → ℕ → ℕ → ℕ
came_by info code back =
    cond (eqb code codes.done) ((info_of info).last + 1)
    (cond (eqb code codes.interrupted) (info_of back).first (info_of info).first)

abbrev pub came_to : ℕ → Returned → ℕ
came_to info r = came_by info r.code r.info

-- the entries that an export took, from FIRST as it was given
abbrev pub sent_in : World → ℕ → Effect → List Sent
sent_in w info e =
    let first = (info_of info).first in
    sent_from w.session.epoch e.list e.buffer first (came_to info e.returned - first)

-- an accepted start begins a new log
abbrev pub begins_log : Sweep → Bool
begins_log Track = false
begins_log Start = true
begins_log Pause = false

-- and only an export adds to it
abbrev pub logged_by : Call → World → Effect → List Sent
logged_by (New created) w e = w.log
logged_by (OnPage page m) w e = w.log
logged_by (OnAll k) w e = cond (accepted e && begins_log k) [] w.log
logged_by (OnSession k) w e = w.log
logged_by StartToken w e = w.log
logged_by (Dscan first count budget) w e = w.log
logged_by (Dcheck budget) w e = w.log
logged_by (Export stream resume info budget) w e = w.log ++ sent_in w info e
logged_by (Restore info budget) w e = w.log

-- ---- the guest's memory, from the accepted calls on it: the guest's write and accept, the host's add and remove

-- another holding at one page
abbrev pub holding : (ℕ → Holding) → ℕ → Holding → ℕ → Holding
holding m at h i = cond (eqb at i) h (m i)

-- what a call on one page leaves the guest of it: an added page is pending; an accepted one is the guest's, with mark 0
abbrev pub leaves : Move → Holding → Holding
leaves (Write mark) h = holds false mark
leaves Add h = holds true 0
leaves Accept h = holds false 0
leaves Block h = h
leaves Unblock h = h
leaves Remove h = absent

-- no other call but New changes it
abbrev pub remembered_by : Call → (ℕ → Holding) → ℕ → Holding
remembered_by (New created) m = nothing
remembered_by (OnPage page k) m = holding m page (leaves k (m page))
remembered_by (OnAll k) m = m
remembered_by (OnSession k) m = m
remembered_by StartToken m = m
remembered_by (Dscan first count budget) m = m
remembered_by (Dcheck budget) m = m
remembered_by (Export stream resume info budget) m = m
remembered_by (Restore info budget) m = m

-- an accepted pause takes the copy
abbrev pub takes_copy : Sweep → Bool
takes_copy Track = false
takes_copy Start = false
takes_copy Pause = true

-- and no other call does
abbrev pub copied_by : Call → (ℕ → Holding) → (ℕ → Holding) → ℕ → Holding
copied_by (New created) m c = c
copied_by (OnPage page k) m c = c
copied_by (OnAll k) m c = cond (takes_copy k) m c
copied_by (OnSession k) m c = c
copied_by StartToken m c = c
copied_by (Dscan first count budget) m c = c
copied_by (Dcheck budget) m c = c
copied_by (Export stream resume info budget) m c = c
copied_by (Restore info budget) m c = c

-- ---- histories

abbrev pub left_by : World → Given → Effect → World
left_by w g e =
    record {
      session = e.returned.session;
      table = e.table;
      log = logged_by g.call w e;
      memory = cond (accepted e) (remembered_by g.call w.memory) w.memory;
      copy = cond (accepted e) (copied_by g.call w.memory w.copy) w.copy;
    }

abbrev pub after : World → Given → World
after w g = left_by w g (effect_in w g)

abbrev pub run : World → List Given → World
run w [] = w
run w (g ∷ l) = run (after w g) l

-- what New makes of any session and any lent words
abbrev pub new_effect : Session → List ℕ → ℕ → Effect
new_effect s t created = effect_of (New created) s t [] []

abbrev pub new_world : Session → List ℕ → ℕ → World
new_world s t created =
    record {
      session = (new_effect s t created).returned.session;
      table = (new_effect s t created).table;
      log = [];
      memory = nothing;
      copy = nothing;
    }

-- New is accepted, for any legal number of pages and any legal N; then come any calls, refused ones among them
pub record History : Type 0 where
  pub session : Session
  pub words : List ℕ
  pub created : ℕ
  pub new : accepted (new_effect session words created) ≡ true
  pub calls : List Given

abbrev pub at_end : History → World
at_end h = run (new_world h.session h.words h.created) h.calls
