-- The calls on every page and those on the session alone, each in document 01's order.
use Rattle.std.specs.Prelude.{Bool, false, List, [], ◌∷◌, ℕ, ◌+◌, leb, length, Option, Some, None}
use Rattle.words.specs.Codes as codes
use Rattle.refusals.specs.Refusals.{Test, ◌gives◌}
use Rattle.page.specs.Page.{sought}
use Rattle.page.specs.Sweeps.{swept_by}
use Rattle.page.specs.declared.Clock.{Clock}
use Rattle.page.specs.declared.queries.Sought.{Sought}
use Rattle.page.specs.declared.queries.Sought.TheVariants.{Unstartable, Blocked}
use Rattle.page.specs.declared.sweeps.Sweep.{Sweep}
use Rattle.page.specs.declared.sweeps.Sweep.TheVariants.{Track, Start, Pause}
use Rattle.table.specs.Table.{some}
use Rattle.session.specs.Session.{phases_of, unchecked, ticked, changed_by}
use Rattle.session.specs.Formed.{gated, behind, busy, last_epoch}
use Rattle.session.specs.Outcome.{Outcome, Answer, Verdict, answer_for, verdict_for, answered, answered_by}
use Rattle.session.specs.declared.Phase.TheVariants.{Idle, Live, Blackout}
use Rattle.session.specs.declared.When.{When}
use Rattle.session.specs.declared.When.TheVariants as when
use Rattle.session.specs.declared.Session.{Session}
use Rattle.session.specs.declared.changes.Change.{Change}
use Rattle.session.specs.declared.changes.Change.TheVariants.{ToPhase, ToEpoch, ToClock, ToCheck, Begin}
use Rattle.migration.specs.declared.Alone.{Alone}
use Rattle.migration.specs.declared.Alone.TheVariants.{NewEpoch, Reset, Abort}

-- ---- the calls on every page: track, start, pause

-- the phases in which each comes
abbrev pub sweep_when : Sweep → When
sweep_when Track = when.Guest
sweep_when Start = when.Idle
sweep_when Pause = when.Live

-- start: any state outside 0 to 4, or strange; pause: any of 1, 3, 26, 31
abbrev pub stops_at : Sweep → Option Sought
stops_at Track = None
stops_at Start = Some Unstartable
stops_at Pause = Some Blocked

abbrev pub stopped : Option Sought → List ℕ → Bool
stopped None t = false
stopped (Some kind) t = some (sought kind) t

-- track: 56 at the limit; start: 45 where a page stops it; pause: 48 where one does, then 43
abbrev pub sweep_asks : Sweep → Clock → Bool → Bool → List Test
sweep_asks Track clock busy stops = leb last_epoch clock.tlb gives codes.tlb_epoch_at_limit ∷ []
sweep_asks Start clock busy stops = stops gives codes.ept_entry_state_incorrect ∷ []
sweep_asks Pause clock busy stops = stops gives codes.blocked_memory_exists ∷ busy gives codes.operand_busy ∷ []

abbrev pub sweep_tests : Sweep → Session → Bool → List Test
sweep_tests k s stops = sweep_asks k s.clock (busy s) stops

-- track: TLB epoch plus one; start: Live, migration epoch 1, check reset, streams at rest; pause: Blackout
abbrev pub sweep_change : Sweep → Clock → Change
sweep_change Track clock = ToClock (ticked clock)
sweep_change Start clock = Begin Live 1
sweep_change Pause clock = ToPhase Blackout

abbrev pub sweep_next : Sweep → Session → Session
sweep_next k s = changed_by (sweep_change k s.clock) s

unfoldable pub sweep_code : Sweep → Session → List ℕ → ℕ
sweep_code k s t = gated s (length t) (phases_of (sweep_when k)) (sweep_tests k s (stopped (stops_at k) t))

-- and every page swept
unfoldable pub on_all : Sweep → Session → List ℕ → Outcome
on_all k s t = answered_by (swept_by k) (sweep_code k s t) s (sweep_next k s) t

-- what it comes to, told its gate's code, what it asks of the session, and whether a page stops it
unfoldable pub sweep_verdict : Sweep → ℕ → Clock → Bool → Bool → Verdict
sweep_verdict k gate clock busy stops = verdict_for (behind gate (sweep_asks k clock busy stops)) (sweep_change k clock)

-- ---- the calls on the session alone: new epoch, reset, abort

abbrev pub alone_when : Alone → When
alone_when NewEpoch = when.Moving
alone_when Reset = when.Moving
alone_when Abort = when.Moving

-- new epoch: 43, 55
abbrev pub alone_asks : Alone → ℕ → Bool → List Test
alone_asks NewEpoch epoch busy = busy gives codes.operand_busy ∷ leb last_epoch epoch gives codes.migration_epoch_overflow ∷ []
alone_asks Reset epoch busy = []
alone_asks Abort epoch busy = []

abbrev pub alone_tests : Alone → Session → List Test
alone_tests k s = alone_asks k s.epoch (busy s)

-- new epoch: plus one; reset: page 0, neither complete nor failed; abort: Idle, the session's migration epoch 0, streams at rest, check reset
abbrev pub alone_change : Alone → ℕ → Change
alone_change NewEpoch epoch = ToEpoch (epoch + 1)
alone_change Reset epoch = ToCheck unchecked
alone_change Abort epoch = Begin Idle 0

abbrev pub alone_next : Alone → Session → Session
alone_next k s = changed_by (alone_change k s.epoch) s

unfoldable pub alone_code : Alone → Session → ℕ → ℕ
alone_code k s len = gated s len (phases_of (alone_when k)) (alone_tests k s)

-- the answer asks of the table its length alone
unfoldable pub alone_answer : Alone → Session → ℕ → Answer
alone_answer k s len = answer_for (alone_code k s len) s (alone_next k s)

-- what it comes to, told its gate's code and what it asks of the session
unfoldable pub alone_verdict : Alone → ℕ → ℕ → Bool → Verdict
alone_verdict k gate epoch busy = verdict_for (behind gate (alone_asks k epoch busy)) (alone_change k epoch)

-- and the table stays
unfoldable pub on_session : Alone → Session → List ℕ → Outcome
on_session k s t = answered (alone_code k s (length t)) s t (alone_next k s) t
