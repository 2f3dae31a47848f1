-- The session: what New makes, and sessions made from others.
use Rattle.std.specs.Prelude.{◌≡◌, Bool, false, cond, ◌||◌, List, [], ◌∷◌, ℕ, ◌+◌, ◌<◌, eqb, ltb, get_or, set, replicate, Result, MatchResult, Option, None}
use Rattle.page.specs.declared.Clock.{Clock}
use Rattle.session.specs.declared.Phase.{Phase}
use Rattle.session.specs.declared.Phase.TheVariants.{Idle, Live, Blackout, Done}
use Rattle.session.specs.declared.Check.{Check}
use Rattle.session.specs.declared.Session.{Session}
use Rattle.session.specs.declared.Comes.{Comes}
use Rattle.session.specs.declared.When.{When}
use Rattle.session.specs.declared.When.TheVariants as when
use Rattle.session.specs.declared.phases.UnknownPhase.{UnknownPhase}
use Rattle.session.specs.declared.changes.Change.{Change}
use Rattle.session.specs.declared.changes.Change.TheVariants.{Nothing, ToPhase, ToEpoch, ToClock, ToCheck, Begin, ToWork}
use Rattle.session.specs.declared.streams.Stream.{Stream}
use Rattle.session.specs.declared.streams.Interruption.{Interruption}

-- ---- phases

-- the C side's numbers
abbrev pub phase_number : Phase → ℕ
phase_number Idle = 0
phase_number Live = 1
phase_number Blackout = 2
phase_number Done = 3

-- a number's phase, or the number that is none's
abbrev pub NumbersPhase : ℕ → Result Phase UnknownPhase → Type 0
NumbersPhase number r = MatchResult r (λ phase. phase_number phase ≡ number) (λ unknown. (unknown.0 ≡ number) × (3 < number))

abbrev pub among : List Phase → Phase → Bool
among [] p = false
among (q ∷ l) p = eqb (phase_number p) (phase_number q) || among l p

abbrev pub guest : List Phase
guest = Idle ∷ Live ∷ []

abbrev pub moving : List Phase
moving = Live ∷ Blackout ∷ []

abbrev pub phases_of : When → List Phase
phases_of when.Guest = guest
phases_of when.Idle = Idle ∷ []
phases_of when.Live = Live ∷ []
phases_of when.Blackout = Blackout ∷ []
phases_of when.Moving = moving

abbrev pub comes_in : Phase → Comes
comes_in p =
    record { guest = among guest p; idle = among (Idle ∷ []) p; live = among (Live ∷ []) p; blackout = among (Blackout ∷ []) p; moving = among moving p }

-- ---- sessions

-- page 0, neither complete nor failed
abbrev pub unchecked : Check
unchecked = record { place = 0; complete = false; failed = false }

abbrev pub resting : Stream
resting = record { work = None }

-- the session has eight places for streams, whatever N is
abbrev pub stream_places : ℕ
stream_places = 8

abbrev pub at_rest : List Stream
at_rest = replicate stream_places resting

-- New: Idle, TLB epoch 1, migration epoch 0, check at page 0, neither complete nor failed, streams at rest
abbrev pub new_session : ℕ → ℕ → Session
new_session pages created =
    record { phase = Idle; epoch = 0; fixed = record { pages = pages; created = created }; clock = record { tlb = 1 }; check = unchecked; streams = at_rest }

-- track: TLB epoch plus one
abbrev pub ticked : Clock → Clock
ticked clock = record { tlb = clock.tlb + 1 }

-- what is constant since New stays
abbrev pub remade : Session → Phase → ℕ → Clock → Check → List Stream → Session
remade s phase epoch clock check streams = record { phase = phase; epoch = epoch; fixed = s.fixed; clock = clock; check = check; streams = streams }

-- start and abort: check reset, streams at rest
abbrev pub begun : Session → Phase → ℕ → Session
begun s phase epoch = remade s phase epoch s.clock unchecked at_rest

-- a session with another value in one place, and the rest as it was
abbrev pub with_phase : Session → Phase → Session
with_phase s phase = remade s phase s.epoch s.clock s.check s.streams

abbrev pub with_epoch : Session → ℕ → Session
with_epoch s epoch = remade s s.phase epoch s.clock s.check s.streams

abbrev pub with_clock : Session → Clock → Session
with_clock s clock = remade s s.phase s.epoch clock s.check s.streams

abbrev pub with_check : Session → Check → Session
with_check s check = remade s s.phase s.epoch s.clock check s.streams

abbrev pub with_streams : Session → List Stream → Session
with_streams s streams = remade s s.phase s.epoch s.clock s.check streams

abbrev pub work_at : Session → ℕ → Option Interruption
work_at s i = (get_or s.streams i resting).work

-- what a stream is doing; at rest where the session has no place for it
unfoldable pub work_of : Session → ℕ → Option Interruption
work_of s i = cond (ltb i stream_places) (work_at s i) None

unfoldable pub with_work : Session → ℕ → Option Interruption → Session
with_work s i work = cond (ltb i stream_places) (with_streams s (set s.streams i (record { work = work }))) s

-- what a call changes in its session
abbrev pub changed_by : Change → Session → Session
changed_by Nothing s = s
changed_by (ToPhase phase) s = with_phase s phase
changed_by (ToEpoch epoch) s = with_epoch s epoch
changed_by (ToClock clock) s = with_clock s clock
changed_by (ToCheck check) s = with_check s check
changed_by (Begin phase epoch) s = begun s phase epoch
changed_by (ToWork stream work) s = with_work s stream work
