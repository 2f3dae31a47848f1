-- The session as 48 words, part by part: its own numbers, the check, and five words for each stream. Of each part: what its words must be, what they mean in
-- their place, and the words that it is. At the end, what a change writes of them.
use Rattle.std.specs.Prelude.{Bool, true, false, cond, not, ◌&&◌, ◌||◌, List, [], ◌∷◌, ◌++◌, ℕ, zero, suc, ◌+◌, ◌*◌, eqb, leb, ltb, get_or, replicate, Option, Some, None}
use Rattle.session.specs.Session.{phase_number, unchecked, stream_places, work_of}
use Rattle.session.specs.Formed.{last_entry, some_below}
use Rattle.session.specs.declared.Phase.{Phase}
use Rattle.session.specs.declared.Phase.TheVariants.{Idle, Live, Blackout, Done}
use Rattle.session.specs.declared.Check.{Check}
use Rattle.session.specs.declared.Session.{Session}
use Rattle.session.specs.declared.changes.Change.{Change}
use Rattle.session.specs.declared.changes.Change.TheVariants.{Nothing, ToPhase, ToEpoch, ToClock, ToCheck, Begin, ToWork}
use Rattle.session.specs.declared.streams.Interruption.{Interruption}
use Rattle.session.specs.declared.streams.Stream.{Stream}
use Rattle.wire.specs.declared.streams.StreamWords.{StreamWords}
use Rattle.wire.specs.Bytes.{up_to, put_words}

abbrev pub session_length : ℕ
session_length = 48

-- ---- its own numbers: words 0 to 4

-- 0 Idle, 1 Live, 2 Blackout, 3 Done
abbrev pub phase_of : ℕ → Phase
phase_of x = cond (eqb x 0) Idle (cond (eqb x 1) Live (cond (eqb x 2) Blackout Done))

-- a phase of 0 to 3
abbrev pub own_fits : List ℕ → Bool
own_fits w = leb (get_or w 0 0) 3

abbrev pub own_words : Session → List ℕ
own_words s = phase_number s.phase ∷ s.fixed.pages ∷ s.clock.tlb ∷ s.epoch ∷ s.fixed.created ∷ []

-- ---- the check: words 5 to 7

abbrev pub bit_of : Bool → ℕ
bit_of true = 1
bit_of false = 0

-- flags of 0 or 1
abbrev pub check_fits : List ℕ → Bool
check_fits w = leb (get_or w 6 0) 1 && leb (get_or w 7 0) 1

abbrev pub check_of : List ℕ → Check
check_of w = record { place = get_or w 5 0; complete = eqb (get_or w 6 0) 1; failed = eqb (get_or w 7 0) 1 }

abbrev pub check_words : Check → List ℕ
check_words c = c.place ∷ bit_of c.complete ∷ bit_of c.failed ∷ []

-- ---- the streams: five words each, from word 8 on

abbrev pub streams_place : ℕ
streams_place = 8

abbrev pub stream_place : ℕ → ℕ
stream_place i = streams_place + 5 * i

-- interrupted is 0 or 1, and all five are 0 at rest
abbrev pub stream_fits : List ℕ → ℕ → Bool
stream_fits w at =
    eqb (get_or w at 0) 1
    || eqb (get_or w at 0) 0 && (eqb (get_or w (at + 1) 0) 0 && eqb (get_or w (at + 2) 0) 0 && eqb (get_or w (at + 3) 0) 0 && eqb (get_or w (at + 4) 0) 0)

abbrev pub streams_fit : List ℕ → Bool
streams_fit w = not (some_below (λ i. not (stream_fits w (stream_place i))) stream_places)

-- the stream whose five words begin at `at`: interrupted, next entry, last entry, errors, data pages
abbrev pub stream_at : List ℕ → ℕ → Stream
stream_at w at =
    record { work = cond (eqb (get_or w at 0) 0) None (Some (record { next = get_or w (at + 1) 0; last = get_or w (at + 2) 0; errors = get_or w (at + 3) 0; filled = get_or w (at + 4) 0 })) }

abbrev pub streams_of : List ℕ → List Stream
streams_of w = up_to (λ i. stream_at w (stream_place i)) stream_places

abbrev pub work_words : Option Interruption → StreamWords
work_words None = record { flag = 0; next = 0; last = 0; errors = 0; filled = 0 }
work_words (Some x) = record { flag = 1; next = x.next; last = x.last; errors = x.errors; filled = x.filled }

-- the five in a row
abbrev pub five : StreamWords → List ℕ
five x = x.flag ∷ x.next ∷ x.last ∷ x.errors ∷ x.filled ∷ []

-- the words of n streams from i on
abbrev pub streams_from : Session → ℕ → ℕ → List ℕ
streams_from s zero i = []
streams_from s (suc n) i = five (work_words (work_of s i)) ++ streams_from s n (suc i)

-- for the code, which asks in one look at a stream's words what `fits` and `formed` ask one after the other: the five from `at` on
abbrev pub five_at : List ℕ → ℕ → StreamWords
five_at w at =
    record { flag = get_or w at 0; next = get_or w (at + 1) 0; last = get_or w (at + 2) 0; errors = get_or w (at + 3) 0; filled = get_or w (at + 4) 0 }

-- at rest, or interrupted in its ranges and able to be
abbrev pub stream_formed : Bool → StreamWords → Bool
stream_formed able x =
    eqb x.flag 0 && eqb x.next 0 && eqb x.last 0 && eqb x.errors 0 && eqb x.filled 0
    || eqb x.flag 1 && leb x.next x.last && leb x.last last_entry && leb x.errors x.next && leb x.filled x.next && able

-- every one of them, where so many are created and the phase is one in which they move, or not
unfoldable pub streams_formed : Bool → ℕ → List ℕ → Bool
streams_formed moves created w =
    not (some_below (λ i. not (stream_formed (ltb (i + 1) created && moves) (five_at w (stream_place i)))) stream_places)

-- ---- all of it

-- the words are in the layout
unfoldable pub fits : List ℕ → Bool
fits w = own_fits w && check_fits w && streams_fit w

-- what words in the layout mean
unfoldable pub session_of : List ℕ → Session
session_of w =
    record {
      phase = phase_of (get_or w 0 0);
      epoch = get_or w 3 0;
      fixed = record { pages = get_or w 1 0; created = get_or w 4 0 };
      clock = record { tlb = get_or w 2 0 };
      check = check_of w;
      streams = streams_of w;
    }

unfoldable pub session_words : Session → List ℕ
session_words s = own_words s ++ (check_words s.check ++ streams_from s stream_places 0)

-- ---- a change in its place

-- the session's bytes with the words of what changes, and no others
unfoldable pub written_by : Change → List ℕ → List ℕ
written_by Nothing b = b
written_by (ToPhase phase) b = put_words b 0 (phase_number phase ∷ [])
written_by (ToEpoch epoch) b = put_words b 3 (epoch ∷ [])
written_by (ToClock clock) b = put_words b 2 (clock.tlb ∷ [])
written_by (ToCheck check) b = put_words b 5 (check_words check)
written_by (Begin phase epoch) b =
    put_words (put_words (put_words (put_words b 0 (phase_number phase ∷ [])) 3 (epoch ∷ [])) 5 (check_words unchecked)) streams_place (replicate (5 * stream_places) 0)
written_by (ToWork stream work) b = cond (ltb stream stream_places) (put_words b (stream_place stream) (five (work_words work))) b
