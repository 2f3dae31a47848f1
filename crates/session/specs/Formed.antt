-- When a session is malformed, case by case as document 01 lists them, and the gate that every call but New passes first.
use Rattle.std.specs.Prelude.{Bool, true, false, cond, not, ◌&&◌, ◌||◌, List, [], ◌∷◌, ℕ, zero, suc, ◌+◌, ◌/◌, eqb, ltb, leb, Option, Some, None}
use Rattle.words.specs.Codes as codes
use Rattle.refusals.specs.Refusals.{Test, ◌gives◌, first_of}
use Rattle.table.specs.Table.{legal, most_pages}
use Rattle.session.specs.Session.{among, moving, stream_places, work_at}
use Rattle.session.specs.declared.Phase.{Phase}
use Rattle.session.specs.declared.Phase.TheVariants.{Idle}
use Rattle.session.specs.declared.Session.{Session}
use Rattle.session.specs.declared.streams.Interruption.{Interruption}

abbrev pub last_epoch : ℕ
last_epoch = 65535

abbrev pub fewest_created : ℕ
fewest_created = 2

abbrev pub most_created : ℕ
most_created = 9

abbrev pub last_entry : ℕ
last_entry = 511

-- the longest list
abbrev pub most_entries : ℕ
most_entries = last_entry + 1

-- lo to hi
abbrev pub within : ℕ → ℕ → ℕ → Bool
within lo hi n = leb lo n && leb n hi

-- 0 in Idle, else 1 to 65,535
abbrev pub epoch_in : Phase → ℕ → Bool
epoch_in phase epoch = cond (among (Idle ∷ []) phase) (eqb epoch 0) (within 1 last_epoch epoch)

-- ---- streams

abbrev pub work_resting : Option Interruption → Bool
work_resting None = true
work_resting (Some x) = false

-- next ≤ last ≤ 511, both counts ≤ next
abbrev pub work_in_range : Option Interruption → Bool
work_in_range None = true
work_in_range (Some x) = leb x.next x.last && leb x.last last_entry && leb x.errors x.next && leb x.filled x.next

-- index below N−1 is usable
abbrev pub usable_of : ℕ → ℕ → Bool
usable_of created i = ltb (i + 1) created

abbrev pub usable : Session → ℕ → Bool
usable s i = usable_of s.fixed.created i

-- f holds at some number below n
abbrev pub some_below : (ℕ → Bool) → ℕ → Bool
some_below f zero = false
some_below f (suc n) = some_below f n || f n

abbrev pub some_stream : (ℕ → Bool) → Bool
some_stream f = some_below f stream_places

abbrev pub interrupted : Session → ℕ → Bool
interrupted s i = not (work_resting (work_at s i))

abbrev pub out_of_range : Session → ℕ → Bool
out_of_range s i = not (work_in_range (work_at s i))

-- interrupted and unusable
abbrev pub out_of_place : Session → ℕ → Bool
out_of_place s i = interrupted s i && not (usable s i)

-- some stream is interrupted
unfoldable pub busy : Session → Bool
busy s = some_stream (interrupted s)

-- ---- the gate

abbrev pub some_of : List Bool → Bool
some_of [] = false
some_of (b ∷ l) = b || some_of l

abbrev pub malformed_cases : Session → ℕ → List Bool
malformed_cases s len =
    -- table length odd, 0, above 8,192 or not the session's
    not (legal len)
    ∷ not (eqb (len / 2) s.fixed.pages)
    -- a field outside its range
    ∷ not (within 1 most_pages s.fixed.pages)
    ∷ not (within 1 last_epoch s.clock.tlb)
    ∷ not (epoch_in s.phase s.epoch)
    ∷ not (within fewest_created most_created s.fixed.created)
    ∷ some_stream (out_of_range s)
    -- a check place above the page count, complete at another place than the count, complete and failed at once
    ∷ ltb s.fixed.pages s.check.place
    ∷ (s.check.complete && not (eqb s.check.place s.fixed.pages))
    ∷ (s.check.complete && s.check.failed)
    -- an interrupted stream that is unusable or in Idle or Done
    ∷ some_stream (out_of_place s)
    ∷ (busy s && not (among moving s.phase))
    ∷ []

unfoldable pub formed : Session → ℕ → Bool
formed s len = not (some_of (malformed_cases s len))

-- a call that comes in some phases and then has tests of its own: 41, and these
abbrev pub phase_tests : Phase → List Phase → List Test → List Test
phase_tests phase phases tests = not (among phases phase) gives codes.op_state_incorrect ∷ tests

-- and 40 before them
abbrev pub gate_tests : Session → ℕ → List Phase → List Test → List Test
gate_tests s len phases tests = not (formed s len) gives codes.malformed ∷ phase_tests s.phase phases tests

unfoldable pub gated : Session → ℕ → List Phase → List Test → ℕ
gated s len phases tests = first_of (gate_tests s len phases tests)

-- a code that goes before some tests
abbrev pub behind : ℕ → List Test → ℕ
behind code tests = cond (eqb code 0) (first_of tests) code
