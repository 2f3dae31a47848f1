-- One entry of a list that is restored.
use Rattle.std.specs.Prelude.{Bool, false, cond, not, ◌&&◌, List, [], ◌∷◌, ℕ, ◌%◌, eqb, leb}
use Rattle.words.specs.Entry.{entry_of, entry_word, with_operation, with_status}
use Rattle.words.specs.Operations as operations
use Rattle.words.specs.Statuses as statuses
use Rattle.words.specs.declared.entries.Entry.{Entry}
use Rattle.refusals.specs.Refusals.{Test, ◌gives◌, first_of}
use Rattle.page.specs.Page.{Page, page_of, on_words, left}
use Rattle.page.specs.Sweeps.{restored}
use Rattle.page.specs.declared.PageWords.{PageWords}
use Rattle.entry.specs.Entry.{plain}
use Rattle.entry.specs.declared.Ground.{Ground}
use Rattle.entry.specs.declared.Taken.{Taken}

-- reserved bits, LEVEL, MIG_TYPE or STATE not 0; no OPERATION is a fault
unfoldable pub faulty : Entry → Bool
faulty e = not (plain e && eqb e.state 0)

-- OPERATION 0 or 2: 1 and 3 restore
abbrev pub is_nop : Entry → Bool
is_nop e = not (eqb (e.operation % 2) operations.restore)

-- 15, 1, 2; then 4 in 0 to 4, or strange
abbrev pub restore_tests : Entry → Page → Ground → List Test
restore_tests e p g =
    faulty e gives statuses.gpa_list_entry_invalid
    ∷ is_nop e gives statuses.skipped
    ∷ leb g.pages e.gpa gives statuses.sept_walk_failed
    ∷ not (left p) gives statuses.sept_entry_state_incorrect
    ∷ []

-- else status 0
unfoldable pub restore_status : Entry → Page → Ground → ℕ
restore_status e p g = first_of (restore_tests e p g)

-- OPERATION and STATUS as told; the rest kept
unfoldable pub told_word : Entry → ℕ → ℕ → ℕ
told_word e operation status = entry_word (with_status (with_operation e operation) status)

-- OPERATION 1, and the page restored; there is no buffer, and a word of one would stay
unfoldable pub restored_entry : Entry → ℕ → PageWords → Taken
restored_entry e held w =
    record {
      status = statuses.success;
      word = told_word e operations.restore statuses.success;
      buffer = held;
      words = on_words restored w;
      contents = false;
    }

-- OPERATION 0, and the page as it was
unfoldable pub left_entry : Entry → ℕ → PageWords → ℕ → Taken
left_entry e held w status =
    record { status = status; word = told_word e operations.nop status; buffer = held; words = w; contents = false }

-- an entry's word, on the words of the page that it names
unfoldable pub restored_of : ℕ → ℕ → PageWords → Ground → Taken
restored_of word held w g =
    let status = restore_status (entry_of word) (page_of w) g in
    cond (eqb status statuses.success) (restored_entry (entry_of word) held w) (left_entry (entry_of word) held w status)
