-- One entry of a list that is exported.
use Rattle.std.specs.Prelude.{Bool, false, cond, not, ◌&&◌, ◌||◌, List, [], ◌∷◌, ℕ, eqb, ltb, leb}
use Rattle.words.specs.Entry.{entry_of, entry_word, with_pending, with_state, with_l2_map, with_operation, with_status}
use Rattle.words.specs.Operations as operations
use Rattle.words.specs.Statuses as statuses
use Rattle.words.specs.declared.entries.Entry.{Entry}
use Rattle.refusals.specs.Refusals.{Test, ◌gives◌, first_of}
use Rattle.states.specs.States.{is_in, goes_by, number_in}
use Rattle.states.specs.Lists.{sent_states, pending_states, barred_states, cancelled_states, exports, operated, data_states}
use Rattle.page.specs.Page.{Page, page_of, strange, on_words, tracked}
use Rattle.page.specs.declared.PageWords.{PageWords}
use Rattle.session.specs.Session.{among}
use Rattle.session.specs.declared.Phase.TheVariants.{Live}
use Rattle.session.specs.declared.Session.{Session}
use Rattle.entry.specs.declared.Ground.{Ground}
use Rattle.entry.specs.declared.Taken.{Taken}

-- what of the session an entry depends on
unfoldable pub ground_of : Session → Ground
ground_of s = record { phase = s.phase; clock = s.clock; epoch = s.epoch; pages = s.fixed.pages }

-- reserved bits, LEVEL and MIG_TYPE 0
abbrev pub plain : Entry → Bool
plain e = eqb e.reserved5 0 && eqb e.reserved54 0 && eqb e.reserved61 0 && eqb e.level 0 && eqb e.mig_type 0

-- reserved bits, LEVEL or MIG_TYPE not 0, or OPERATION 2 or 3
unfoldable pub invalid : Entry → Bool
invalid e = not (plain e && ltb e.operation 2)

-- strange, 0, 1, 3, or 24 or 29 without Dirty
unfoldable pub unexportable : Page → Bool
unexportable p = strange p || is_in p.state barred_states || (is_in p.state sent_states && not p.dirty)

-- 26, 27, 31
abbrev pub cancelled : Page → Bool
cancelled p = is_in p.state cancelled_states

-- 15, 1, 2, 4, 7; then, not for 26, 27, 31: 17, and in Live, for stamp 0 or ≥ TLB epoch, 5
abbrev pub status_tests : Entry → Page → Ground → List Test
status_tests e p g =
    invalid e gives statuses.gpa_list_entry_invalid
    ∷ eqb e.operation operations.nop gives statuses.skipped
    ∷ leb g.pages e.gpa gives statuses.sept_walk_failed
    ∷ unexportable p gives statuses.sept_entry_state_incorrect
    ∷ eqb p.migrated g.epoch gives statuses.migrated_in_current_epoch
    ∷ (not (cancelled p) && p.dirty) gives statuses.page_dirty
    ∷ (not (cancelled p) && among (Live ∷ []) g.phase && not (tracked p.stamp g.clock)) gives statuses.tlb_tracking_not_done
    ∷ []

-- else status 0
unfoldable pub status_of : Entry → Page → Ground → ℕ
status_of e p g = first_of (status_tests e p g)

-- OPERATION, PENDING and STATUS as told; STATE and L2_MAP 0; the rest kept
unfoldable pub answer_word : Entry → Bool → ℕ → ℕ → ℕ
answer_word e pending operation status =
    entry_word (with_status (with_operation (with_l2_map (with_state (with_pending e pending) 0) 0) operation) status)

-- data pages are those exported from 4 or 25
abbrev pub contents : Page → Bool
contents p = is_in p.state data_states

-- the migration epoch becomes current
abbrev pub exported_page : ℕ → Page → Page
exported_page epoch p =
    record { state = goes_by exports p.state; dirty = p.dirty; cached = p.cached; stamp = p.stamp; migrated = epoch; mark = p.mark }

-- OPERATION as done; PENDING 1 for successes from 2, 30, 31 (29 has no success); the buffer word is the mark for 4 and 25, else 0
unfoldable pub sent_entry : Entry → PageWords → ℕ → Taken
sent_entry e w epoch =
    let p = page_of w in
    record {
      status = statuses.success;
      word = answer_word e (is_in p.state pending_states) (number_in operated p.state) statuses.success;
      buffer = cond (contents p) p.mark 0;
      words = on_words (exported_page epoch) w;
      contents = contents p;
    }

-- OPERATION and PENDING 0, buffer word 0, and the page as it was
unfoldable pub failed_entry : Entry → PageWords → ℕ → Taken
failed_entry e w status =
    record { status = status; word = answer_word e false operations.nop status; buffer = 0; words = w; contents = false }

-- an entry's word, on the words of the page that it names
unfoldable pub taken_of : ℕ → PageWords → Ground → Taken
taken_of word w g =
    let status = status_of (entry_of word) (page_of w) g in
    cond (eqb status statuses.success) (sent_entry (entry_of word) w g.epoch) (failed_entry (entry_of word) w status)
