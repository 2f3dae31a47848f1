-- The values of an entry's STATUS that the bench gives.
use Rattle.std.specs.Prelude.{ℕ, Result, Ok, Err}
use Rattle.words.specs.declared.statuses.Failure.{Failure}
use Rattle.words.specs.declared.statuses.Failure.TheVariants as failure

abbrev pub success : ℕ
success = 0

abbrev pub skipped : ℕ
skipped = 1

abbrev pub sept_walk_failed : ℕ
sept_walk_failed = 2

abbrev pub sept_entry_state_incorrect : ℕ
sept_entry_state_incorrect = 4

abbrev pub tlb_tracking_not_done : ℕ
tlb_tracking_not_done = 5

abbrev pub migrated_in_current_epoch : ℕ
migrated_in_current_epoch = 7

abbrev pub gpa_list_entry_invalid : ℕ
gpa_list_entry_invalid = 15

abbrev pub page_dirty : ℕ
page_dirty = 17

-- the status that each failure has
abbrev pub failure_number : Failure → ℕ
failure_number failure.Skipped = skipped
failure_number failure.SeptWalkFailed = sept_walk_failed
failure_number failure.SeptEntryStateIncorrect = sept_entry_state_incorrect
failure_number failure.TlbTrackingNotDone = tlb_tracking_not_done
failure_number failure.MigratedInCurrentEpoch = migrated_in_current_epoch
failure_number failure.GpaListEntryInvalid = gpa_list_entry_invalid
failure_number failure.PageDirty = page_dirty

-- the status of what came of an entry's tests: 0 where none holds
abbrev pub status_number : {T : Type 0} → Result T Failure → ℕ
status_number (Ok x) = success
status_number (Err f) = failure_number f
