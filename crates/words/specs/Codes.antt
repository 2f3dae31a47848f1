-- Completion codes.
use Rattle.std.specs.Prelude.{ℕ}

abbrev pub done : ℕ
done = 0

abbrev pub interrupted : ℕ
interrupted = 1

abbrev pub list_full : ℕ
list_full = 2

abbrev pub check_complete : ℕ
check_complete = 3

abbrev pub malformed : ℕ
malformed = 40

abbrev pub op_state_incorrect : ℕ
op_state_incorrect = 41

abbrev pub operand_invalid : ℕ
operand_invalid = 42

abbrev pub operand_busy : ℕ
operand_busy = 43

abbrev pub invalid_resumption : ℕ
invalid_resumption = 44

abbrev pub ept_entry_state_incorrect : ℕ
ept_entry_state_incorrect = 45

abbrev pub gpa_range_not_blocked : ℕ
gpa_range_not_blocked = 46

abbrev pub tlb_tracking_not_done : ℕ
tlb_tracking_not_done = 47

abbrev pub blocked_memory_exists : ℕ
blocked_memory_exists = 48

abbrev pub blocking_disallowed : ℕ
blocking_disallowed = 49

abbrev pub mem_scan_reset_required : ℕ
mem_scan_reset_required = 50

abbrev pub mem_scan_failed_blocked_range : ℕ
mem_scan_failed_blocked_range = 51

abbrev pub mem_scan_dcheck_not_done : ℕ
mem_scan_dcheck_not_done = 52

abbrev pub exported_dirty_pages_remain : ℕ
exported_dirty_pages_remain = 53

abbrev pub unexported_memory_remains : ℕ
unexported_memory_remains = 54

abbrev pub migration_epoch_overflow : ℕ
migration_epoch_overflow = 55

abbrev pub tlb_epoch_at_limit : ℕ
tlb_epoch_at_limit = 56
