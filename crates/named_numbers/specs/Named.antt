-- The named numbers of `words`, each list in the order of its page.
use Rattle.std.specs.Prelude.{List, [], ◌∷◌, ℕ}
use Rattle.words.specs.Codes as Codes
use Rattle.words.specs.States as States
use Rattle.words.specs.Statuses as Statuses
use Rattle.words.specs.Operations as Operations
use Rattle.words.specs.Hints as Hints

abbrev pub code_numbers : List ℕ
code_numbers =
    Codes.done ∷ Codes.interrupted ∷ Codes.list_full ∷ Codes.check_complete ∷ Codes.malformed ∷ Codes.op_state_incorrect ∷ Codes.operand_invalid ∷ Codes.operand_busy
    ∷ Codes.invalid_resumption ∷ Codes.ept_entry_state_incorrect ∷ Codes.gpa_range_not_blocked ∷ Codes.tlb_tracking_not_done ∷ Codes.blocked_memory_exists
    ∷ Codes.blocking_disallowed ∷ Codes.mem_scan_reset_required ∷ Codes.mem_scan_failed_blocked_range ∷ Codes.mem_scan_dcheck_not_done ∷ Codes.exported_dirty_pages_remain
    ∷ Codes.unexported_memory_remains ∷ Codes.migration_epoch_overflow ∷ Codes.tlb_epoch_at_limit ∷ []

abbrev pub state_numbers : List ℕ
state_numbers =
    States.free ∷ States.blocked ∷ States.pending ∷ States.pending_blocked ∷ States.mapped ∷ States.exported ∷ States.exported_modified ∷ States.exported_blocked
    ∷ States.exported_removed ∷ States.pending_exported ∷ States.pending_exported_modified ∷ States.pending_exported_blocked ∷ States.removed
    ∷ States.remove_in_progress ∷ States.blockedw ∷ States.exported_blockedw ∷ States.exported_dirty ∷ States.exported_dirty_blockedw ∷ States.pending_blockedw
    ∷ States.pending_exported_blockedw ∷ States.pending_exported_dirty ∷ States.pending_exported_dirty_blockedw ∷ States.exported_remove_in_progress
    ∷ States.mmio_mapped ∷ States.mmio_blocked ∷ States.mmio_pending ∷ States.l2_free ∷ States.l2_blocked ∷ States.l2_mapped ∷ States.l2_mmio_mapped
    ∷ States.l2_mmio_blocked ∷ States.nl_blocked ∷ States.nl_mapped ∷ States.l2_nl_blocked ∷ States.l2_nl_mapped ∷ []

abbrev pub status_numbers : List ℕ
status_numbers =
    Statuses.success ∷ Statuses.skipped ∷ Statuses.sept_walk_failed ∷ Statuses.sept_entry_state_incorrect ∷ Statuses.tlb_tracking_not_done
    ∷ Statuses.migrated_in_current_epoch ∷ Statuses.gpa_list_entry_invalid ∷ Statuses.page_dirty ∷ []

abbrev pub operation_numbers : List ℕ
operation_numbers =
    Operations.nop ∷ Operations.migrate ∷ Operations.cancel ∷ Operations.remigrate ∷ []

abbrev pub hint_numbers : List ℕ
hint_numbers =
    Hints.not_exported ∷ Hints.exported_modified ∷ Hints.exported_blocked ∷ Hints.exported_removed ∷ []

-- what OPERATION is called in a list for RESTORE
abbrev pub restore_numbers : List ℕ
restore_numbers = Operations.nop ∷ Operations.restore ∷ []
