-- A call's tests in their order, each with the code that it gives where it holds.
use Rattle.std.specs.Prelude.{Bool, cond, List, [], ◌∷◌, ℕ, Result, Ok, Err}
use Rattle.words.specs.Codes as codes
use Rattle.refusals.specs.declared.Refusal.{Refusal}
use Rattle.refusals.specs.declared.Refusal.TheVariants as refusal
use Rattle.refusals.specs.declared.Ending.{Ending}
use Rattle.refusals.specs.declared.Ending.TheVariants as ending

pub record Test : Type 0 where
  pub holds : Bool
  pub code : ℕ

infixl 70 ◌gives◌
abbrev pub ◌gives◌ : Bool → ℕ → Test
b gives n = record { holds = b; code = n }

-- the code of the first test that holds; 0 where none does
abbrev pub first_of : List Test → ℕ
first_of [] = 0
first_of (t ∷ l) = cond t.holds t.code (first_of l)

-- the code that each refusal has
abbrev pub number_of : Refusal → ℕ
number_of refusal.Malformed = codes.malformed
number_of refusal.OpStateIncorrect = codes.op_state_incorrect
number_of refusal.OperandInvalid = codes.operand_invalid
number_of refusal.OperandBusy = codes.operand_busy
number_of refusal.InvalidResumption = codes.invalid_resumption
number_of refusal.EptEntryStateIncorrect = codes.ept_entry_state_incorrect
number_of refusal.GpaRangeNotBlocked = codes.gpa_range_not_blocked
number_of refusal.TlbTrackingNotDone = codes.tlb_tracking_not_done
number_of refusal.BlockedMemoryExists = codes.blocked_memory_exists
number_of refusal.BlockingDisallowed = codes.blocking_disallowed
number_of refusal.MemScanResetRequired = codes.mem_scan_reset_required
number_of refusal.MemScanDcheckNotDone = codes.mem_scan_dcheck_not_done
number_of refusal.ExportedDirtyPagesRemain = codes.exported_dirty_pages_remain
number_of refusal.UnexportedMemoryRemains = codes.unexported_memory_remains
number_of refusal.MigrationEpochOverflow = codes.migration_epoch_overflow
number_of refusal.TlbEpochAtLimit = codes.tlb_epoch_at_limit

-- and each way to end
abbrev pub ending_number : Ending → ℕ
ending_number ending.Done = codes.done
ending_number ending.Interrupted = codes.interrupted
ending_number ending.ListFull = codes.list_full
ending_number ending.CheckComplete = codes.check_complete
ending_number ending.MemScanFailedBlockedRange = codes.mem_scan_failed_blocked_range

-- the code of what came of a call's tests: 0 where none holds
abbrev pub code_of : {T : Type 0} → Result T Refusal → ℕ
code_of (Ok x) = 0
code_of (Err r) = number_of r
