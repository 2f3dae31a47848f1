-- What only the contracts of the functions inside cite.
use Rattle.std.specs.Prelude.{Bool, not, Result, Ok, Err, List, [], ◌∷◌, ℕ}
use Rattle.words.specs.Codes as codes
use Rattle.refusals.specs.Refusals.{◌gives◌, first_of, number_of, ending_number}
use Rattle.refusals.specs.declared.Refusal.{Refusal}
use Rattle.session.specs.Session.{moving}
use Rattle.session.specs.Formed.{phase_tests}
use Rattle.scan.specs.Scan.{Scanned, scanned_of, written_of}
use Rattle.scan.specs.declared.Scanned as scanning
use Rattle.export.specs.Export.{Ended}
use Rattle.host_lists.specs.declared.exports.Sent as exporting
use Rattle.restore.specs.declared.Ended as restoring
use Rattle.wire.specs.Bytes.{words_of}
use Rattle.wire.specs.Sessions.{session_of}
use Rattle.host.specs.Host.{Numbers, code_alone}

-- how a scan that ran is told in numbers
abbrev pub scanned_numbers : Scanned → Numbers
scanned_numbers g =
    let w = written_of g.put in
    record { code = g.code; page = 0; next = g.next; first = w.first; last = w.last; info = 0; errors = 0; buffers = 0 }

-- and an export
abbrev pub ended_numbers : Ended → Numbers
ended_numbers e =
    record { code = e.code; page = 0; next = 0; first = 0; last = 0; info = e.info; errors = e.errors; buffers = e.buffers }

-- each of what came of a call: the numbers of one that ran, and of a refusal its code alone
abbrev pub scan_numbers : Result scanning.Scanned Refusal → Numbers
scan_numbers (Ok g) = scanned_numbers (scanned_of g)
scan_numbers (Err r) = code_alone (number_of r)

abbrev pub export_numbers : Result exporting.Sent Refusal → Numbers
export_numbers (Ok e) =
    record { code = ending_number e.ending; page = 0; next = 0; first = 0; last = 0; info = e.info; errors = e.errors; buffers = e.buffers }
export_numbers (Err r) = code_alone (number_of r)

abbrev pub restore_numbers : Result restoring.Ended Refusal → Numbers
restore_numbers (Ok e) =
    record { code = ending_number e.ending; page = 0; next = 0; first = 0; last = 0; info = e.info; errors = 0; buffers = 0 }
restore_numbers (Err r) = code_alone (number_of r)

-- an export past 40: 41, and 42 of what is no list, no buffer or no resume
abbrev pub export_gate : List ℕ → Bool → ℕ
export_gate s words = first_of (phase_tests (session_of (words_of s)).phase moving (not words gives codes.operand_invalid ∷ []))
