-- A refusal, the gate's or that of the call's own tests, leaves what came; behind both there is the run of the range, which lies in the table.
use mathlib.Core.Path.{sym, ap, ◌∙◌}
use lib.ListN.{length}
use Rattle.std.proofs.lemmas.Result.{err_from_is_err_and}
use Rattle.refusals.proofs.Laws.{number-pos}
use Rattle.session.proofs.Laws.{gate-refused, gate-passed}
use Rattle.scan.specs.Scan.{Scanned, answer_of, dscan_tests, dscan_code, dscan_out}
use Rattle.scan.proofs.Laws.{dscan-fits}
use Rattle.scan.proofs.dscan.Goals as goal

pub returns-in_err-gate : goal.returns-in_err-gate
unfolding dscan_out dscan_code
returns-in_err-gate c =
    let a = c.args in
    let p = err_from_is_err_and c.from_residual.result c.from_residual.ensures.1 in
    let refused = gate-refused a.s (length a.table.now) _ (dscan_tests a.s (length a.list.now) a.first a.count) _ c.in_err-gate.ensures in
    let no = number-pos c.in_err-gate.field-0.0 in
    record { value = rw (p.1, p.2, refused, no); table_after = rw (refused, no); list_after = rw (refused, no) }

pub returns-in_err-allow_dscan : goal.returns-in_err-allow_dscan
unfolding dscan_out dscan_code
returns-in_err-allow_dscan c =
    let a = c.args in
    let p = err_from_is_err_and c.from_residual-in_err-allow_dscan.result c.from_residual-in_err-allow_dscan.ensures.1 in
    let refused =
    gate-passed a.s (length a.table.now) _ (dscan_tests a.s (length a.list.now) a.first a.count) c.in_ok-gate.ensures
    ∙ sym c.in_err-allow_dscan.ensures in
    let no = number-pos c.in_err-allow_dscan.field-0.0 in
    record { value = rw (p.1, p.2, refused, no); table_after = rw (refused, no); list_after = rw (refused, no) }

pub scan_range-got-requires : goal.scan_range-got-requires
unfolding dscan_code
scan_range-got-requires c =
    let a = c.args in
    dscan-fits a.s _ (length a.list.now) a.first a.count
    (gate-passed a.s _ _ (dscan_tests a.s (length a.list.now) a.first a.count) c.in_ok-gate.ensures ∙ sym c.in_ok-allow_dscan.ensures)

pub returns : goal.returns
unfolding dscan_out dscan_code
returns c =
    let a = c.args in
    let ran =
    gate-passed a.s (length a.table.now) _ (dscan_tests a.s (length a.list.now) a.first a.count) c.in_ok-gate.ensures
    ∙ sym c.in_ok-allow_dscan.ensures in
    record {
      value = rw ran (c.answer.ensures ∙ ap (λ (g : Scanned). answer_of g a.s) c.scan_range-got.ensures.value);
      table_after = rw ran c.scan_range-got.ensures.table_after;
      list_after = rw ran c.scan_range-got.ensures.list_after;
    }
