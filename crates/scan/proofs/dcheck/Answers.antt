-- A refusal, the gate's or that of the call's own tests, leaves what came; behind both there is the run from the session's place to the end of the table.
use mathlib.Core.Path.{sym, ◌∙◌}
use lib.ListN.{length}
use Rattle.std.proofs.lemmas.Result.{err_from_is_err_and}
use Rattle.refusals.proofs.Laws.{number-pos}
use Rattle.session.proofs.Laws.{gate-refused, gate-passed}
use Rattle.scan.specs.Scan.{checked_by, dcheck_tests, dcheck_code, dcheck_out}
use Rattle.scan.proofs.Laws.{dcheck-fits}
use Rattle.scan.proofs.dcheck.Goals as goal

pub returns-in_err-gate : goal.returns-in_err-gate
unfolding dcheck_out dcheck_code
returns-in_err-gate c =
    let a = c.args in
    let p = err_from_is_err_and c.from_residual.result c.from_residual.ensures.1 in
    let refused = gate-refused a.s (length a.table.now) _ (dcheck_tests a.s (length a.list.now)) _ c.in_err-gate.ensures in
    let no = number-pos c.in_err-gate.field-0.0 in
    record { value = rw (p.1, p.2, refused, no); table_after = rw (refused, no); list_after = rw (refused, no) }

pub returns-in_err-allow_dcheck : goal.returns-in_err-allow_dcheck
unfolding dcheck_out dcheck_code
returns-in_err-allow_dcheck c =
    let a = c.args in
    let p = err_from_is_err_and c.from_residual-in_err-allow_dcheck.result c.from_residual-in_err-allow_dcheck.ensures.1 in
    let refused =
    gate-passed a.s (length a.table.now) _ (dcheck_tests a.s (length a.list.now)) c.in_ok-gate.ensures ∙ sym c.in_err-allow_dcheck.ensures in
    let no = number-pos c.in_err-allow_dcheck.field-0.0 in
    record { value = rw (p.1, p.2, refused, no); table_after = rw (refused, no); list_after = rw (refused, no) }

pub overflow_sub-s : goal.overflow_sub-s
unfolding dcheck_code
overflow_sub-s c =
    let a = c.args in
    (dcheck-fits a.s (length a.table.now) (length a.list.now)
    (gate-passed a.s _ _ (dcheck_tests a.s (length a.list.now)) c.in_ok-gate.ensures ∙ sym c.in_ok-allow_dcheck.ensures)).0

pub scan_range-got-requires : goal.scan_range-got-requires
unfolding dcheck_code
scan_range-got-requires c =
    let a = c.args in
    (dcheck-fits a.s (length a.table.now) (length a.list.now)
    (gate-passed a.s _ _ (dcheck_tests a.s (length a.list.now)) c.in_ok-gate.ensures ∙ sym c.in_ok-allow_dcheck.ensures)).1

pub returns : goal.returns
unfolding dcheck_out dcheck_code checked_by
returns c =
    let a = c.args in
    let ran =
    gate-passed a.s (length a.table.now) _ (dcheck_tests a.s (length a.list.now)) c.in_ok-gate.ensures ∙ sym c.in_ok-allow_dcheck.ensures in
    record {
      value = rw (ran, ← c.scan_range-got.ensures.value, ← c.check_after.ensures, ← c.changed-session.ensures) c.answer.ensures;
      table_after = rw ran c.scan_range-got.ensures.table_after;
      list_after = rw ran c.scan_range-got.ensures.list_after;
    }
