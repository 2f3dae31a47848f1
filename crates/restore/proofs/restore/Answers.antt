-- A refusal is the definition's, by the gate's test or by one behind it; past both the rest of the run is the definition's.
use mathlib.Core.Path.{sym, ◌∙◌}
use lib.ListN.{length}
use Rattle.std.proofs.lemmas.Result.{err_from_is_err_and}
use Rattle.session.proofs.Laws.{below_next}
use Rattle.restore.proofs.Laws.{restore-stopped, restore-passed, restore-refused, restore-ran, Ready, restore-ready, begun-counts}
use Rattle.restore.proofs.restore.Goals as goal

pub returns-in_err-gate : goal.returns-in_err-gate
returns-in_err-gate c =
    let a = c.args in
    let p = err_from_is_err_and c.from_residual.result c.from_residual.ensures.1 in
    let e = restore-refused a.s a.table.now a.list.now a.info a.budget _ (restore-stopped a.s _ _ _ _ c.in_err-gate.ensures) in
    record { value = rw (p.1, p.2, e); table_after = rw e; list_after = rw e }

pub returns-in_err-allow_restore : goal.returns-in_err-allow_restore
returns-in_err-allow_restore c =
    let a = c.args in
    let p = err_from_is_err_and c.from_residual-in_err-allow_restore.result c.from_residual-in_err-allow_restore.ensures.1 in
    let told = restore-passed a.s _ _ _ c.in_ok-gate.ensures ∙ sym (rw c.from-x.ensures.0 at c.in_err-allow_restore.ensures) in
    let e = restore-refused a.s a.table.now a.list.now a.info a.budget _ told in
    record { value = rw (p.1, p.2, e); table_after = rw e; list_after = rw e }

pub run_entries-at-requires : goal.run_entries-at-requires
run_entries-at-requires c =
    let a = c.args in
    let told = restore-passed a.s (length a.table.now) (length a.list.now) c.from-x.result c.in_ok-gate.ensures ∙ sym c.in_ok-allow_restore.ensures in
    -- past the tests
    let ready : Ready (length a.list.now) c.from-x.result = restore-ready _ _ _ _ told in
    let counts = begun-counts c.from-x.result in
    let from = c.begin-from.ensures in
    (ready.within, ready.short, rw from (below_next _ _ ready.ordered), rw from counts.errors, rw from counts.filled)

pub returns : goal.returns
returns c =
    let a = c.args in
    let told = restore-passed a.s _ _ _ c.in_ok-gate.ensures ∙ sym (rw c.from-x.ensures.0 at c.in_ok-allow_restore.ensures) in
    let e = restore-ran a.s a.table.now a.list.now a.info a.budget told in
    let ran = c.run_entries-at.ensures in
    record {
      value = rw (e, ← c.from-x.ensures.0, ← c.ground_of-g.ensures, ← c.begin-from.ensures) (rw (← ran.value, ← c.end-ended.ensures));
      table_after = rw (e, ← c.from-x.ensures.0, ← c.ground_of-g.ensures, ← c.begin-from.ensures) ran.table_after;
      list_after = rw (e, ← c.from-x.ensures.0, ← c.ground_of-g.ensures, ← c.begin-from.ensures) ran.list_after;
    }
