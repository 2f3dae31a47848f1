-- A refusal is the definition's, by the gate's test or by one behind it; past both the rest of the run is the definition's.
use mathlib.Core.Path.{◌≡◌, sym, ap, ◌∙◌}
use lib.ListN.{length}
use Rattle.std.proofs.lemmas.Result.{err_from_is_err_and}
use Rattle.session.specs.Session.{work_of}
use Rattle.session.proofs.Laws.{below_next}
use Rattle.lists.specs.Run.{standing}
use Rattle.lists.proofs.Laws.{run-bounds}
use Rattle.export.specs.Export.{export_step, begun_by}
use Rattle.export.proofs.Laws.{export-stopped, export-passed, export-refused, export-ran, finished-ended, export-ready}
use Rattle.export.proofs.export.Goals as goal

pub returns-in_err-gate : goal.returns-in_err-gate
returns-in_err-gate c =
    let a = c.args in
    let p = err_from_is_err_and c.from_residual.result c.from_residual.ensures.1 in
    let e = export-refused a.s a.table.now a.list.now a.buffer.now a.stream a.resume a.info a.budget _
    (export-stopped a.s _ _ _ a.stream a.resume _ _ c.in_err-gate.ensures) in
    record { value = rw (p.1, p.2, e); table_after = rw e; list_after = rw e; buffer_after = rw e }

pub returns-in_err-allow_export : goal.returns-in_err-allow_export
returns-in_err-allow_export c =
    let a = c.args in
    let p = err_from_is_err_and c.from_residual-in_err-allow_export.result c.from_residual-in_err-allow_export.ensures.1 in
    let told = export-passed a.s _ _ _ a.stream a.resume _ c.in_ok-gate.ensures
    ∙ sym (rw (c.work_of-work.ensures, c.from-x.ensures.0) at c.in_err-allow_export.ensures) in
    let e = export-refused a.s a.table.now a.list.now a.buffer.now a.stream a.resume a.info a.budget _ told in
    record { value = rw (p.1, p.2, e); table_after = rw e; list_after = rw e; buffer_after = rw e }

pub run_entries-at-requires : goal.run_entries-at-requires
run_entries-at-requires c =
    let a = c.args in
    let told = export-passed a.s _ _ _ a.stream a.resume _ c.in_ok-gate.ensures ∙ sym (rw c.work_of-work.ensures at c.in_ok-allow_export.ensures) in
    let ready = export-ready a.s _ _ _ a.stream a.resume c.from-x.result told in
    let from : c.begin-from.result ≡ begun_by (work_of a.s a.stream) = c.begin-from.ensures ∙ ap begun_by c.work_of-work.ensures in
    (ready.within, ready.short, rw from (below_next _ _ ready.ordered), rw from ready.counts.errors, rw from ready.counts.filled)

pub end-ended-requires : goal.end-ended-requires
end-ended-requires c =
    let a = c.args in
    let told = export-passed a.s (length a.table.now) (length a.list.now) (length a.buffer.now) a.stream a.resume _ c.in_ok-gate.ensures ∙ sym (rw c.work_of-work.ensures at c.in_ok-allow_export.ensures) in
    let ready = export-ready a.s _ _ _ a.stream a.resume c.from-x.result told in
    let from : c.begin-from.result ≡ begun_by (work_of a.s a.stream) = c.begin-from.ensures ∙ ap begun_by c.work_of-work.ensures in
    let bounds =
    run-bounds (export_step c.ground_of-g.result) c.from-x.result.last a.budget
    (standing (begun_by (work_of a.s a.stream)) a.table.now a.list.now a.buffer.now)
    (record { next = below_next _ _ ready.ordered; counts = ready.counts })
    in
    (ready.short, rw (c.run_entries-at.ensures.value, from) bounds.next, rw (c.run_entries-at.ensures.value, from) bounds.counts.filled)

pub returns : goal.returns
returns c =
    let a = c.args in
    let told = export-passed a.s _ _ _ a.stream a.resume _ c.in_ok-gate.ensures
    ∙ sym (rw (c.work_of-work.ensures, c.from-x.ensures.0) at c.in_ok-allow_export.ensures) in
    let e = export-ran a.s a.table.now a.list.now a.buffer.now a.stream a.resume a.info a.budget told in
    let from = c.begin-from.ensures ∙ ap begun_by c.work_of-work.ensures in
    record {
      value =
          rw (
            e,
            ← c.from-x.ensures.0,
            ← c.ground_of-g.ensures,
            ← from,
            ← c.run_entries-at.ensures.value,
            ← finished-ended a.s a.stream c.from-x.result c.run_entries-at.result,
            ← c.end-ended.ensures,
            ← c.changed-session.ensures,
          );
      table_after = rw (e, ← c.from-x.ensures.0, ← c.ground_of-g.ensures, ← from) c.run_entries-at.ensures.table_after;
      list_after = rw (e, ← c.from-x.ensures.0, ← c.ground_of-g.ensures, ← from) c.run_entries-at.ensures.list_after;
      buffer_after = rw (e, ← c.from-x.ensures.0, ← c.ground_of-g.ensures, ← from) c.run_entries-at.ensures.buffer_after;
    }
