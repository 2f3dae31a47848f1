-- Past 40 the gate asks for the phase alone, and the law tells the rest.
use mathlib.Core.Path.{sym, ◌∙◌}
use Rattle.std.proofs.lemmas.Result.{err_from_is_err_and}
use Rattle.session.proofs.Laws.{gate-formed}
use Rattle.migration.proofs.Laws.{sweep-gate, sweep-refused, sweep-told}
use Rattle.wire.specs.Bytes.{words_of}
use Rattle.wire.specs.Sessions.{session_of}
use Rattle.host.proofs.LayoutLaws.{sound-means, table-formed}
use Rattle.host.proofs.sweeps.verdict_at.Goals as goal

pub returns-in_err-allow_phase : goal.returns-in_err-allow_phase
returns-in_err-allow_phase c = λ e.
    let a = c.args in
    let s = session_of (words_of a.session.now) in
    let t = words_of a.table.now in
    let p = err_from_is_err_and c.from_residual.result c.from_residual.ensures.1 in
    let gate = rw (c.phase_at.ensures, c.sweep_when.ensures) at c.in_err-allow_phase.ensures
    ∙ sym (gate-formed s _ _ _ (table-formed a.session.now a.table.now (sound-means _ _ e))) in
    rw (p.1, p.2) (sweep-refused a.k s t _ ∙ sweep-gate a.k s t _ gate)

pub returns : goal.returns
returns c = λ e.
    let a = c.args in
    let s = session_of (words_of a.session.now) in
    let gate = rw (c.phase_at.ensures, c.sweep_when.ensures) at c.in_ok-allow_phase.ensures
    ∙ sym (gate-formed s _ _ _ (table-formed a.session.now a.table.now (sound-means _ _ e))) in
    rw (c.sweep_verdict.ensures, c.is_busy.ensures, c.clock_at.ensures)
    (sweep-told a.k s (words_of a.table.now) 0 _ gate (λ z. rw c.stops_at.ensures at c.is_stopped-stops.ensures))
