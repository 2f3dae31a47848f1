-- The gate's refusal is the call's; behind a gate that is passed the outcome is that of what the call comes to.
use mathlib.Core.Path.{sym, ◌∙◌}
use Rattle.std.proofs.Common.{rules}
use Rattle.std.proofs.lemmas.Result.{err_from_is_err_and}
use Rattle.session.specs.Outcome.{answered}
use Rattle.migration.proofs.Laws.{sweep-gate, sweep-refused, sweep-told}
use Rattle.migration.proofs.on_all.Goals as goal

pub returns-in_err-gate : goal.returns-in_err-gate
returns-in_err-gate c = search (rules, sweep-gate)

pub returns-in_err-change : goal.returns-in_err-change
returns-in_err-change c =
    let p = err_from_is_err_and c.from_residual-in_err-change.result c.from_residual-in_err-change.ensures.1 in
    let told = sweep-told c.args.k c.args.s c.args.table.now 0 _ (search rules) (λ z. rw c.stops_at.ensures at c.is_stopped-stops.ensures) in
    let e = sym (sweep-refused c.args.k c.args.s c.args.table.now _) ∙ (rw (← c.is_busy.ensures, ← c.in_err-change.ensures) at told) in
    record { value = rw (p.1, p.2, ← e); table_after = rw (← e) }

pub returns : goal.returns
unfolding answered
returns c =
    let told = sweep-told c.args.k c.args.s c.args.table.now 0 _ (search rules) (λ z. rw c.stops_at.ensures at c.is_stopped-stops.ensures) in
    let e = rw (← c.is_busy.ensures, ← c.in_ok-change.ensures) at told in
    record { value = rw (← e, c.changed.ensures); table_after = rw (← e) c.sweep_all.ensures }
