-- In the layouts what is left is by the code (`new-left`), and else 40.
use mathlib.Core.Path.{◌≡◌, ◌∙◌}
use lib.ListN.{length, replicate}
use borrow.Author.Rules.{rules}
use borrow.Author.Tests.{eq-eqb}
use Rattle.refusals.proofs.Laws.{number-pos}
use Rattle.calls.specs.declared.Call.TheVariants.{New}
use Rattle.host.specs.Host.{lent}
use Rattle.host.proofs.LayoutLaws.{host-none, host-unlent}
use Rattle.host.proofs.SweepLaws.{new-left}
use Rattle.host.proofs.sweeps.new.Goals as goal

pub returns-in_err-session : goal.returns-in_err-session
returns-in_err-session c =
    let none = rw c.in_err-session.ensures.ok_part at c.as_mut_array.ensures.cases in
    let e = host-unlent (New c.args.created) (lent c.args.session.now c.args.table.now) none in
    record { value = rw e (search rules); session_after = rw e; table_after = rw e }

pub returns-then-not-is_table : goal.returns-then-not-is_table
returns-then-not-is_table c =
    let chunk = rw c.in_ok-session.ensures.ok_part at c.as_mut_array.ensures.cases in
    let e = host-none (New c.args.created) (lent c.args.session.now c.args.table.now)
    (rw (eq-eqb _ _ chunk.long, ← c.is_table.ensures, c.if-not-is_table.true)) in
    record { value = rw e; session_after = rw e chunk.same; table_after = rw e }

pub returns-in_err-allow_new : goal.returns-in_err-allow_new
returns-in_err-allow_new c =
    let a = c.args in
    let chunk = rw c.in_ok-session.ensures.ok_part at c.as_mut_array.ensures.cases in
    let left = new-left a.created a.session.now a.table.now (rw (eq-eqb _ _ chunk.long, ← c.is_table.ensures) c.if-not-is_table.false) in
    let kept = rw (← c.in_err-allow_new.ensures, number-pos c.in_err-allow_new.field-0.0) at left in
    record { value = rw (← kept.0) (search rules); session_after = chunk.same ∙ kept.1.0; table_after = kept.1.1 }

pub returns : goal.returns
returns c =
    let a = c.args in
    let chunk = rw c.in_ok-session.ensures.ok_part at c.as_mut_array.ensures.cases in
    let left = new-left a.created a.session.now a.table.now (rw (eq-eqb _ _ chunk.long, ← c.is_table.ensures) c.if-not-is_table.false) in
    let done = rw (← c.in_ok-allow_new.ensures) at left in
    let zeros : c.fill.new.self ≡ replicate (length a.table.now) 0 = search rules in
    record {
      value = done.0;
      session_after = rw c.new_session-made.ensures at c.put_session.ensures ∙ done.1.0;
      table_after = zeros ∙ done.1.1;
    }
