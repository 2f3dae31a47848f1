-- The rest of the run is the whole run; and no count passes the next index, which stops behind the last entry.
use mathlib.Core.Path.{sym, ◌∙◌}
use Prim.Native.Nat.{◌≤◌}
use native.Mathlib.Omega.{arith}
use Rattle.lists.specs.Kinds.{taken_by}
use Rattle.lists.specs.Run.{standing}
use Rattle.lists.proofs.Laws.{run-spent, run_end, run_step, returned, counts_step, next-step}
use Rattle.lists.proofs.runs.run_entries.Goals as goal

pub loop-preserved : goal.loop-preserved
loop-preserved g c = let words = g.T.Form.words in
    let here = standing c.loop.at (words c.loop.table) (words c.loop.list) (words c.loop.buffer) in
    let args = c.args in
    let f = taken_by args.kind args.g in
    let more : c.loop.at.next ≤ args.last = omega (arith, c.if-last-at.false) in (
      rw c.step-at.ensures.value (next-step f here args.last more),
      rw c.step-at.ensures.value (counts_step f here c.loop.invariant.1),
      rw (c.step-at.ensures.value, c.step-at.ensures.table_after, c.step-at.ensures.list_after, c.step-at.ensures.buffer_after)
          (sym (run_step f args.last args.budget c.loop.counter here c.loop-test.true more) ∙ c.loop.invariant.2),
    )

pub returns-then-last-at : goal.returns-then-last-at
returns-then-last-at g c =
    let all = (returned (sym (run_end _ _ _ _ c.if-last-at.true) ∙ c.loop.invariant.2)) in
    record {
      value = all.0;
      table_after = all.1.0;
      list_after = all.1.1.0;
      buffer_after = all.1.1.1;
    }

pub returns-after-loop : goal.returns-after-loop
returns-after-loop g c =
    let all = (returned (sym (run-spent _ _ _ _ _ (omega (arith, c.loop-test.false))) ∙ c.loop.invariant.2)) in
    record {
      value = all.0;
      table_after = all.1.0;
      list_after = all.1.1.0;
      buffer_after = all.1.1.1;
    }
