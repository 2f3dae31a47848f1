-- Each arm has the tests of its call: it has a move for the state where it takes the number to another.
use borrow.Author.Rules.{rules}
use mathlib.Core.Path.{ap}
use Rattle.records.specs.declared.Record.{Record}
use Rattle.page.specs.Page.{page_of}
use Rattle.page.specs.declared.moves.Move.TheVariants.{Add, Accept, Block, Unblock, Remove}
use Rattle.page.proofs.MoveLaws.{able}
use Rattle.page.proofs.moves.allow_move.Goals as goal

pub returns-in-Write : goal.returns-in-Write
returns-in-Write c = rw (c.in-Write.is, ← c.is_writable-writable.ensures) c.allow_enter.ensures

pub returns-in-Add : goal.returns-in-Add
returns-in-Add c = rw (
  c.in-Add.is,
  ← able Add c.args.w _ _ (search rules)
      c.state_of-n.ensures.result_value
      (rw c.in-Add.is at c.goal.ensures),
) c.allow_enter-in-Add.ensures

pub returns-in-Accept : goal.returns-in-Accept
returns-in-Accept c = rw (
  c.in-Accept.is,
  ← able Accept c.args.w _ _ (search rules)
      c.state_of-n.ensures.result_value
      (rw c.in-Accept.is at c.goal.ensures),
) c.allow_enter-in-Accept.ensures

pub returns-in-Block : goal.returns-in-Block
returns-in-Block c = rw (
  c.in-Block.is,
  ← able Block c.args.w _ _ (search rules)
      c.state_of-n.ensures.result_value
      (rw c.in-Block.is at c.goal.ensures),
) c.allow_enter-in-Block.ensures

pub returns-in-Unblock : goal.returns-in-Unblock
unfolding page_of
returns-in-Unblock c = rw (
  c.in-Unblock.is,
  ← able Unblock c.args.w _ _
      (search rules) c.state_of-n.ensures.result_value
      (rw c.in-Unblock.is at c.goal.ensures),
  ← ap (λ (r : Record). r.stamp) c.from-p.ensures.0,
  ← c.is_tracked-tracked.ensures,
) c.allow_leave.ensures

pub returns-in-Remove : goal.returns-in-Remove
unfolding page_of
returns-in-Remove c = rw (
  c.in-Remove.is,
  ← able Remove c.args.w _ _ (search rules)
      c.state_of-n.ensures.result_value
      (rw c.in-Remove.is at c.goal.ensures),
  ← ap (λ (r : Record). r.stamp) c.from-p.ensures.0,
  ← c.is_tracked-tracked.ensures,
) c.allow_leave-in-Remove.ensures
