-- The table and the list agree at each number.
use borrow.Author.Rules.{rules}
use Rattle.states.specs.States.{state_of, number_in}
use Rattle.states.specs.Lists.{operated}
use Rattle.states.specs.Masks.{packed_at}
use Rattle.states.proofs.Masks.{packed-list}
use Rattle.states.proofs.operation_of.Goals as goal

pub returns : goal.returns
unfolding number_in state_of packed_at
returns c = packed-list _ c.args.n operated c.packed_at.ensures (search rules) tt
