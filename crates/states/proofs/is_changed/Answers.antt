-- The mask and the list agree at each number.
use borrow.Author.Rules.{rules}
use Rattle.states.specs.States.{state_of, is_in}
use Rattle.states.specs.Lists.{changed_states}
use Rattle.states.specs.Masks.{in_mask}
use Rattle.states.proofs.Masks.{mask-list}
use Rattle.states.proofs.is_changed.Goals as goal

pub returns : goal.returns
unfolding is_in state_of in_mask
returns c = mask-list _ c.args.n changed_states c.is_in.ensures (search rules) tt
