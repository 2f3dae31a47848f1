-- The definition says what the code computes.
use borrow.Author.Rules.{rules}
use Rattle.states.specs.Masks.{in_mask}
use Rattle.states.proofs.is_in.Goals as goal

pub returns : goal.returns
unfolding in_mask
returns c = search rules
