-- The masks and the list agree at each number.
use borrow.Author.Rules.{rules}
use Rattle.states.specs.States.{number_by}
use Rattle.states.specs.Lists.{exports}
use Rattle.states.specs.Masks.{in_mask}
use Rattle.states.proofs.Masks.{none, picked, picked-list}
use Rattle.states.proofs.export_of.Goals as goal

pub returns : goal.returns
unfolding number_by in_mask
returns c = picked-list c.args.n exports (picked _ _ c.pick.ensures
    (picked _ _ c.pick-to-4.ensures
    (picked _ _ c.pick-to-3.ensures
    (picked _ _ c.pick-to-2.ensures (picked _ _ c.pick-to.ensures none))))) (search rules) tt
