-- Each arm is the list of its call.
use Rattle.states.specs.States.{number_by}
use Rattle.page.proofs.moves.goal.Goals as goal

pub returns-in-Write : goal.returns-in-Write
unfolding number_by
returns-in-Write c = rw c.in-Write.is

pub returns-in-Add : goal.returns-in-Add
returns-in-Add c = rw c.in-Add.is c.add_of.ensures

pub returns-in-Accept : goal.returns-in-Accept
returns-in-Accept c = rw c.in-Accept.is c.accept_of.ensures

pub returns-in-Block : goal.returns-in-Block
returns-in-Block c = rw c.in-Block.is c.block_of.ensures

pub returns-in-Unblock : goal.returns-in-Unblock
returns-in-Unblock c = rw c.in-Unblock.is c.unblock_of.ensures

pub returns-in-Remove : goal.returns-in-Remove
returns-in-Remove c = rw c.in-Remove.is c.remove_of.ensures
