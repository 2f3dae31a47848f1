-- Each arm is its clause of the definition.
use Rattle.states.specs.States.{goes_by}
use Rattle.states.specs.Lists.{adds, accepts, blocks, unblocks, removes}
use Rattle.page.specs.Page.{page_of}
use Rattle.page.proofs.moves.moved.Goals as goal

pub returns-in-Write : goal.returns-in-Write
returns-in-Write c = λ e q. rw c.in-Write.is (c.store.ensures e)

pub returns-in-Add : goal.returns-in-Add
returns-in-Add c = λ e q. rw c.in-Add.is (c.empty.ensures (goes_by adds (page_of c.args.w).state) e
    (rw c.in-Add.is at q))

pub returns-in-Accept : goal.returns-in-Accept
returns-in-Accept c = λ e q. rw c.in-Accept.is (c.empty-in-Accept.ensures (goes_by accepts (page_of c.args.w).state) e
    (rw c.in-Accept.is at q))

pub returns-in-Block : goal.returns-in-Block
returns-in-Block c = λ e q. rw c.in-Block.is (c.restamp.ensures (goes_by blocks (page_of c.args.w).state) e
    (rw c.in-Block.is at q))

pub returns-in-Unblock : goal.returns-in-Unblock
returns-in-Unblock c = λ e q. rw c.in-Unblock.is (c.restamp-in-Unblock.ensures (goes_by unblocks (page_of c.args.w).state) e
    (rw c.in-Unblock.is at q))

pub returns-in-Remove : goal.returns-in-Remove
returns-in-Remove c = λ e q. rw c.in-Remove.is (c.empty-in-Remove.ensures (goes_by removes (page_of c.args.w).state) e
    (rw c.in-Remove.is at q))
