-- Each branch says what the mask did.
use Rattle.states.proofs.pick.Goals as goal

pub returns-then-is_in : goal.returns-then-is_in
returns-then-is_in c = rw (← c.is_in.ensures, c.if-is_in.true)

pub returns-else-is_in : goal.returns-else-is_in
returns-else-is_in c = rw (← c.is_in.ensures, c.if-is_in.false)
