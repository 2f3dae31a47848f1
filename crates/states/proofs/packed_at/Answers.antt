-- Each branch says what the definition does.
use borrow.Author.Tests.{lt-ltb, le-ltb}
use Rattle.states.specs.Masks.{packed_at}
use Rattle.states.proofs.packed_at.Goals as goal

pub returns-then-n-lt32 : goal.returns-then-n-lt32
unfolding packed_at
returns-then-n-lt32 c = rw (lt-ltb _ _ c.if-n-lt32.true)

pub returns-else-n-lt32 : goal.returns-else-n-lt32
unfolding packed_at
returns-else-n-lt32 c = rw (le-ltb _ _ c.if-n-lt32.false)
