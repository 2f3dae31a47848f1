-- The eight places are the list's.
use borrow.Author.Tests.{lt-ltb, le-ltb}
use Rattle.session.specs.Session.{with_work}
use Rattle.session.proofs.streams.with_work.Goals as goal

pub returns-then-at : goal.returns-then-at
unfolding with_work
returns-then-at c = rw (lt-ltb _ _ c.if-at.true)

pub returns : goal.returns
unfolding with_work
returns c = rw (le-ltb _ _ c.if-at.false)
