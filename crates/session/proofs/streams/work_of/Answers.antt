-- The eight places are the list's.
use borrow.Author.Tests.{lt-ltb, le-ltb}
use Rattle.session.specs.Session.{work_of}
use Rattle.session.proofs.streams.work_of.Goals as goal

pub returns-then-at : goal.returns-then-at
unfolding work_of
returns-then-at c = rw (lt-ltb _ _ c.if-at.true)

pub returns : goal.returns
unfolding work_of
returns c = rw (le-ltb _ _ c.if-at.false)
