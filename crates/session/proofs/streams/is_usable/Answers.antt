-- Past the first test N is above the index, so that its successor is a number.
use borrow.Author.Tests.{le-ltb}
use Rattle.session.proofs.Laws.{below_next}
use Rattle.session.proofs.streams.is_usable.Goals as goal

pub returns-then-created-at : goal.returns-then-created-at
returns-then-created-at c = rw (le-ltb _ _ (below_next _ _ c.if-created-at.true))
