-- The tests are the definition's.
use borrow.Author.Rules.{rules}
use Rattle.restoring.specs.Restoring.{faulty}
use Rattle.restoring.proofs.is_faulty.Goals as goal

pub returns : goal.returns
unfolding faulty
returns c = search rules
