-- The ground is the session's own numbers.
use borrow.Author.Rules.{rules}
use Rattle.entry.specs.Entry.{ground_of}
use Rattle.entry.proofs.ground_of.Goals as goal

pub returns : goal.returns
unfolding ground_of
returns c = search rules
