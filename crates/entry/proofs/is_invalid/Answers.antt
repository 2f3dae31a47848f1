-- The test is the definition's.
use borrow.Author.Rules.{rules}
use Rattle.entry.specs.Entry.{invalid}
use Rattle.entry.proofs.is_invalid.Goals as goal

pub returns : goal.returns
unfolding invalid
returns c = search rules
