-- Both ways out are the definition at the test.
use borrow.Author.Rules.{rules}
use Rattle.scan.specs.Scan.{written_of}
use Rattle.scan.proofs.written_of.Goals as goal

pub returns-in-Some : goal.returns-in-Some
unfolding written_of
returns-in-Some c = search rules

pub returns-in-None : goal.returns-in-None
unfolding written_of
returns-in-None c = search rules
