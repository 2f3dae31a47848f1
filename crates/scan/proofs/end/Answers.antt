-- Both ways out are the definition at the test.
use Rattle.scan.specs.Scan.{end_code}
use Rattle.scan.proofs.end.Goals as goal

pub returns-then-checking : goal.returns-then-checking
unfolding end_code
returns-then-checking c = rw c.if-checking.true

pub returns-else-checking : goal.returns-else-checking
unfolding end_code
returns-else-checking c = rw c.if-checking.false
