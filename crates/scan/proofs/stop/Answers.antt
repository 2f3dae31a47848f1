-- Each way out is the definition at the tests that led there.
use borrow.Author.Rules.{rules}
use Rattle.scan.specs.Scan.{stop_code}
use Rattle.scan.proofs.stop.Goals as goal

pub returns-then-scan-i : goal.returns-then-scan-i
unfolding stop_code
returns-then-scan-i c = search rules

pub returns-then-scan-blocked : goal.returns-then-scan-blocked
unfolding stop_code
returns-then-scan-blocked c = search rules

pub returns-then-listed-room : goal.returns-then-listed-room
unfolding stop_code
returns-then-listed-room c = search rules

pub returns : goal.returns
unfolding stop_code
returns c = search rules
