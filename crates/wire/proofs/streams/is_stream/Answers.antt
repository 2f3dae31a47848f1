-- Each way out is the definition at the test that led there.

use Rattle.wire.proofs.streams.is_stream.Goals as goal

pub returns-then-x : goal.returns-then-x
returns-then-x c = rw c.if-x.true

pub returns : goal.returns
returns c = rw c.if-x.false
