-- Each way out is the definition at the test that led there.
use Rattle.session.specs.Formed.{gated}
use Rattle.session.proofs.gate.Goals as goal

pub returns-then-not-is_formed : goal.returns-then-not-is_formed
unfolding gated
returns-then-not-is_formed c = rw (← c.is_formed.ensures, c.if-not-is_formed.true)

pub returns : goal.returns
unfolding gated
returns c = rw (← c.is_formed.ensures, c.if-not-is_formed.false) c.allow_phase.ensures
