-- By the phase's row: in Idle, and elsewhere.
use Rattle.session.specs.declared.Comes.{Comes}
use mathlib.Core.Path.{ap}
use Rattle.session.proofs.is_epoch_in.Goals as goal

pub returns-then-comes : goal.returns-then-comes
returns-then-comes c = rw (← ap (λ (x : Comes). x.idle) c.comes_in-comes.ensures, c.if-comes.true)

pub returns : goal.returns
returns c = rw (← ap (λ (x : Comes). x.idle) c.comes_in-comes.ensures, c.if-comes.false)
