-- By the status: a success or a failure.
use Rattle.entry.proofs.Laws.{failure-pos}
use Rattle.restoring.specs.Restoring.{restored_of}
use Rattle.restoring.proofs.take_entry.Goals as goal

pub returns-in-Ok : goal.returns-in-Ok
unfolding restored_of
returns-in-Ok c = rw (← (rw c.from-e.ensures.0 at c.allow_restored.ensures), c.in-Ok.is) c.succeed.ensures

pub returns-in-Err : goal.returns-in-Err
unfolding restored_of
returns-in-Err c = rw (← (rw c.from-e.ensures.0 at c.allow_restored.ensures), c.in-Err.is, failure-pos c.in-Err.failure) c.fail.ensures
