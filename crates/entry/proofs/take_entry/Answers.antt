-- By the status: a success or a failure.
use Rattle.entry.specs.Entry.{taken_of}
use Rattle.entry.proofs.Laws.{failure-pos}
use Rattle.entry.proofs.take_entry.Goals as goal

pub returns-in-Ok : goal.returns-in-Ok
unfolding taken_of
returns-in-Ok c = rw (← c.from-e.ensures.0, ← c.allow_entry.ensures, c.in-Ok.is) c.succeed.ensures

pub returns-in-Err : goal.returns-in-Err
unfolding taken_of
returns-in-Err c = rw (← c.from-e.ensures.0, ← c.allow_entry.ensures, c.in-Err.is, failure-pos c.in-Err.failure) c.fail.ensures
