-- Each way out is the definition at the change that led there.
use borrow.Author.Tests.{lt-ltb, le-ltb}
use Rattle.wire.specs.Sessions.{written_by}
use Rattle.wire.proofs.sessions.put_change.Goals as goal

pub returns-in-Nothing : goal.returns-in-Nothing
unfolding written_by
returns-in-Nothing c = rw c.in-Nothing.is

pub returns-in-ToPhase : goal.returns-in-ToPhase
unfolding written_by
returns-in-ToPhase c = rw (c.in-ToPhase.is, ← c.from.ensures) c.put_number.ensures

pub returns-in-ToEpoch : goal.returns-in-ToEpoch
unfolding written_by
returns-in-ToEpoch c = rw c.in-ToEpoch.is c.put_number-in-ToEpoch.ensures

pub returns-in-ToClock : goal.returns-in-ToClock
unfolding written_by
returns-in-ToClock c = rw c.in-ToClock.is c.put_number-in-ToClock.ensures

pub returns-in-ToCheck : goal.returns-in-ToCheck
unfolding written_by
returns-in-ToCheck c = rw c.in-ToCheck.is c.put_check.ensures

pub returns-in-Begin : goal.returns-in-Begin
unfolding written_by
returns-in-Begin c = rw (
  c.in-Begin.is,
  c.rest_streams.ensures,
  c.put_check-in-Begin.ensures,
  c.no_check.ensures,
  c.put_number-in-Begin-2.ensures,
  c.put_number-in-Begin.ensures,
  c.from-in-Begin.ensures,
)

pub returns-then-stream : goal.returns-then-stream
unfolding written_by
returns-then-stream c = rw (c.in-ToWork.is, lt-ltb _ _ c.if-stream.true) c.put_work.ensures

pub returns-else-stream : goal.returns-else-stream
unfolding written_by
returns-else-stream c = rw (c.in-ToWork.is, le-ltb _ _ c.if-stream.false)
