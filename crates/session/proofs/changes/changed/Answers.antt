-- Each way out is the definition at the change that led there.
use Rattle.session.proofs.changes.changed.Goals as goal

pub returns-in-Nothing : goal.returns-in-Nothing
returns-in-Nothing c = rw c.in-Nothing.is

pub returns-in-ToPhase : goal.returns-in-ToPhase
returns-in-ToPhase c = rw c.in-ToPhase.is

pub returns-in-ToEpoch : goal.returns-in-ToEpoch
returns-in-ToEpoch c = rw c.in-ToEpoch.is

pub returns-in-ToClock : goal.returns-in-ToClock
returns-in-ToClock c = rw c.in-ToClock.is

pub returns-in-ToCheck : goal.returns-in-ToCheck
returns-in-ToCheck c = rw c.in-ToCheck.is

pub returns-in-Begin : goal.returns-in-Begin
returns-in-Begin c = rw c.in-Begin.is (rw (c.no_check.ensures, c.at_rest.ensures))

pub returns-in-ToWork : goal.returns-in-ToWork
returns-in-ToWork c = rw c.in-ToWork.is c.with_work.ensures
