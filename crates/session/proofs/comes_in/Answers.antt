-- Each arm is the row of its phase.
use Rattle.session.proofs.comes_in.Goals as goal

pub returns-in-Idle : goal.returns-in-Idle
returns-in-Idle c = rw c.in-Idle.is

pub returns-in-Live : goal.returns-in-Live
returns-in-Live c = rw c.in-Live.is

pub returns-in-Blackout : goal.returns-in-Blackout
returns-in-Blackout c = rw c.in-Blackout.is

pub returns-in-Done : goal.returns-in-Done
returns-in-Done c = rw c.in-Done.is
