-- Each arm is its column of the phase's row.
use Rattle.session.specs.declared.Comes.{Comes}
use mathlib.Core.Path.{ap}
use Rattle.session.proofs.is_in.Goals as goal

pub returns-in-Guest : goal.returns-in-Guest
returns-in-Guest c = rw c.in-Guest.is (ap (λ (x : Comes). x.guest) c.comes_in-comes.ensures)

pub returns-in-Idle : goal.returns-in-Idle
returns-in-Idle c = rw c.in-Idle.is (ap (λ (x : Comes). x.idle) c.comes_in-comes.ensures)

pub returns-in-Live : goal.returns-in-Live
returns-in-Live c = rw c.in-Live.is (ap (λ (x : Comes). x.live) c.comes_in-comes.ensures)

pub returns-in-Blackout : goal.returns-in-Blackout
returns-in-Blackout c = rw c.in-Blackout.is (ap (λ (x : Comes). x.blackout) c.comes_in-comes.ensures)

pub returns-in-Moving : goal.returns-in-Moving
returns-in-Moving c = rw c.in-Moving.is (ap (λ (x : Comes). x.moving) c.comes_in-comes.ensures)
