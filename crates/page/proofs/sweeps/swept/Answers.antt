-- Each arm is its clause of the definition.
use Rattle.page.specs.Page.{page_of}
use Rattle.page.proofs.sweeps.swept.Goals as goal

pub returns-in-Track : goal.returns-in-Track
returns-in-Track c = λ e q. rw c.in-Track.is (c.uncache.ensures e)

pub returns-in-Start : goal.returns-in-Start
returns-in-Start c = λ e q. rw c.in-Start.is (c.refresh.ensures (page_of c.args.w).state e q)

pub returns-in-Pause : goal.returns-in-Pause
returns-in-Pause c = λ e q. rw c.in-Pause.is (c.uncache-in-Pause.ensures e)
