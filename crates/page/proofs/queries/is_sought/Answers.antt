-- Each arm is its clause of the definition.
use Rattle.page.proofs.queries.is_sought.Goals as goal

pub returns-in-Blocked : goal.returns-in-Blocked
returns-in-Blocked c = rw c.in-Blocked.is c.is_blocked.ensures

pub returns-in-Unstartable : goal.returns-in-Unstartable
returns-in-Unstartable c = rw c.in-Unstartable.is c.is_unstartable.ensures

pub returns-in-Gives53 : goal.returns-in-Gives53
returns-in-Gives53 c = rw c.in-Gives53.is c.gives_53.ensures

pub returns-in-Gives54 : goal.returns-in-Gives54
returns-in-Gives54 c = rw c.in-Gives54.is c.gives_54.ensures
