-- What is asked of the number is asked of the state that it names.
use mathlib.Core.Path.{ap}
use mathlib.Core.Bool.{not}
use Rattle.page.proofs.queries.is_unstartable.Goals as goal

pub returns : goal.returns
returns c = rw (← c.state_of.ensures.result_value) (ap not c.is_startable.ensures)
