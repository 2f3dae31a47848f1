-- What is asked of the number is asked of the state that it names.
use Rattle.page.proofs.queries.is_blocked.Goals as goal

pub returns : goal.returns
returns c = rw (← c.state_of.ensures.result_value) c.is_blocked.ensures
