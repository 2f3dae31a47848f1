-- What is asked of the number is what the definition asks of the state that it names.
use Rattle.page.specs.Page.{gives54}
use Rattle.page.proofs.queries.gives_54.Goals as goal

pub returns : goal.returns
unfolding gives54
returns c = rw (← c.state_of-n.ensures.result_value, ← c.is_strange.ensures, ← c.is_unsent.ensures)
