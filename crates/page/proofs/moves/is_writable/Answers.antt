-- What is asked of the number is what the definition asks of the state that it names.
use mathlib.Core.Path.{ap}
use Rattle.records.specs.declared.Record.{Record}
use Rattle.page.specs.Page.{page_of}
use Rattle.page.specs.Moves.{writable}
use Rattle.page.proofs.moves.is_writable.Goals as goal

pub returns : goal.returns
unfolding page_of writable
returns c = rw (
  ← c.state_of-n.ensures.result_value,
  ← c.is_landing.ensures,
  ← c.is_writable.ensures,
  ← ap (λ (x : Record). x.cached) c.from-p.ensures.0,
)
