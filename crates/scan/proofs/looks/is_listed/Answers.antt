-- What is asked of the number is what the definition asks of the state that it names.
use mathlib.Core.Path.{ap}
use Rattle.records.specs.declared.Record.{Record}
use Rattle.page.specs.Page.{page_of}
use Rattle.scan.specs.Look.{listed}
use Rattle.scan.proofs.looks.is_listed.Goals as goal

pub returns : goal.returns
unfolding page_of listed
returns c = rw (
  ← c.state_of-n.ensures.result_value,
  ← c.is_sent.ensures,
  ← c.is_listed.ensures,
  ← ap (λ (x : Record). x.dirty) c.from-p.ensures.0,
)
