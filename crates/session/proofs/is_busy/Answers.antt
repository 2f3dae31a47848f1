-- It is what is found.
use mathlib.Core.Path.{ap}
use Rattle.session.specs.declared.streams.Found.{Found}
use Rattle.session.proofs.is_busy.Goals as goal

pub returns : goal.returns
returns c = ap (λ (x : Found). x.any) c.find_interrupted-found.ensures
