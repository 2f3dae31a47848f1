-- Number by number the two lists compute to the same.
use mathlib.Core.Path.{refl}
use Rattle.named_numbers.proofs.code_numbers.Goals as goal

pub returns : goal.returns
returns c = refl
