-- The three tests are the definition's.
use mathlib.Core.Path.{refl}
use Rattle.table.specs.Table.{legal}
use Rattle.table.proofs.is_legal.Goals as goal

pub returns : goal.returns
unfolding legal
returns c = refl
