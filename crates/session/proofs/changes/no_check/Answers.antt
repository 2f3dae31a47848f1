-- The definition, written out.
use mathlib.Core.Path.{refl}
use Rattle.session.proofs.changes.no_check.Goals as goal

pub returns : goal.returns
returns c = refl
