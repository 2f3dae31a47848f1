-- The two tests are the definition's.
use mathlib.Core.Path.{refl}
use Rattle.page.specs.Page.{tracked}
use Rattle.page.proofs.queries.is_tracked.Goals as goal

pub returns : goal.returns
unfolding tracked
returns c = refl
