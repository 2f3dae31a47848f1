-- The search finds one exactly where the definition says that there is one.
use mathlib.Core.Path.{◌∙◌}
use Rattle.page.specs.Page.{sought}
use Rattle.table.proofs.Laws.{first-some}
use Rattle.table.proofs.has.Goals as goal

pub returns : goal.returns
returns g c = rw c.find.ensures at c.is_some.ensures ∙ first-some (sought c.args.k) (g.T.Form.words c.args.table.now)
