-- The search stops at the first page of the kind, or at the end.
use Rattle.std.proofs.lemmas.Iterator.{first_from_Range}
use Rattle.page.specs.Page.{sought}
use Rattle.table.specs.Table.{page_at}
use Rattle.table.proofs.Laws.{first-told}
use mathlib.Core.Path.{◌≡◌}
use mathlib.Core.Bool.{true, false}
use Rattle.std.proofs.Common.{rules, tests}
use Rattle.table.proofs.find.Goals as goal

pub returns : goal.returns
returns g c = let f = sought c.args.k in
    let t = g.T.Form.words c.args.table.now in
    rw (← c.pages.ensures) (first-told f t c.pages.result c.find.result
    (first_from_Range _ _ _ c.find.result (λ k. f (page_at t k) ≡ true) (λ k. f (page_at t k) ≡ false) c.find.ensures.ran (λ x q k. search (rules, tests)) (λ x q k. search (rules, tests))))
