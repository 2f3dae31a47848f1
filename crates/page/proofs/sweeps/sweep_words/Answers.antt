-- A strange record stays, and any other is swept.
use borrow.Author.Rules.{rules}
use Rattle.page.specs.Sweeps.{swept_by}
use Rattle.page.proofs.Laws.{on-words}
use Rattle.page.proofs.sweeps.sweep_words.Goals as goal

pub returns : goal.returns
returns c =
    on-words (swept_by c.args.k) c.args.w _ c.unless_strange.ensures.stays
    (λ known. let p = c.unless_strange.ensures.made known in search rules)
