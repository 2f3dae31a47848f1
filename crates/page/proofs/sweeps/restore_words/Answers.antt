-- A strange record stays, and any other is restored.
use borrow.Author.Rules.{rules}
use Rattle.states.specs.Lists.{restores}
use Rattle.states.proofs.Laws.{number_by_lem}
use Rattle.page.specs.Page.{page_of}
use Rattle.page.specs.Sweeps.{restored}
use Rattle.page.proofs.Laws.{on-words}
use Rattle.page.proofs.sweeps.restore_words.Goals as goal

pub returns : goal.returns
returns c = on-words restored c.args.w _ c.unless_strange.ensures.stays (λ known. let p = c.unless_strange.ensures.made known in
    search (rules, number_by_lem restores (page_of c.args.w).state))
