-- A strange record stays, and any other is exported.
use borrow.Author.Rules.{rules}
use Rattle.states.specs.Lists.{exports}
use Rattle.states.proofs.Laws.{number_by_lem}
use Rattle.page.specs.Page.{page_of}
use Rattle.page.proofs.Laws.{on-words}
use Rattle.entry.specs.Entry.{exported_page}
use Rattle.entry.proofs.export_words.Goals as goal

pub returns : goal.returns
returns c =
    on-words (exported_page c.args.epoch) c.args.w _ c.unless_strange.ensures.stays
    (λ known. let p = c.unless_strange.ensures.made known in search (rules, number_by_lem exports (page_of c.args.w).state))
