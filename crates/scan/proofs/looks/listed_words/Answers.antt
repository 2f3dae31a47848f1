-- A strange record stays, and any other is listed.
use borrow.Author.Rules.{rules}
use Rattle.states.specs.Lists.{looks}
use Rattle.states.proofs.Laws.{number_by_lem}
use Rattle.page.specs.Page.{page_of}
use Rattle.page.proofs.Laws.{on-words}
use Rattle.scan.specs.Look.{listed_page}
use Rattle.scan.proofs.looks.listed_words.Goals as goal

pub returns : goal.returns
returns c =
    on-words (listed_page c.args.clock) c.args.w _ c.unless_strange.ensures.stays
    (λ known. let p = c.unless_strange.ensures.made known in search (rules, number_by_lem looks (page_of c.args.w).state))
