-- Cached is cleared; the rest is read and written again.
use borrow.Author.Rules.{rules}
use mathlib.Core.Path.{sym}
use mathlib.Core.Bool.{false}
use Rattle.records.specs.Record.{with_cached}
use Rattle.records.specs.declared.Record.{Record}
use Rattle.page.specs.Page.{page_of}
use Rattle.page.specs.Sweeps.{uncached}
use Rattle.page.proofs.Laws.{read_held, lowered-fits, words-set}
use Rattle.page.proofs.sweeps.uncache.Goals as goal

pub returns : goal.returns
unfolding page_of
returns c = let w = c.args.w in
    λ e.
    words-set (λ (r : Record). with_cached r false) w _ (uncached (page_of w)) (search rules) e c.set_cached-word.ensures
    (sym (lowered-fits (uncached (page_of w)) (read_held w e).stamp (read_held w e).migrated))
