-- State and migration epoch are set; the rest is read and written again.
use borrow.Author.Rules.{rules}
use mathlib.Core.Path.{ap, sym, ◌∙◌}
use lib.Dec.{lit<}
use Rattle.words.specs.Runs.{low}
use Rattle.records.specs.Record.{record_of, with_state, with_migrated}
use Rattle.records.specs.declared.Record.{Record}
use Rattle.states.specs.States.{number_of, goes_by}
use Rattle.states.specs.Lists.{exports}
use Rattle.page.specs.Page.{page_of}
use Rattle.page.proofs.Laws.{read_held, lowered-fits, words-set}
use Rattle.entry.specs.Entry.{exported_page}
use Rattle.entry.proofs.exported.Goals as goal

pub returns : goal.returns
unfolding page_of
returns c = let w = c.args.w in
    let epoch = low 16 c.args.epoch in
    λ e q.
    words-set (λ (r : Record). with_migrated (with_state r (number_of (goes_by exports (page_of w).state))) epoch) w _
    (exported_page c.args.epoch (page_of w)) (search rules) e
    (c.set_migrated-word.ensures ∙ ap (λ (r : Record). with_migrated r epoch) (c.set_state-moved.ensures ∙ ap (with_state (record_of w.word)) q))
    (ap (λ (r : Record). with_migrated r epoch) (sym (lowered-fits (exported_page 0 (page_of w)) (read_held w e).stamp (lit< tt))))
