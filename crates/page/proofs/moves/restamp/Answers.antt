-- State and stamp are set; the rest is read and written again.
use borrow.Author.Rules.{rules}
use mathlib.Core.Path.{ap, sym, ◌∙◌}
use lib.Dec.{lit<}
use Rattle.words.specs.Runs.{low}
use Rattle.records.specs.Record.{record_of, with_state, with_stamp}
use Rattle.records.specs.declared.Record.{Record}
use Rattle.page.specs.Page.{page_of}
use Rattle.states.specs.States.{number_of}
use Rattle.page.specs.Moves.{restamped}
use Rattle.page.proofs.Laws.{read_held, lowered-fits, words-set}
use Rattle.page.proofs.moves.restamp.Goals as goal

pub returns : goal.returns
unfolding page_of
returns c = let w = c.args.w in
    let stamp = low 16 c.args.stamp in
    λ s e q.
    words-set (λ (r : Record). with_stamp (with_state r (number_of s)) stamp) w _ (restamped (page_of w) s c.args.stamp) (search rules) e
    (c.set_stamp-word.ensures ∙ ap (λ (r : Record). with_stamp r stamp) (c.set_state-moved.ensures ∙ ap (with_state (record_of w.word)) q))
    (ap (λ (r : Record). with_stamp r stamp) (sym (lowered-fits (restamped (page_of w) s 0) (lit< tt) (read_held w e).migrated)))
