-- The state is set, and for some Dirty and stamp; the rest is read and written again.
use borrow.Author.Rules.{rules}
use mathlib.Core.Path.{◌≡◌, ap, sym, ◌∙◌}
use mathlib.Core.Bool.{true, false}
use lib.Dec.{lit<}
use Rattle.words.specs.Runs.{low}
use Rattle.records.specs.Record.{record_of, with_state, with_dirty, with_stamp}
use Rattle.records.specs.declared.Record.{Record}
use Rattle.states.specs.States.{State, state_of, number_of, is_in, goes_by}
use Rattle.states.specs.Lists.{looks, renewed_states}
use Rattle.states.proofs.Laws.{state-number}
use Rattle.page.specs.Page.{page_of}
use Rattle.page.proofs.Laws.{read_held, lowered-fits, words-set}
use Rattle.scan.specs.Look.{looked, renewed}
use Rattle.scan.proofs.looks.list.Goals as goal

pub returns-then-is_renewed : goal.returns-then-is_renewed
unfolding page_of renewed
returns-then-is_renewed c = let w = c.args.w in
    let p = page_of w in
    let z = goes_by looks p.state in
    λ e q.
    let renews : is_in z renewed_states ≡ true =
    sym (c.is_renewed.ensures ∙ ap (λ (x : State). is_in x renewed_states) (ap state_of q ∙ state-number z))
    ∙ c.if-is_renewed.true in
    let stamp = low 16 c.args.clock.tlb in
    rw renews
    (words-set (λ (r : Record). with_stamp (with_dirty (with_state r (number_of z)) false) stamp) w _
    (record {
      state = z;
      dirty = false;
      cached = p.cached;
      stamp = c.args.clock.tlb;
      migrated = p.migrated;
      mark = p.mark;
    }) (search rules) e
    (c.set_stamp-word.ensures ∙ ap (λ (r : Record). with_stamp r stamp) (c.set_dirty-clean.ensures
    ∙ ap (λ (r : Record). with_dirty r false) (c.set_state-moved.ensures ∙ ap (with_state (record_of w.word)) q)))
    (ap (λ (r : Record). with_stamp r stamp)
    (sym (lowered-fits (record { state = z; dirty = false; cached = p.cached; stamp = 0; migrated = p.migrated; mark = 0 }) (lit< tt)
    (read_held w e).migrated))))

pub returns : goal.returns
unfolding page_of renewed
returns c = let w = c.args.w in
    let p = page_of w in
    let z = goes_by looks p.state in
    λ e q.
    let renews : is_in z renewed_states ≡ false = sym (c.is_renewed.ensures ∙ ap (λ (x : State). is_in x renewed_states) (ap state_of q ∙ state-number z))
    ∙ c.if-is_renewed.false in
    rw renews
    (words-set (λ (r : Record). with_state r (number_of z)) w _ (looked p) (search rules) e
    (c.set_state-moved.ensures ∙ ap (with_state (record_of w.word)) q)
    (sym (lowered-fits (looked p) (read_held w e).stamp (read_held w e).migrated)))
