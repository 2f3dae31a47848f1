-- Dirty and Cached are set as the definition has them; the rest is read and written again.
use borrow.Author.Rules.{rules}
use mathlib.Core.Path.{ap, sym, ◌∙◌}
use mathlib.Core.Bool.{true}
use Rattle.records.specs.Record.{with_dirty, with_cached}
use Rattle.records.specs.declared.Record.{Record}
use Rattle.page.specs.Page.{page_of}
use Rattle.page.specs.Moves.{stored}
use Rattle.page.proofs.Laws.{read_held, lowered-fits, words-set}
use Rattle.page.proofs.moves.store.Goals as goal

pub returns : goal.returns
unfolding page_of
returns c = let w = c.args.w in
    let q = stored (page_of w) c.args.mark in
    λ e.
    words-set (λ (r : Record). with_cached (with_dirty r q.dirty) true) w _ q (search rules) e
    (rw (
      ← c.state_of.ensures.result_value,
      ← c.is_writable-writable.ensures,
      ← ap (λ (r : Record). r.cached) c.from-p.ensures.0,
      ← ap (λ (r : Record). r.dirty) c.from-p.ensures.0,
    )
    (c.set_cached-word.ensures ∙ ap (λ (r : Record). with_cached r true) c.set_dirty-seen.ensures))
    (sym (lowered-fits q (read_held w e).stamp (read_held w e).migrated))
