-- State, stamp and migration epoch are set; the rest is read and written again.
use borrow.Author.Rules.{rules}
use mathlib.Core.Path.{ap, ap₂, sym, ◌∙◌}
use mathlib.Core.Bool.{Bool, cond}
use Prim.Native.Nat.{ℕ}
use lib.Dec.{lit<}
use Rattle.words.specs.Runs.{low}
use Rattle.records.specs.Record.{record_of, with_state, with_stamp, with_migrated}
use Rattle.records.specs.declared.Record.{Record}
use Rattle.states.specs.States.{State, state_of, number_of, is_in}
use Rattle.states.specs.Lists.{stamped_states}
use Rattle.states.proofs.Laws.{state-number}
use Rattle.page.specs.Page.{page_of}
use Rattle.page.specs.Sweeps.{kept_stamp, refreshed}
use Rattle.page.proofs.Laws.{lowered-fits, words-set}
use Rattle.page.proofs.sweeps.refresh.Goals as goal

pub returns : goal.returns
unfolding page_of kept_stamp
returns c = let w = c.args.w in
    λ s e q.
    let stamp = low 16 (kept_stamp s (page_of w).stamp) in
    words-set (λ (r : Record). with_migrated (with_stamp (with_state r (number_of s)) stamp) 0) w _ (refreshed (page_of w) s) (search rules) e
    (c.set_migrated-word.ensures ∙ ap (λ (r : Record). with_migrated r 0) (c.set_stamp-stamped.ensures
    ∙ ap₂ (λ (r : Record) (n : ℕ). with_stamp r (low 16 n)) (c.set_state-moved.ensures ∙ ap (with_state (record_of w.word)) q)
    (c.kept_stamp-stamp.ensures
    ∙ ap₂ (λ (b : Bool) (n : ℕ). cond b n 0)
    (c.is_stamped.ensures ∙ ap (λ (z : State). is_in z stamped_states) (ap state_of q ∙ state-number s))
    (ap (λ (r : Record). r.stamp) c.from-p.ensures.0))))
    (ap (λ (r : Record). with_stamp r stamp)
    (sym (lowered-fits (record { state = s; dirty = (page_of w).dirty; cached = (page_of w).cached; stamp = 0; migrated = 0; mark = 0 }) (lit< tt) (lit< tt))))
