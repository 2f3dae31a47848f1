-- A strange record stays, and any other is moved.
use borrow.Author.Rules.{rules}
use mathlib.Core.Path.{◌≡◌, ◌∙◌}
use Prim.Native.Nat.{ℕ}
use Rattle.states.specs.States.{State, number_of, number_by, goes_by}
use Rattle.states.proofs.Laws.{number_by_lem}
use Rattle.page.specs.Moves.{changes_of, moved_by}
use Rattle.page.specs.declared.moves.Move.{Move}
use Rattle.page.proofs.Laws.{on-words}
use Rattle.page.proofs.moves.move_words.Goals as goal

reached : (m : Move) (s : State) (n : ℕ) → n ≡ number_by (changes_of m) (number_of s) → n ≡ number_of (goes_by (changes_of m) s)
reached m s n e = e ∙ number_by_lem (changes_of m) s

pub returns : goal.returns
returns c =
    on-words (moved_by c.args.m c.args.clock) c.args.w _ c.unless_strange.ensures.stays
    (λ known. let p = c.unless_strange.ensures.made known in search (rules, reached))
