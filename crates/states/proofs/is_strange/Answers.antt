-- The mask and the definition agree at each number.
use borrow.Author.Rules.{rules}
use mathlib.Core.Path.{ap, ◌∙◌}
use mathlib.Core.Bool.{not}
use Prim.Native.Nat.{ℕ}
use Rattle.states.specs.States.{state_of, is_strange}
use Rattle.states.specs.Masks.{in_mask}
use Rattle.states.proofs.Masks.{same_test}
use Rattle.states.proofs.is_strange.Goals as goal

pub returns : goal.returns
unfolding is_strange state_of in_mask
returns c = ap not c.is_in.ensures ∙ same_test (λ (m : ℕ). not (in_mask _ m)) (λ (m : ℕ). is_strange (state_of m)) c.args.n (search rules) tt
