-- What is not strange has its state's number.
use mathlib.Core.Path.{◌∙◌, subst}
use Prim.Native.Nat.{ℕ}
use Rattle.page.proofs.Laws.{read_number}
use Rattle.page.proofs.unless_strange.Goals as goal

pub returns-clause-made : goal.returns-clause-made
returns-clause-made g c = λ known. subst (λ (n : ℕ). goal.F-post g c.args.make n c.make.result) (c.state_of-n.ensures.value ∙ read_number c.args.w known) c.make.ensures
