-- Each way is the definition at the test of the last entry; LAST+1 wraps as LAST's own remainder plus one does.
use native.Mathlib.Omega.{arith}
use mathlib.Core.Path.{◌≡◌, sym, ap, ◌∙◌}
use Prim.Native.Nat.{ℕ, ◌+◌, ◌%◌}
use Rattle.words.specs.Info.{info_word, with_first}
use Rattle.lists.specs.List.{info_back}
use Rattle.lists.proofs.info_back.Goals as goal

wraps : (last : ℕ) → (last % 512 + 1) % 512 ≡ (last + 1) % 512
wraps last = omega arith

pub returns-then-is_over : goal.returns-then-is_over
unfolding info_back
returns-then-is_over c = let x = c.args.x in
    rw (sym c.is_over.ensures ∙ c.if-is_over.true)
    (c.info_from.ensures ∙ ap (λ (n : ℕ). info_word (with_first x n)) (wraps x.last))

pub returns : goal.returns
unfolding info_back
returns c = rw (sym c.is_over.ensures ∙ c.if-is_over.false) c.info_from-2.ensures
