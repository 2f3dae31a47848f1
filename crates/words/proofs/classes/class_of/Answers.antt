-- Each row of the table says what the rule says of its 32 numbers: antt computes both, and one law turns the test into the rule.
use mathlib.Core.Path.{◌≡◌, sym, ap, ◌∙◌}
use mathlib.Core.Bool.{cond}
use Prim.Native.Nat.{ℕ, ◌*◌, ◌/◌, ◌%◌, ◌^◌}
use native.Mathlib.Omega.{arith}
use lib.Dec.{T, eqb}
use borrow.Author.Tests.{ne_eqb}
use Rattle.words.specs.declared.classes.Class.{Class}
use Rattle.words.specs.declared.classes.Class.TheVariants.{Free, NonLeaf, Leaf, Unlisted}
use Rattle.words.specs.Class.{stands, class_of}
use Rattle.words.proofs.ClassLaws.{passes, passes_at, class-stands}
use Rattle.words.proofs.classes.class_of.Goals as goal
use Rattle.words.proofs.classes.class_of.Goals.{in-0, in-1, in-2, in-3, in-4, in-5, in-6, in_default}

-- the class that two bits stand for
abbrev named : ℕ → Class
named b = cond (eqb b 0) Free (cond (eqb b 1) NonLeaf (cond (eqb b 2) Leaf Unlisted))

-- what a row says of a number
abbrev says : ℕ → ℕ → Class
says row n = named (row / 2 ^ (2 * (n % 32)) % 4)

-- a word that passes as row k, at the numbers of that row
in_row : {row w : ℕ} (k s : ℕ) → T (passes (λ (n : ℕ). stands (says w n) n) (32 * k) 32) → s / 32 ≡ k → row ≡ w → says row s ≡ class_of s
in_row {w = w} k s t h e = rw e (class-stands (says w s) s (passes_at (λ (n : ℕ). stands (says w n) n) (32 * k) 32 s t (omega arith) (omega arith)))

-- what is left of two bits stands for
named_last : (b : ℕ) → (b ≡ 0 → ⊥) → (b ≡ 1 → ⊥) → (b ≡ 2 → ⊥) → named b ≡ Unlisted
named_last b h0 h1 h2 = rw (ne_eqb b 0 h0, ne_eqb b 1 h1, ne_eqb b 2 h2)

pub returns-in-0-2 : goal.returns-in-0-2
unfolding stands
returns-in-0-2 c =
    let s = c.args.s in
    let told : says c.match-s-div32.row s ≡ class_of s =
    elim c.match-s-div32.branch [ in-0 w ↦ in_row 0 s tt w.in-0.is w.row-is | in-1 w ↦ in_row 1 s tt w.in-1.is w.row-is | in-2 w ↦ in_row 2 s tt w.in-2.is w.row-is | in-3 w ↦ in_row 3 s tt w.in-3.is w.row-is | in-4 w ↦ in_row 4 s tt w.in-4.is w.row-is | in-5 w ↦ in_row 5 s tt w.in-5.is w.row-is | in-6 w ↦ in_row 6 s tt w.in-6.is w.row-is | in_default w ↦ in_row 7 s tt (omega arith) w.row-is ] in
    sym (ap named c.in-0-2.is) ∙ told

pub returns-in-1-2 : goal.returns-in-1-2
unfolding stands
returns-in-1-2 c =
    let s = c.args.s in
    let told : says c.match-s-div32.row s ≡ class_of s =
    elim c.match-s-div32.branch [ in-0 w ↦ in_row 0 s tt w.in-0.is w.row-is | in-1 w ↦ in_row 1 s tt w.in-1.is w.row-is | in-2 w ↦ in_row 2 s tt w.in-2.is w.row-is | in-3 w ↦ in_row 3 s tt w.in-3.is w.row-is | in-4 w ↦ in_row 4 s tt w.in-4.is w.row-is | in-5 w ↦ in_row 5 s tt w.in-5.is w.row-is | in-6 w ↦ in_row 6 s tt w.in-6.is w.row-is | in_default w ↦ in_row 7 s tt (omega arith) w.row-is ] in
    sym (ap named c.in-1-2.is) ∙ told

pub returns-in-2-2 : goal.returns-in-2-2
unfolding stands
returns-in-2-2 c =
    let s = c.args.s in
    let told : says c.match-s-div32.row s ≡ class_of s =
    elim c.match-s-div32.branch [ in-0 w ↦ in_row 0 s tt w.in-0.is w.row-is | in-1 w ↦ in_row 1 s tt w.in-1.is w.row-is | in-2 w ↦ in_row 2 s tt w.in-2.is w.row-is | in-3 w ↦ in_row 3 s tt w.in-3.is w.row-is | in-4 w ↦ in_row 4 s tt w.in-4.is w.row-is | in-5 w ↦ in_row 5 s tt w.in-5.is w.row-is | in-6 w ↦ in_row 6 s tt w.in-6.is w.row-is | in_default w ↦ in_row 7 s tt (omega arith) w.row-is ] in
    sym (ap named c.in-2-2.is) ∙ told

pub returns-in_default-2 : goal.returns-in_default-2
unfolding stands
returns-in_default-2 c =
    let s = c.args.s in
    let told : says c.match-s-div32.row s ≡ class_of s =
    elim c.match-s-div32.branch [ in-0 w ↦ in_row 0 s tt w.in-0.is w.row-is | in-1 w ↦ in_row 1 s tt w.in-1.is w.row-is | in-2 w ↦ in_row 2 s tt w.in-2.is w.row-is | in-3 w ↦ in_row 3 s tt w.in-3.is w.row-is | in-4 w ↦ in_row 4 s tt w.in-4.is w.row-is | in-5 w ↦ in_row 5 s tt w.in-5.is w.row-is | in-6 w ↦ in_row 6 s tt w.in-6.is w.row-is | in_default w ↦ in_row 7 s tt (omega arith) w.row-is ] in
    sym (named_last (c.match-s-div32.row / 2 ^ (2 * (s % 32)) % 4) (λ q. omega arith) (λ q. omega arith) (λ q. omega arith)) ∙ told
