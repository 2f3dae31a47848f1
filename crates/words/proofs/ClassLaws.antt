-- The four classes part the numbers between them, by tests that antt computes.
use mathlib.Core.Path.{◌≡◌, refl, sym, subst}
use mathlib.Core.Bool.{Bool, true, false, cond, not, ◌&&◌, ◌||◌}
use mathlib.Core.List.{List, [], ◌∷◌}
use mathlib.Core.Logic.{◌⊎◌, inl, inr}
use Prim.Native.Nat.{ℕ, zero, suc, ◌+◌, ◌≤◌, ◌<◌}
use native.Mathlib.Nat.{eq-or-lt_of_le}
use native.Mathlib.Omega.{arith}
use lib.Dec.{T, eqb, eqb→eq}
use Rattle.words.specs.declared.classes.Class.{Class}
use Rattle.words.specs.declared.classes.Class.TheVariants.{Free, NonLeaf, Leaf, Unlisted}
use Rattle.words.specs.Class.{frees, non_leaves, leaves, is_in, stands, class_of}

-- ---- tests

both : (a b : Bool) → T (a && b) → T a × T b
both true b t = (tt, t)
both false b t = absurd t

-- f passes at every number of a list
abbrev every : (ℕ → Bool) → List ℕ → Bool
every f [] = true
every f (x ∷ xs) = f x && every f xs

every-at : (f : ℕ → Bool) (xs : List ℕ) (n : ℕ) → T (every f xs) → T (is_in n xs) → T (f n)
every-at f [] n t h = absurd h
every-at f (x ∷ xs) n t h = go (eqb n x) (λ e. subst (λ (m : ℕ). T (f m)) (sym (eqb→eq n x e)) (both (f x) (every f xs) t).0) (every-at f xs n (both (f x)
    (every f xs) t).1) h
  where
    go : (b : Bool) → (T b → T (f n)) → (T (is_in n xs) → T (f n)) → T (b || is_in n xs) → T (f n)
    go true p q u = p tt
    go false p q u = q u

-- f passes at each of n numbers from lo on
abbrev pub passes : (ℕ → Bool) → ℕ → ℕ → Bool
passes f lo zero = true
passes f lo (suc n) = f lo && passes f (suc lo) n

pub passes_at : (f : ℕ → Bool) (lo n s : ℕ) → T (passes f lo n) → lo ≤ s → s < lo + n → T (f s)
passes_at f lo zero s t h l = absurd (omega arith)
passes_at f lo (suc n) s t h l =
    go (both (f lo) (passes f (suc lo) n) t).0 (λ k. passes_at f (suc lo) n s (both (f lo) (passes f (suc lo) n) t).1 k (omega arith)) (eq-or-lt_of_le h)
  where
    go : T (f lo) → (lo < s → T (f s)) → (lo ≡ s) ⊎ (lo < s) → T (f s)
    go p q (inl e) = subst (λ (m : ℕ). T (f m)) e p
    go p q (inr k) = q k

-- ---- each number has one class: the one that stands for it

pub is_true : (b : Bool) → T b → b ≡ true
is_true true t = refl
is_true false t = absurd t

is_false : (b : Bool) → T (not b) → b ≡ false
is_false true t = absurd t
is_false false t = refl

pub stands-class : (n : ℕ) → T (stands (class_of n) n)
unfolding stands class_of
stands-class n = go (is_in n frees) (is_in n non_leaves) (is_in n leaves) refl refl refl
  where
    go : (a b c : Bool) → is_in n frees ≡ a → is_in n non_leaves ≡ b → is_in n leaves ≡ c → T (stands (cond a Free (cond b NonLeaf (cond c Leaf Unlisted))) n)
    go true b c p q r = subst T (sym p) tt
    go false true c p q r = subst T (sym q) tt
    go false false true p q r = subst T (sym r) tt
    go false false false p q r = rw (p, q, r) tt

pub class-stands : (k : Class) (n : ℕ) → T (stands k n) → k ≡ class_of n
unfolding stands class_of
class-stands Free n t = simp (is_true (is_in n frees) t)
class-stands NonLeaf n t =
    simp (is_false (is_in n frees) (every-at (λ (m : ℕ). not (is_in m frees)) non_leaves n tt t), is_true (is_in n non_leaves) t)
class-stands Leaf n t =
    simp (
      is_false (is_in n frees) (every-at (λ (m : ℕ). not (is_in m frees)) leaves n tt t),
      is_false (is_in n non_leaves) (every-at (λ (m : ℕ). not (is_in m non_leaves)) leaves n tt t),
      is_true (is_in n leaves) t,
    )
class-stands Unlisted n t = go (is_in n frees) (is_in n non_leaves) (is_in n leaves) t
  where
    go : (a b c : Bool) → T (not (a || b || c)) → Unlisted ≡ cond a Free (cond b NonLeaf (cond c Leaf Unlisted))
    go true b c u = absurd u
    go false true c u = absurd u
    go false false true u = absurd u
    go false false false u = refl
