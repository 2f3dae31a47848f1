-- What a reader, a writer and a setter of a whole word compute that mask run after run with numbers written out: the runs of `Runs`, taken apart, joined and set.
-- `RunCode` has the same of one run whose place is a parameter, as the code of `bits` has it.
use mathlib.Core.Path.{◌≡◌, refl, sym, ap, ap₂, ◌∙◌, subst₂}
use mathlib.Core.List.{List, [], ◌∷◌}
use Prim.Native.Nat.{ℕ, zero, suc, ◌+◌, ◌-◌, ◌*◌, ◌/◌, ◌%◌, ◌^◌, ◌<◌, ◌≤◌}
use native.Mathlib.Nat.{add_comm, add_assoc, add-zero, zero-add, mul_comm, mul-one, div-one, mod-eq_of_lt, not-suc-le-zero}
use native.Mathlib.Omega.{arith}
use lib.Arith.{digits_lt}
use lib.Bits.{bit_and, bit_or, and_mask, or_shifted_r}
use lib.ListN.{get_or, length, set}
use lib.Pow.{pow-add, shl_exact}
use Rattle.words.proofs.Runs.{split, join, Fit, total, place, place-fits, lows, ones, but, put-split}

-- ---- a reader: each run shifted down and masked; the lowest needs no shift

abbrev masks : ℕ → List ℕ → ℕ → List ℕ
masks lo [] w = []
masks lo (k ∷ ks) w = bit_and (w / 2 ^ lo) (2 ^ k - 1) ∷ masks (lo + k) ks w

masks-split : (lo : ℕ) (ks : List ℕ) (w : ℕ) → masks lo ks w ≡ split lo ks w
masks-split lo [] w = refl
masks-split lo (k ∷ ks) w = ap₂ (λ (x : ℕ) (xs : List ℕ). x ∷ xs) (and_mask (w / 2 ^ lo) k) (masks-split (lo + k) ks w)

abbrev pub read_runs : List ℕ → ℕ → List ℕ
read_runs [] w = []
read_runs (k ∷ ks) w = bit_and w (2 ^ k - 1) ∷ masks k ks w

pub read-runs : (ks : List ℕ) (w : ℕ) → read_runs ks w ≡ split 0 ks w
read-runs [] w = refl
read-runs (k ∷ ks) w =
    ap₂ (λ (x : ℕ) (xs : List ℕ). x ∷ xs) (and_mask w k ∙ ap (λ (m : ℕ). m % 2 ^ k) (sym (div-one w)))
    (masks-split k ks w ∙ ap (λ (lo : ℕ). split lo ks w) (sym (zero-add k)))

-- ---- a writer: each number masked, shifted to its place and joined to what stands below

-- a number that fits needs no mask
pub bare : (k : ℕ) {v : ℕ} → v < 2 ^ k → v ≡ bit_and v (2 ^ k - 1)
bare k {v} h = sym (and_mask v k ∙ mod-eq_of_lt h)

abbrev pub masked : List ℕ → List ℕ → List ℕ
masked [] xs = []
masked (k ∷ ks) [] = 0 ∷ masked ks []
masked (k ∷ ks) (x ∷ xs) = bit_and x (2 ^ k - 1) ∷ masked ks xs

pub masked-lows : (ks xs : List ℕ) → masked ks xs ≡ lows ks xs
masked-lows [] xs = refl
masked-lows (k ∷ ks) [] = ap (λ (l : List ℕ). 0 ∷ l) (masked-lows ks [])
masked-lows (k ∷ ks) (x ∷ xs) = ap₂ (λ (y : ℕ) (ys : List ℕ). y ∷ ys) (and_mask x k) (masked-lows ks xs)

abbrev or_all : ℕ → ℕ → List ℕ → List ℕ → ℕ
or_all a lo [] xs = a
or_all a lo (k ∷ ks) [] = a
or_all a lo (k ∷ ks) (x ∷ xs) = or_all (bit_or a ((x * 2 ^ lo) % 2 ^ 64)) (lo + k) ks xs

or-join : (a lo : ℕ) (ks xs : List ℕ) → a < 2 ^ lo → lo + total ks ≤ 64 → Fit ks xs → or_all a lo ks xs ≡ a + join lo ks xs
or-join a lo [] xs h l f = sym (add-zero a)
or-join a lo (k ∷ ks) [] h l f = absurd f
or-join a lo (k ∷ ks) (x ∷ xs) h l f =
    let e : bit_or a ((x * 2 ^ lo) % 2 ^ 64) ≡ a + x * 2 ^ lo =
    ap (bit_or a) (shl_exact k lo 64 f.0 (omega arith)) ∙ or_shifted_r x lo a h ∙ add_comm (x * 2 ^ lo) a in
    let b : a + x * 2 ^ lo < 2 ^ (lo + k) =
    subst₂ (λ (m n : ℕ). m < n) (add_comm (x * 2 ^ lo) a) (mul_comm (2 ^ k) (2 ^ lo) ∙ sym (pow-add 2 lo k)) (digits_lt f.0 h) in
    ap (λ (m : ℕ). or_all m (lo + k) ks xs) e
    ∙ or-join (a + x * 2 ^ lo) (lo + k) ks xs b (omega arith) f.1
    ∙ add_assoc a (x * 2 ^ lo) (join (lo + k) ks xs)

abbrev pub write_runs : List ℕ → List ℕ → ℕ
write_runs [] xs = 0
write_runs (k ∷ ks) [] = 0
write_runs (k ∷ ks) (x ∷ xs) = or_all x k ks xs

pub write-runs : (ks xs : List ℕ) → total ks ≤ 64 → Fit ks xs → write_runs ks xs ≡ join 0 ks xs
write-runs [] xs t f = refl
write-runs (k ∷ ks) [] t f = absurd f
write-runs (k ∷ ks) (x ∷ xs) t f =
    or-join x k ks xs f.0 (omega arith) f.1 ∙ sym (ap₂ (λ (m lo : ℕ). m + join lo ks xs) (mul-one x) (zero-add k))

-- ---- a setter: one run cleared, and a number put there; the lowest run needs no shift

abbrev pub put_run : List ℕ → ℕ → ℕ → ℕ → ℕ
put_run ks zero w v = bit_or (bit_and w (join 0 ks (ones ks (but ks zero)))) v
put_run ks (suc i) w v = bit_or (bit_and w (join 0 ks (ones ks (but ks (suc i))))) ((v * 2 ^ place ks (suc i)) % 2 ^ 64)

put-exact : (ks : List ℕ) (i w : ℕ) {v : ℕ} → total ks ≤ 64 → i < length ks → v < 2 ^ get_or ks i 0
    → put_run ks i w v ≡ bit_or (bit_and w (join 0 ks (ones ks (but ks i)))) (v * 2 ^ place ks i)
put-exact [] i w t l h = absurd (not-suc-le-zero l)
put-exact (k ∷ ks) zero w {v} t l h = ap (bit_or (bit_and w (join 0 (k ∷ ks) (ones (k ∷ ks) (but (k ∷ ks) 0))))) (sym (mul-one v))
put-exact (k ∷ ks) (suc i) w t l h =
    ap (bit_or (bit_and w (join 0 (k ∷ ks) (ones (k ∷ ks) (but (k ∷ ks) (suc i))))))
    (shl_exact (get_or ks i 0) (place ks i + k) 64 h (omega (arith, place-fits (k ∷ ks) (suc i) l)))

pub put-runs : (ks : List ℕ) (i w : ℕ) {v : ℕ} → total ks ≤ 64 → i < length ks → v < 2 ^ get_or ks i 0 → split 0 ks (put_run ks i w v) ≡ set (split 0 ks w) i v
put-runs ks i w t l h = ap (split 0 ks) (put-exact ks i w t l h) ∙ put-split ks i w l h
