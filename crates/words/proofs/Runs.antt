-- A word is its runs, lowest first, and a list of widths says where they lie. Each law is stated once, over any such list or over any place and width;
-- a word's own laws cite it. The proofs go by digits: the lowest run is a remainder, and the others are the runs of the quotient.
use mathlib.Core.Path.{◌≡◌, refl, sym, ap, ap₂, ◌∙◌, subst}
use mathlib.Core.Bool.{Bool, true, false}
use mathlib.Core.List.{List, [], ◌∷◌}
use Prim.Native.Nat.{ℕ, zero, suc, ◌+◌, ◌-◌, ◌*◌, ◌/◌, ◌%◌, ◌^◌, ◌<◌, ◌≤◌}
use native.Mathlib.Nat.{add_comm, add_assoc, add-zero, add-mul, mul_assoc, mul_comm, mul-one, zero-mul, div-one, mod-lt, mod-eq_of_lt, le_of_suc-le-suc}
use native.Mathlib.Nat.{not-suc-le-zero}
use native.Mathlib.Omega.{arith}
use lib.Arith.{digits_lt, lt-one}
use lib.Bits.{bit_and, bit_or, and_block, and_mask, and_zero_r, or_block, or_shifted, or_zero_r}
use lib.Dec.{eqb, lit<}
use lib.ListN.{drop, get_or, length, set}
use lib.Pow.{high, ones_lt, pow-add, pow_pos, mod-pow-add, shr_lt, shr-shr}
use lib.Pow as Pow
use Rattle.words.specs.Runs.{bits, low, bit}

-- ---- one run

pub bits-lt : (w hi lo : ℕ) → bits w hi lo < 2 ^ (hi + 1 - lo)
bits-lt w hi lo = mod-lt (w / 2 ^ lo) (pow_pos (hi + 1 - lo))

pub low-lt : (k v : ℕ) → low k v < 2 ^ k
low-lt k v = mod-lt v (pow_pos k)

-- ---- a flag is a run of one bit

pub bit-lt : (b : Bool) → bit b < 2
bit-lt false = lit< tt
bit-lt true = lit< tt

pub flag-bit : (b : Bool) → eqb (bit b) 1 ≡ b
flag-bit false = refl
flag-bit true = refl

pub bit-low : (b : Bool) → bit b ≡ low 1 (bit b)
bit-low b = sym (mod-eq_of_lt (bit-lt b))

pub bit-flag : (n : ℕ) → n < 2 → bit (eqb n 1) ≡ n
bit-flag zero h = refl
bit-flag (suc zero) h = refl
bit-flag (suc (suc n)) h = absurd (omega arith)

-- ---- a word and its runs, from bit lo on

abbrev pub split : ℕ → List ℕ → ℕ → List ℕ
split lo [] w = []
split lo (k ∷ ks) w = w / 2 ^ lo % 2 ^ k ∷ split (lo + k) ks w

abbrev pub join : ℕ → List ℕ → List ℕ → ℕ
join lo [] xs = 0
join lo (k ∷ ks) [] = 0
join lo (k ∷ ks) (x ∷ xs) = x * 2 ^ lo + join (lo + k) ks xs

-- a number for each width, of that width
abbrev pub Fit : List ℕ → List ℕ → Type 0
Fit [] [] = Unit
Fit [] (x ∷ xs) = ⊥
Fit (k ∷ ks) [] = ⊥
Fit (k ∷ ks) (x ∷ xs) = (x < 2 ^ k) × Fit ks xs

-- each number's low bits
abbrev pub lows : List ℕ → List ℕ → List ℕ
lows [] xs = []
lows (k ∷ ks) [] = 0 ∷ lows ks []
lows (k ∷ ks) (x ∷ xs) = low k x ∷ lows ks xs

pub lows-fit : (ks xs : List ℕ) → Fit ks (lows ks xs)
lows-fit [] xs = tt
lows-fit (k ∷ ks) [] = (pow_pos k, lows-fit ks [])
lows-fit (k ∷ ks) (x ∷ xs) = (low-lt k x, lows-fit ks xs)

pub lows-same : (ks xs : List ℕ) → Fit ks xs → lows ks xs ≡ xs
lows-same [] [] f = refl
lows-same [] (x ∷ xs) f = absurd f
lows-same (k ∷ ks) [] f = absurd f
lows-same (k ∷ ks) (x ∷ xs) f = ap₂ (λ (y : ℕ) (ys : List ℕ). y ∷ ys) (mod-eq_of_lt f.0) (lows-same ks xs f.1)

abbrev pub total : List ℕ → ℕ
total [] = 0
total (k ∷ ks) = total ks + k

-- where the i-th run begins
abbrev pub place : List ℕ → ℕ → ℕ
place [] i = 0
place (k ∷ ks) zero = 0
place (k ∷ ks) (suc i) = place ks i + k

-- the same by digits
digits : List ℕ → ℕ → List ℕ
digits [] w = []
digits (k ∷ ks) w = w % 2 ^ k ∷ digits ks (w / 2 ^ k)

number : List ℕ → List ℕ → ℕ
number [] xs = 0
number (k ∷ ks) [] = 0
number (k ∷ ks) (x ∷ xs) = number ks xs * 2 ^ k + x

split-digits : (lo : ℕ) (ks : List ℕ) (w : ℕ) → split lo ks w ≡ digits ks (w / 2 ^ lo)
unfolding digits
split-digits lo [] w = refl
split-digits lo (k ∷ ks) w =
    ap (λ (l : List ℕ). w / 2 ^ lo % 2 ^ k ∷ l) (split-digits (lo + k) ks w ∙ ap (digits ks) (sym (shr-shr w lo k)))

join-number : (lo : ℕ) (ks xs : List ℕ) → join lo ks xs ≡ number ks xs * 2 ^ lo
unfolding number
join-number lo [] xs = sym (zero-mul (2 ^ lo))
join-number lo (k ∷ ks) [] = sym (zero-mul (2 ^ lo))
join-number lo (k ∷ ks) (x ∷ xs) =
    ap (λ (m : ℕ). x * 2 ^ lo + m)
    (join-number (lo + k) ks xs
    ∙ ap (λ (m : ℕ). number ks xs * m) (pow-add 2 lo k ∙ mul_comm (2 ^ lo) (2 ^ k))
    ∙ sym (mul_assoc (number ks xs) (2 ^ k) (2 ^ lo)))
    ∙ add_comm (x * 2 ^ lo) (number ks xs * 2 ^ k * 2 ^ lo)
    ∙ sym (add-mul (number ks xs * 2 ^ k) x (2 ^ lo))

whole-digits : (ks : List ℕ) (w : ℕ) → split 0 ks w ≡ digits ks w
whole-digits ks w = split-digits 0 ks w ∙ ap (digits ks) (div-one w)

whole-number : (ks xs : List ℕ) → join 0 ks xs ≡ number ks xs
whole-number ks xs = join-number 0 ks xs ∙ mul-one (number ks xs)

-- ---- splitting and joining are inverse

digits_number : (ks xs : List ℕ) → Fit ks xs → digits ks (number ks xs) ≡ xs
unfolding digits number
digits_number [] [] f = refl
digits_number [] (x ∷ xs) f = absurd f
digits_number (k ∷ ks) [] f = absurd f
digits_number (k ∷ ks) (x ∷ xs) f =
    ap₂ (λ (a : ℕ) (l : List ℕ). a ∷ l) (Pow.low (number ks xs) k f.0) (ap (digits ks) (high (number ks xs) k f.0) ∙ digits_number ks xs f.1)

number_digits : (ks : List ℕ) (w : ℕ) → w < 2 ^ total ks → number ks (digits ks w) ≡ w
unfolding digits number
number_digits [] w h = sym (lt-one h)
number_digits (k ∷ ks) w h =
    ap (λ (m : ℕ). m * 2 ^ k + w % 2 ^ k) (number_digits ks (w / 2 ^ k) (shr_lt (total ks) k h)) ∙ Pow.split w k

number_lt : (ks xs : List ℕ) → Fit ks xs → number ks xs < 2 ^ total ks
unfolding number
number_lt [] [] f = pow_pos 0
number_lt [] (x ∷ xs) f = absurd f
number_lt (k ∷ ks) [] f = absurd f
number_lt (k ∷ ks) (x ∷ xs) f =
    subst (λ (m : ℕ). number ks xs * 2 ^ k + x < m) (sym (pow-add 2 (total ks) k)) (digits_lt (number_lt ks xs f.1) f.0)

pub split-join : (ks xs : List ℕ) → Fit ks xs → split 0 ks (join 0 ks xs) ≡ xs
split-join ks xs f = whole-digits ks (join 0 ks xs) ∙ ap (digits ks) (whole-number ks xs) ∙ digits_number ks xs f

pub join-split : (ks : List ℕ) (w : ℕ) → w < 2 ^ total ks → join 0 ks (split 0 ks w) ≡ w
join-split ks w h = whole-number ks (split 0 ks w) ∙ ap (number ks) (whole-digits ks w) ∙ number_digits ks w h

pub join-lt : (ks xs : List ℕ) → Fit ks xs → join 0 ks xs < 2 ^ total ks
join-lt ks xs f = subst (λ (m : ℕ). m < 2 ^ total ks) (sym (whole-number ks xs)) (number_lt ks xs f)

-- ---- a mask of whole runs keeps those and clears the others

abbrev pub ones : List ℕ → List Bool → List ℕ
ones [] bs = []
ones (k ∷ ks) [] = []
ones (k ∷ ks) (true ∷ bs) = (2 ^ k - 1) ∷ ones ks bs
ones (k ∷ ks) (false ∷ bs) = 0 ∷ ones ks bs

abbrev pub kept : List Bool → List ℕ → List ℕ
kept [] xs = []
kept (b ∷ bs) [] = []
kept (true ∷ bs) (x ∷ xs) = x ∷ kept bs xs
kept (false ∷ bs) (x ∷ xs) = 0 ∷ kept bs xs

-- a mask's lowest run and the rest of it
and-digit : (k w m x : ℕ) → x < 2 ^ k → bit_and w (m * 2 ^ k + x) ≡ bit_and (w / 2 ^ k) m * 2 ^ k + bit_and (w % 2 ^ k) x
and-digit k w m x h =
    ap (λ (n : ℕ). bit_and n (m * 2 ^ k + x)) (sym (Pow.split w k)) ∙ and_block k (w / 2 ^ k) m (w % 2 ^ k) x (mod-lt w (pow_pos k)) h

number-and : (ks : List ℕ) (bs : List Bool) (w : ℕ) → bit_and w (number ks (ones ks bs)) ≡ number ks (kept bs (digits ks w))
unfolding digits number
number-and [] bs w = and_zero_r w
number-and (k ∷ ks) [] w = and_zero_r w
number-and (k ∷ ks) (true ∷ bs) w =
    and-digit k w (number ks (ones ks bs)) (2 ^ k - 1) (ones_lt k)
    ∙ ap₂ (λ (m n : ℕ). m * 2 ^ k + n) (number-and ks bs (w / 2 ^ k)) (and_mask (w % 2 ^ k) k ∙ mod-eq_of_lt (mod-lt w (pow_pos k)))
number-and (k ∷ ks) (false ∷ bs) w =
    and-digit k w (number ks (ones ks bs)) 0 (pow_pos k) ∙ ap₂ (λ (m n : ℕ). m * 2 ^ k + n) (number-and ks bs (w / 2 ^ k)) (and_zero_r (w % 2 ^ k))

and-number : (ks : List ℕ) (bs : List Bool) (w : ℕ) → bit_and w (join 0 ks (ones ks bs)) ≡ number ks (kept bs (digits ks w))
and-number ks bs w = ap (bit_and w) (whole-number ks (ones ks bs)) ∙ number-and ks bs w

pub and-join : (ks : List ℕ) (bs : List Bool) (w : ℕ) → bit_and w (join 0 ks (ones ks bs)) ≡ join 0 ks (kept bs (split 0 ks w))
and-join ks bs w =
    and-number ks bs w ∙ ap (λ (l : List ℕ). number ks (kept bs l)) (sym (whole-digits ks w)) ∙ sym (whole-number ks (kept bs (split 0 ks w)))

-- ---- one run cleared, and a number put there

abbrev every : List ℕ → List Bool
every [] = []
every (k ∷ ks) = true ∷ every ks

-- every run but the i-th
abbrev pub but : List ℕ → ℕ → List Bool
but [] i = []
but (k ∷ ks) zero = false ∷ every ks
but (k ∷ ks) (suc i) = true ∷ but ks i

digits-fit : (ks : List ℕ) (w : ℕ) → Fit ks (digits ks w)
unfolding digits
digits-fit [] w = tt
digits-fit (k ∷ ks) w = (mod-lt w (pow_pos k), digits-fit ks (w / 2 ^ k))

kept-every : (ks xs : List ℕ) → Fit ks xs → kept (every ks) xs ≡ xs
kept-every [] [] f = refl
kept-every [] (x ∷ xs) f = absurd f
kept-every (k ∷ ks) [] f = absurd f
kept-every (k ∷ ks) (x ∷ xs) f = ap (λ (l : List ℕ). x ∷ l) (kept-every ks xs f.1)

kept_but : (ks xs : List ℕ) (i : ℕ) → Fit ks xs → kept (but ks i) xs ≡ set xs i 0
kept_but [] [] i f = refl
kept_but [] (x ∷ xs) i f = absurd f
kept_but (k ∷ ks) [] i f = absurd f
kept_but (k ∷ ks) (x ∷ xs) zero f = ap (λ (l : List ℕ). 0 ∷ l) (kept-every ks xs f.1)
kept_but (k ∷ ks) (x ∷ xs) (suc i) f = ap (λ (l : List ℕ). x ∷ l) (kept_but ks xs i f.1)

set-fit : (ks xs : List ℕ) (i : ℕ) {v : ℕ} → Fit ks xs → v < 2 ^ get_or ks i 0 → Fit ks (set xs i v)
set-fit [] [] i f h = tt
set-fit [] (x ∷ xs) i f h = absurd f
set-fit (k ∷ ks) [] i f h = absurd f
set-fit (k ∷ ks) (x ∷ xs) zero f h = (h, f.1)
set-fit (k ∷ ks) (x ∷ xs) (suc i) f h = (f.0, set-fit ks xs i f.1 h)

number-or : (ks xs : List ℕ) (i : ℕ) {v : ℕ} → Fit ks xs → i < length ks → v < 2 ^ get_or ks i 0
    → bit_or (number ks (set xs i 0)) (v * 2 ^ place ks i) ≡ number ks (set xs i v)
unfolding number
number-or [] xs i f l h = absurd (not-suc-le-zero l)
number-or (k ∷ ks) [] i f l h = absurd f
number-or (k ∷ ks) (x ∷ xs) zero {v} f l h =
    ap₂ bit_or (add-zero (number ks xs * 2 ^ k)) (mul-one v) ∙ or_shifted (number ks xs) k v h
number-or (k ∷ ks) (x ∷ xs) (suc i) {v} f l h =
    ap (bit_or (number ks (set xs i 0) * 2 ^ k + x))
    (ap (λ (m : ℕ). v * m) (pow-add 2 (place ks i) k)
    ∙ sym (mul_assoc v (2 ^ place ks i) (2 ^ k))
    ∙ sym (add-zero (v * 2 ^ place ks i * 2 ^ k)))
    ∙ or_block k (number ks (set xs i 0)) (v * 2 ^ place ks i) x 0 f.0 (pow_pos k)
    ∙ ap₂ (λ (m n : ℕ). m * 2 ^ k + n) (number-or ks xs i f.1 (le_of_suc-le-suc l) h) (or_zero_r x)

pub place-fits : (ks : List ℕ) (i : ℕ) → i < length ks → get_or ks i 0 + place ks i ≤ total ks
place-fits [] i l = absurd (not-suc-le-zero l)
place-fits (k ∷ ks) zero l = omega arith
place-fits (k ∷ ks) (suc i) l = omega (arith, place-fits ks i (le_of_suc-le-suc l))

pub put-split : (ks : List ℕ) (i w : ℕ) {v : ℕ} → i < length ks → v < 2 ^ get_or ks i 0
    → split 0 ks (bit_or (bit_and w (join 0 ks (ones ks (but ks i)))) (v * 2 ^ place ks i)) ≡ set (split 0 ks w) i v
put-split ks i w {v} l h =
    whole-digits ks (bit_or (bit_and w (join 0 ks (ones ks (but ks i)))) (v * 2 ^ place ks i))
    ∙ ap (λ (m : ℕ). digits ks (bit_or m (v * 2 ^ place ks i)))
    (and-number ks (but ks i) w ∙ ap (number ks) (kept_but ks (digits ks w) i (digits-fit ks w)))
    ∙ ap (digits ks) (number-or ks (digits ks w) i (digits-fit ks w) l h)
    ∙ digits_number ks (set (digits ks w) i v) (set-fit ks (digits ks w) i (digits-fit ks w) h)
    ∙ ap (λ (xs : List ℕ). set xs i v) (sym (whole-digits ks w))

-- ---- two words whose runs are the same but one differ in that run's bits alone

pub record RunAlone (v w lo width x : ℕ) : Type 0 where
  pub run : v / 2 ^ lo % 2 ^ width ≡ x
  pub above : v / 2 ^ (width + lo) ≡ w / 2 ^ (width + lo)
  pub below : v % 2 ^ lo ≡ w % 2 ^ lo

digits-alone : (ks : List ℕ) (i : ℕ) {v w x : ℕ} → i < length ks → v < 2 ^ total ks → w < 2 ^ total ks → digits ks v ≡ set (digits ks w) i x
    → RunAlone v w (place ks i) (get_or ks i 0) x
unfolding digits
digits-alone [] i l hv hw e = absurd (not-suc-le-zero l)
digits-alone (k ∷ ks) zero {v} {w} l hv hw e =
    record {
      run = ap (λ (m : ℕ). m % 2 ^ k) (div-one v) ∙ ap (λ (xs : List ℕ). get_or xs 0 0) e;
      above = rw (add-zero k)
          (sym (number_digits ks (v / 2 ^ k) (shr_lt (total ks) k hv))
          ∙ ap (λ (xs : List ℕ). number ks (drop 1 xs)) e
          ∙ number_digits ks (w / 2 ^ k) (shr_lt (total ks) k hw));
      below = lt-one (mod-lt v (pow_pos 0)) ∙ sym (lt-one (mod-lt w (pow_pos 0)));
    }
digits-alone (k ∷ ks) (suc i) {v} {w} {x} l hv hw e =
    let rest : RunAlone (v / 2 ^ k) (w / 2 ^ k) (place ks i) (get_or ks i 0) x =
    digits-alone ks i (le_of_suc-le-suc l) (shr_lt (total ks) k hv) (shr_lt (total ks) k hw) (ap (λ (xs : List ℕ). drop 1 xs) e) in
    record {
      run = ap (λ (m : ℕ). m % 2 ^ get_or ks i 0) (past v (place ks i)) ∙ rest.run;
      above = further v ∙ rest.above ∙ sym (further w);
      below = mod-pow-add v (place ks i) k
          ∙ ap₂ (λ (m n : ℕ). m * 2 ^ k + n) rest.below (ap (λ (xs : List ℕ). get_or xs 0 0) e)
          ∙ sym (mod-pow-add w (place ks i) k);
    }
  where
    past : (n m : ℕ) → n / 2 ^ (m + k) ≡ n / 2 ^ k / 2 ^ m
    past n m = ap (λ (j : ℕ). n / 2 ^ j) (add_comm m k) ∙ sym (shr-shr n k m)

    further : (n : ℕ) → n / 2 ^ (get_or ks i 0 + (place ks i + k)) ≡ n / 2 ^ k / 2 ^ (get_or ks i 0 + place ks i)
    further n = ap (λ (j : ℕ). n / 2 ^ j) (sym (add_assoc (get_or ks i 0) (place ks i) k)) ∙ past n (get_or ks i 0 + place ks i)

pub run_alone : (ks : List ℕ) (i : ℕ) {v w x : ℕ} → i < length ks → v < 2 ^ total ks → w < 2 ^ total ks → split 0 ks v ≡ set (split 0 ks w) i x
    → RunAlone v w (place ks i) (get_or ks i 0) x
run_alone ks i {v} {w} {x} l hv hw e =
    digits-alone ks i l hv hw (sym (whole-digits ks v) ∙ e ∙ ap (λ (xs : List ℕ). set xs i x) (whole-digits ks w))
