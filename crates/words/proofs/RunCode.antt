-- What the code of `bits` computes, with its shifts and masks of 64-bit words: a run read, a number placed, and a run put.
use mathlib.Core.Path.{◌≡◌, refl, sym, ap, ap₂, ◌∙◌, subst, subst₂}
use mathlib.Core.List.{List, [], ◌∷◌}
use mathlib.Core.Logic.{◌⊎◌, inl, inr}
use Prim.Native.Nat.{ℕ, ◌+◌, ◌-◌, ◌*◌, ◌/◌, ◌%◌, ◌^◌, ◌<◌, ◌≤◌}
use native.Mathlib.Nat.{add_comm, add_assoc, add-zero, zero-add, add-mul, mul_comm, mul-one, mod-lt, mod-eq_of_lt, mod-one, zero-mul}
use native.Mathlib.Nat.{div-one, div-eq_of_lt, eq-zero-or-pos}
use native.Mathlib.Omega.{arith}
use lib.Arith.{digits_lt}
use lib.Bits.{bit_and, bit_or, and_block, and_mask, and_zero_r, or_block, or_shifted, or_shifted_r, or_zero_r}
use lib.Pow.{high, ones_lt, ones_split, pow-add, pow-lt, pow_pos, shl_exact, shr-shr, shr_lt, shr_mod}
use lib.Pow as Pow
use Rattle.words.specs.Runs.{low, FieldAlone}
use Rattle.words.proofs.Runs.{low-lt, join, lows}

-- as many ones as bits hi:lo are
ones-high : (j k : ℕ) → (2 ^ (j + k) - 1) / 2 ^ k ≡ 2 ^ j - 1
ones-high j k = ap (λ (n : ℕ). n / 2 ^ k) (ones_split j k) ∙ high (2 ^ j - 1) k (ones_lt k)

pub ones-code : (hi lo : ℕ) → hi < 64 → (2 ^ 64 - 1) / 2 ^ (63 - hi) / 2 ^ lo ≡ 2 ^ (hi + 1 - lo) - 1
ones-code hi lo h =
    ap (λ (n : ℕ). n / 2 ^ lo) (ap (λ (n : ℕ). (2 ^ n - 1) / 2 ^ (63 - hi)) all ∙ ones-high (hi + 1) (63 - hi)) ∙ rest (eq-zero-or-pos (lo - (hi + 1)))
  where
    all : 64 ≡ hi + 1 + (63 - hi)
    all = omega arith

    rest : (lo - (hi + 1) ≡ 0) ⊎ (0 < lo - (hi + 1)) → (2 ^ (hi + 1) - 1) / 2 ^ lo ≡ 2 ^ (hi + 1 - lo) - 1
    rest (inl e) =
        let parts : hi + 1 ≡ hi + 1 - lo + lo = omega (arith, e) in
        ap (λ (n : ℕ). (2 ^ n - 1) / 2 ^ lo) parts ∙ ones-high (hi + 1 - lo) lo
    rest (inr e) =
        let no : 0 ≡ hi + 1 - lo = omega (arith, e) in
        div-eq_of_lt (omega (arith, ones_lt (hi + 1), pow-lt {i = hi + 1} {j = lo} (omega (arith, e)))) ∙ ap (λ (n : ℕ). 2 ^ n - 1) no

pub mask-low : (v j : ℕ) {m : ℕ} → m ≡ 2 ^ j - 1 → bit_and v m ≡ low j v
mask-low v j e = ap (bit_and v) e ∙ and_mask v j

pub placed-exact : (v hi lo : ℕ) {m : ℕ} → hi < 64 → lo < 64 → m ≡ 2 ^ (hi + 1 - lo) - 1 → bit_and v m * 2 ^ lo % 2 ^ 64 ≡ low (hi + 1 - lo) v * 2 ^ lo
placed-exact v hi lo h l e =
    ap (λ (n : ℕ). n * 2 ^ lo % 2 ^ 64) (mask-low v (hi + 1 - lo) e) ∙ shl_exact (hi + 1 - lo) lo 64 (low-lt (hi + 1 - lo) v) (omega arith)

-- a word's run of j bits from bit k on cleared: the bits above it, and those below
but : (i j k : ℕ) → (2 ^ (i + j + k) - 1) - (2 ^ j - 1) * 2 ^ k ≡ (2 ^ i - 1) * 2 ^ j * 2 ^ k + (2 ^ k - 1)
but i j k =
    let a : 2 ^ (i + j + k) - 1 ≡ ((2 ^ i - 1) * 2 ^ j + (2 ^ j - 1)) * 2 ^ k + (2 ^ k - 1) =
    ones_split (i + j) k ∙ ap (λ (n : ℕ). n * 2 ^ k + (2 ^ k - 1)) (ones_split i j) in
    let b : ((2 ^ i - 1) * 2 ^ j + (2 ^ j - 1)) * 2 ^ k ≡ (2 ^ i - 1) * 2 ^ j * 2 ^ k + (2 ^ j - 1) * 2 ^ k =
    add-mul ((2 ^ i - 1) * 2 ^ j) (2 ^ j - 1) (2 ^ k) in
    omega (arith, a, b)

cleared : (w i j k : ℕ) → w < 2 ^ (i + j + k)
    → bit_and w ((2 ^ (i + j + k) - 1) - (2 ^ j - 1) * 2 ^ k) ≡ w / 2 ^ k / 2 ^ j * 2 ^ j * 2 ^ k + w % 2 ^ k
cleared w i j k h =
    ap (bit_and w) (but i j k)
    ∙ ap (λ (n : ℕ). bit_and n ((2 ^ i - 1) * 2 ^ j * 2 ^ k + (2 ^ k - 1))) (sym (Pow.split w k))
    ∙ and_block k (w / 2 ^ k) ((2 ^ i - 1) * 2 ^ j) (w % 2 ^ k) (2 ^ k - 1) (mod-lt w (pow_pos k)) (ones_lt k)
    ∙ ap₂ (λ (m n : ℕ). m * 2 ^ k + n) upper (and_mask (w % 2 ^ k) k ∙ mod-eq_of_lt (mod-lt w (pow_pos k)))
  where
    upper : bit_and (w / 2 ^ k) ((2 ^ i - 1) * 2 ^ j) ≡ w / 2 ^ k / 2 ^ j * 2 ^ j
    upper =
        ap₂ bit_and (sym (Pow.split (w / 2 ^ k) j)) (sym (add-zero ((2 ^ i - 1) * 2 ^ j)))
        ∙ and_block j (w / 2 ^ k / 2 ^ j) (2 ^ i - 1) (w / 2 ^ k % 2 ^ j) 0 (mod-lt (w / 2 ^ k) (pow_pos j)) (pow_pos j)
        ∙ ap₂ (λ (m n : ℕ). m * 2 ^ j + n) (and_mask (w / 2 ^ k / 2 ^ j) i ∙ mod-eq_of_lt (shr_lt i j (shr_lt (i + j) k h))) (and_zero_r (w / 2 ^ k % 2 ^ j))
        ∙ add-zero (w / 2 ^ k / 2 ^ j * 2 ^ j)

-- and a number put there
put-run : (w i j k x : ℕ) → w < 2 ^ (i + j + k) → x < 2 ^ j
    → bit_or (bit_and w ((2 ^ (i + j + k) - 1) - (2 ^ j - 1) * 2 ^ k)) (x * 2 ^ k) ≡ (w / 2 ^ k / 2 ^ j * 2 ^ j + x) * 2 ^ k + w % 2 ^ k
put-run w i j k x h f =
    ap₂ bit_or (cleared w i j k h) (sym (add-zero (x * 2 ^ k)))
    ∙ or_block k (w / 2 ^ k / 2 ^ j * 2 ^ j) x (w % 2 ^ k) 0 (mod-lt w (pow_pos k)) (pow_pos k)
    ∙ ap₂ (λ (m n : ℕ). m * 2 ^ k + n) (or_shifted (w / 2 ^ k / 2 ^ j) j x f) (or_zero_r (w % 2 ^ k))

put-alone : (w hi lo j x : ℕ) → lo + j ≡ hi + 1 → x < 2 ^ j → FieldAlone w ((w / 2 ^ lo / 2 ^ j * 2 ^ j + x) * 2 ^ lo + w % 2 ^ lo) hi lo x
put-alone w hi lo j x e f =
    record {
      field = ap₂ (λ (m n : ℕ). m % 2 ^ n) (high a lo r) width ∙ Pow.low (w / 2 ^ lo / 2 ^ j) j f;
      above = above (a * 2 ^ lo + w % 2 ^ lo)
          ∙ ap (λ (n : ℕ). n / 2 ^ j) (high a lo r)
          ∙ high (w / 2 ^ lo / 2 ^ j) j f
          ∙ sym (above w);
      below = Pow.low a lo r;
    }
  where
    a : ℕ
    a = w / 2 ^ lo / 2 ^ j * 2 ^ j + x

    width : hi + 1 - lo ≡ j
    width = omega (arith, e)

    r : w % 2 ^ lo < 2 ^ lo
    r = mod-lt w (pow_pos lo)

    above : (n : ℕ) → n / 2 ^ (hi + 1) ≡ n / 2 ^ lo / 2 ^ j
    above n = ap (λ (m : ℕ). n / 2 ^ m) (sym e) ∙ sym (shr-shr n lo j)

-- what a mask gives of the word of all ones
ones-low : (j : ℕ) → j ≤ 64 → low j (2 ^ 64 - 1) ≡ 2 ^ j - 1
ones-low j h =
    let all : 64 ≡ 64 - j + j = omega (arith, h) in
    ap (λ (n : ℕ). low j (2 ^ n - 1)) all ∙ ap (λ (n : ℕ). n % 2 ^ j) (ones_split (64 - j) j) ∙ Pow.low (2 ^ (64 - j) - 1) j (ones_lt j)

pub put-code : (w hi lo m v : ℕ) → hi < 64 → lo < 64 → w < 2 ^ 64 → m ≡ low (hi + 1 - lo) (2 ^ 64 - 1) * 2 ^ lo
    → FieldAlone w (bit_or (bit_and w ((2 ^ 64 - 1) - m)) (low (hi + 1 - lo) v * 2 ^ lo)) hi lo (low (hi + 1 - lo) v)
put-code w hi lo m v h l f e =
    subst (λ (n : ℕ). FieldAlone w n hi lo x)
    (sym (ap₂ (λ (p n : ℕ). bit_or (bit_and w ((2 ^ n - 1) - p)) (x * 2 ^ lo)) mask all ∙ put-run w i j lo x (rw (sym all) f) (low-lt j v)))
    (alone (eq-zero-or-pos (lo - (hi + 1))))
  where
    j : ℕ
    j = hi + 1 - lo

    i : ℕ
    i = 64 - j - lo

    x : ℕ
    x = low j v

    all : 64 ≡ i + j + lo
    all = omega (arith, h, l)

    mask : m ≡ (2 ^ j - 1) * 2 ^ lo
    mask = e ∙ ap (λ (n : ℕ). n * 2 ^ lo) (ones-low j (omega (arith, h)))

    put : ℕ → ℕ → ℕ
    put k y = (w / 2 ^ lo / 2 ^ k * 2 ^ k + y) * 2 ^ lo + w % 2 ^ lo

    -- no bit at all where LO is above HI
    same : put 0 0 ≡ w
    same =
        ap (λ (n : ℕ). n * 2 ^ lo + w % 2 ^ lo) (add-zero (w / 2 ^ lo / 2 ^ 0 * 2 ^ 0) ∙ mul-one (w / 2 ^ lo / 2 ^ 0) ∙ div-one (w / 2 ^ lo))
        ∙ Pow.split w lo

    alone : (lo - (hi + 1) ≡ 0) ⊎ (0 < lo - (hi + 1)) → FieldAlone w (put j x) hi lo x
    alone (inl e) = put-alone w hi lo j x (omega (arith, e)) (low-lt j v)
    alone (inr e) =
        let no : j ≡ 0 = omega (arith, e) in
        let zero : x ≡ 0 = ap (λ (n : ℕ). low n v) no ∙ mod-one v in
        subst (λ (n : ℕ). FieldAlone w n hi lo x) (sym (ap₂ put no zero ∙ same))
        (record {
          field = ap (λ (n : ℕ). w / 2 ^ lo % 2 ^ n) no ∙ mod-one (w / 2 ^ lo) ∙ sym zero;
          above = refl;
          below = refl;
        })

-- ---- a writer: each number placed, and joined to what stands below

abbrev or_all : ℕ → ℕ → List ℕ → List ℕ → ℕ
or_all a lo [] xs = a
or_all a lo (k ∷ ks) [] = a
or_all a lo (k ∷ ks) (x ∷ xs) = or_all (bit_or a (low k x * 2 ^ lo)) (lo + k) ks xs

none : (lo : ℕ) (ks : List ℕ) → join lo ks (lows ks []) ≡ 0
none lo [] = refl
none lo (k ∷ ks) = ap₂ (λ (m n : ℕ). m + n) (zero-mul (2 ^ lo)) (none (lo + k) ks)

or-join : (a lo : ℕ) (ks xs : List ℕ) → a < 2 ^ lo → or_all a lo ks xs ≡ a + join lo ks (lows ks xs)
or-join a lo [] xs h = sym (add-zero a)
or-join a lo (k ∷ ks) [] h = sym (ap (λ (n : ℕ). a + n) (none lo (k ∷ ks)) ∙ add-zero a)
or-join a lo (k ∷ ks) (x ∷ xs) h =
    let e : bit_or a (low k x * 2 ^ lo) ≡ a + low k x * 2 ^ lo =
    or_shifted_r (low k x) lo a h ∙ add_comm (low k x * 2 ^ lo) a in
    let b : a + low k x * 2 ^ lo < 2 ^ (lo + k) =
    subst₂ (λ (m n : ℕ). m < n) (add_comm (low k x * 2 ^ lo) a) (mul_comm (2 ^ k) (2 ^ lo) ∙ sym (pow-add 2 lo k)) (digits_lt (low-lt k x) h) in
    ap (λ (m : ℕ). or_all m (lo + k) ks xs) e
    ∙ or-join (a + low k x * 2 ^ lo) (lo + k) ks xs b
    ∙ add_assoc a (low k x * 2 ^ lo) (join (lo + k) ks (lows ks xs))

abbrev pub write_runs : List ℕ → List ℕ → ℕ
write_runs [] xs = 0
write_runs (k ∷ ks) [] = 0
write_runs (k ∷ ks) (x ∷ xs) = or_all (low k x * 2 ^ 0) k ks xs

pub write-runs : (ks xs : List ℕ) → write_runs ks xs ≡ join 0 ks (lows ks xs)
write-runs [] xs = refl
write-runs (k ∷ ks) [] = sym (none 0 (k ∷ ks))
write-runs (k ∷ ks) (x ∷ xs) =
    or-join (low k x * 2 ^ 0) k ks xs (rw (mul-one (low k x)) (low-lt k x)) ∙ ap (λ (lo : ℕ). low k x * 2 ^ 0 + join lo ks (lows ks xs)) (sym (zero-add k))
