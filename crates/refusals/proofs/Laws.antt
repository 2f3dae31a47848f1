-- What the code that the first of some tests gives says of all of them.
use mathlib.Core.Path.{◌≡◌, refl, sym}
use mathlib.Core.Bool.{Bool, true, false, cond, not, ◌&&◌, ◌||◌, false≢true}
use mathlib.Core.List.{List, [], ◌∷◌}
use Prim.Native.Nat.{ℕ, zero, suc, ◌≤◌, ◌<◌}
use native.Mathlib.Omega.{arith}
use lib.Dec.{leb, ltb, eqb}
use borrow.Author.Tests.{leb-true, ltb-true, lt-ltb, eqb-false}
use Rattle.refusals.specs.Refusals.{Test, first_of, number_of}
use Rattle.refusals.specs.declared.Refusal.{Refusal}
use Rattle.refusals.specs.declared.Refusal.TheVariants as refusal

-- what holds either way holds of what a test picks
pub either : {A : Type 0} (P : A → Type 0) (b : Bool) {x y : A} → (b ≡ true → P x) → (b ≡ false → P y) → P (cond b x y)
either P true f g = f refl
either P false f g = g refl

-- no test holds
abbrev pub Passed : List Test → Type 0
Passed [] = Unit
Passed (t ∷ l) = (t.holds ≡ false) × Passed l

-- every test has a code of its own, and none is 0
abbrev pub coded : List Test → Bool
coded [] = true
coded (t ∷ l) = ltb 0 t.code && coded l

pub and_left : (a b : Bool) → (a && b) ≡ true → a ≡ true
and_left true b e = refl
and_left false b e = absurd (false≢true e)

pub and_right : (a b : Bool) → (a && b) ≡ true → b ≡ true
and_right true b e = e
and_right false b e = absurd (false≢true e)

pub not-true : (b : Bool) → not b ≡ true → b ≡ false
not-true true e = absurd (false≢true e)
not-true false e = refl

pub not-false : (b : Bool) → not b ≡ false → b ≡ true
not-false true e = refl
not-false false e = absurd (false≢true (sym e))

pub or_left_false : (a b : Bool) → (a || b) ≡ false → a ≡ false
or_left_false true b e = absurd (false≢true (sym e))
or_left_false false b e = refl

pub or_right_false : (a b : Bool) → (a || b) ≡ false → b ≡ false
or_right_false true b e = absurd (false≢true (sym e))
or_right_false false b e = e

pub passed : (l : List Test) → coded l ≡ true → first_of l ≡ 0 → Passed l
passed [] k e = tt
passed (t ∷ l) k e = go t.holds refl e (passed l (and_right (ltb 0 t.code) (coded l) k))
  where
    go : (b : Bool) → t.holds ≡ b → cond b t.code (first_of l) ≡ 0 → (first_of l ≡ 0 → Passed l) → Passed (t ∷ l)
    go true q e f = absurd (omega (arith, ltb-true 0 t.code (and_left (ltb 0 t.code) (coded l) k), e))
    go false q e f = (q, f e)

pub passed-code : (l : List Test) → Passed l → first_of l ≡ 0
passed-code [] p = refl
passed-code (t ∷ l) p = rw p.0 (passed-code l p.1)

-- the test with n others before it is the first that holds
abbrev pub Reaches : List Test → ℕ → Type 0
Reaches [] n = ⊥
Reaches (t ∷ l) zero = t.holds ≡ true
Reaches (t ∷ l) (suc n) = (t.holds ≡ false) × Reaches l n

abbrev pub code_at : List Test → ℕ → ℕ
code_at [] n = 0
code_at (t ∷ l) zero = t.code
code_at (t ∷ l) (suc n) = code_at l n

pub reached : (l : List Test) (n : ℕ) → Reaches l n → first_of l ≡ code_at l n
reached [] n r = absurd r
reached (t ∷ l) zero r = rw r
reached (t ∷ l) (suc n) r = rw r.0 (reached l n r.1)

-- what holds of every test's code
abbrev pub all_codes : (ℕ → Bool) → List Test → Bool
all_codes f [] = true
all_codes f (t ∷ l) = f t.code && all_codes f l

-- and of 0, holds of the first one's
pub first-all : (f : ℕ → Bool) (l : List Test) → f 0 ≡ true → all_codes f l ≡ true → f (first_of l) ≡ true
first-all f [] h e = h
first-all f (t ∷ l) h e =
    either (λ (n : ℕ). f n ≡ true) t.holds (λ q. and_left (f t.code) (all_codes f l) e) (λ q. first-all f l h (and_right (f t.code) (all_codes f l) e))

-- what follows from that of every code
pub all_then : (f g : ℕ → Bool) → ((n : ℕ) → f n ≡ true → g n ≡ true) → (l : List Test) → all_codes f l ≡ true → all_codes g l ≡ true
all_then f g h [] e = refl
all_then f g h (t ∷ l) e =
    rw (h t.code (and_left (f t.code) (all_codes f l) e)) (all_then f g h l (and_right (f t.code) (all_codes f l) e))

-- document 01's refusals have the codes from 40 to 56
abbrev pub refuses : ℕ → Bool
refuses n = leb 40 n && leb n 56

-- so they are codes of their own
pub refuses-coded : (l : List Test) → all_codes refuses l ≡ true → coded l ≡ true
refuses-coded [] e = refl
refuses-coded (t ∷ l) e =
    let some : 40 ≤ t.code = leb-true 40 t.code (and_left (leb 40 t.code) (leb t.code 56) (and_left (refuses t.code) (all_codes refuses l) e)) in
    rw (lt-ltb 0 t.code (omega arith)) (refuses-coded l (and_right (refuses t.code) (all_codes refuses l) e))

-- ---- a code that is not 0

abbrev Pick : Bool → Type 0 → Type 0 → Type 0
Pick true A B = A
Pick false A B = B

-- no test before the one with the code holds, and that one does
abbrev pub Ends : List Test → ℕ → Type 0
Ends [] n = ⊥
Ends (t ∷ l) n = Pick (eqb t.code n) (t.holds ≡ true) ((t.holds ≡ false) × Ends l n)

abbrev absent : List Test → ℕ → Bool
absent [] n = true
absent (t ∷ l) n = not (eqb t.code n) && absent l n

-- no two tests have the code
abbrev pub once : List Test → ℕ → Bool
once [] n = true
once (t ∷ l) n = cond (eqb t.code n) (absent l n) (once l n)

absent-code : (l : List Test) (n : ℕ) → 0 < n → absent l n ≡ true → first_of l ≡ n → ⊥
absent-code [] n h k e = omega arith
absent-code (t ∷ l) n h k e = go t.holds e (absent-code l n h (and_right (not (eqb t.code n)) (absent l n) k))
  where
    go : (b : Bool) → cond b t.code (first_of l) ≡ n → (first_of l ≡ n → ⊥) → ⊥
    go true e f = eqb-false t.code n (not-true (eqb t.code n) (and_left (not (eqb t.code n)) (absent l n) k)) e
    go false e f = f e

pub ended : (l : List Test) (n : ℕ) → 0 < n → once l n ≡ true → first_of l ≡ n → Ends l n
ended [] n h k e = omega arith
ended (t ∷ l) n h k e = go (eqb t.code n) refl t.holds refl k e (ended l n h)
  where
    go : (c : Bool) → eqb t.code n ≡ c → (b : Bool) → t.holds ≡ b → cond c (absent l n) (once l n) ≡ true → cond b t.code (first_of l) ≡ n →
        (once l n ≡ true → first_of l ≡ n → Ends l n) → Pick c (t.holds ≡ true) ((t.holds ≡ false) × Ends l n)
    go true q true x k e r = x
    go true q false x k e r = absurd (absent-code l n h k e)
    go false q true x k e r = absurd (eqb-false t.code n q e)
    go false q false x k e r = (x, r k e)

-- ---- a code as a `Result`

-- no refusal has code 0
pub number-pos : (r : Refusal) → eqb (number_of r) 0 ≡ false
number-pos refusal.Malformed = refl
number-pos refusal.OpStateIncorrect = refl
number-pos refusal.OperandInvalid = refl
number-pos refusal.OperandBusy = refl
number-pos refusal.InvalidResumption = refl
number-pos refusal.EptEntryStateIncorrect = refl
number-pos refusal.GpaRangeNotBlocked = refl
number-pos refusal.TlbTrackingNotDone = refl
number-pos refusal.BlockedMemoryExists = refl
number-pos refusal.BlockingDisallowed = refl
number-pos refusal.MemScanResetRequired = refl
number-pos refusal.MemScanDcheckNotDone = refl
number-pos refusal.ExportedDirtyPagesRemain = refl
number-pos refusal.UnexportedMemoryRemains = refl
number-pos refusal.MigrationEpochOverflow = refl
number-pos refusal.TlbEpochAtLimit = refl
