-- Lists joined and cut anew: cutting keeps every entry, makes no list that is empty or too long, and of k times 512 entries at most k lists. A list that
-- is put before others is left out where it is empty.
use mathlib.Core.Path.{◌≡◌, refl, sym, subst}
use mathlib.Core.Logic.{⊎_elim}
use mathlib.Core.List.Memᴰ
use mathlib.Core.List.{List, [], ◌∷◌, ◌++◌, append-nil, append_assoc, Memᴰ}
use Prim.Native.Nat.{ℕ, zero, suc, ◌*◌, ◌≤◌}
use native.Mathlib.Omega.{arith}
use native.Mathlib.Nat.{zero-mul, suc-mul}
use lib.ListN.{length, take, drop, length-take, length-drop, take-append-drop}
use lib.Seq.{take-nil, drop-nil}
use Rattle.session.specs.Formed.{most_entries}
use Rattle.history.specs.Earning.{with_list, joined, cut_into, cut_anew}
use Rattle.history.proofs.Waiting.{Listed, Short}

-- ---- a list before others

pub with_append : (l : List ℕ) (ls : List (List ℕ)) → with_list l ls ≡ with_list l [] ++ ls
with_append [] ls = refl
with_append (x ∷ l) ls = refl

pub with-few : (l : List ℕ) (ls : List (List ℕ)) → length (with_list l ls) ≤ suc (length ls)
with-few [] ls = omega arith
with-few (x ∷ l) ls = omega arith

pub with-short : (l : List ℕ) (ls : List (List ℕ)) → length l ≤ most_entries → ((m : List ℕ) → Memᴰ m ls → Short m)
    → (m : List ℕ) → Memᴰ m (with_list l ls) → Short m
with-short [] ls h old m k = old m k
with-short (x ∷ l) ls h old m k =
    ⊎_elim
    (λ (e : m ≡ x ∷ l). subst (λ (y : List ℕ). Short y) (sym e) (record { some = omega arith; most = h }))
    (λ z. old m z)
    (Memᴰ.cases_cons k)

-- ---- joined

with-joined : (l : List ℕ) (ls : List (List ℕ)) → joined (with_list l ls) ≡ l ++ joined ls
with-joined [] ls = refl
with-joined (x ∷ l) ls = refl

pub joined-with : (ls : List (List ℕ)) (l : List ℕ) → joined (ls ++ with_list l []) ≡ joined ls ++ l
joined-with [] l = rw (with-joined l [], append-nil l)
joined-with (m ∷ ls) l = rw (joined-with ls l, append_assoc m (joined ls) l)

to-joined : (ls : List (List ℕ)) (l : List ℕ) (word : ℕ) → Memᴰ l ls → Memᴰ word l → Memᴰ word (joined ls)
to-joined [] l word k m = absurd (Memᴰ.not-nil k)
to-joined (x ∷ ls) l word k m =
    ⊎_elim
    (λ q. Memᴰ.append_left (joined ls) (subst (λ (y : List ℕ). Memᴰ word y) q m))
    (λ n. Memᴰ.append_right x (to-joined ls l word n m))
    (Memᴰ.cases_cons k)

of-joined : (ls : List (List ℕ)) (word : ℕ) → Memᴰ word (joined ls) → (l : List ℕ) × Memᴰ l ls × Memᴰ word l
of-joined [] word m = absurd (Memᴰ.not-nil m)
of-joined (x ∷ ls) word m =
    ⊎_elim
    (λ k. (x, Memᴰ.head refl, k))
    (λ k. let at = of-joined ls word k in (at.0, Memᴰ.tail at.1, at.2))
    (Memᴰ.append_cases x m)

-- ---- cut

-- as many times as there are entries are enough
cut-joined : (size n : ℕ) (l : List ℕ) → 1 ≤ size → length l ≤ n → joined (cut_into size n l) ≡ l
cut-joined size zero [] some h = refl
cut-joined size zero (x ∷ l) some h = absurd (omega arith)
cut-joined size (suc n) l some h =
    rw (with-joined (take size l) (cut_into size n (drop size l)), cut-joined size n (drop size l) some (omega (arith, length-drop size l)))
    (take-append-drop size l)

cut_short : (size n : ℕ) (l m : List ℕ) → size ≤ most_entries → Memᴰ m (cut_into size n l) → Short m
cut_short size zero l m most k = absurd (Memᴰ.not-nil k)
cut_short size (suc n) l m most k =
    with-short (take size l) (cut_into size n (drop size l)) (omega (arith, length-take size l)) (λ o. cut_short size n (drop size l) o most) m k

cut-none : (size n : ℕ) → length (cut_into size n []) ≡ 0
cut-none size zero = refl
cut-none size (suc n) = rw (take-nil size, drop-nil size) (cut-none size n)

cut-few : (size n k : ℕ) (l : List ℕ) → length l ≤ k * size → length (cut_into size n l) ≤ k
cut-few size zero k l h = omega arith
cut-few size (suc n) zero [] h = omega (arith, cut-none size (suc n))
cut-few size (suc n) zero (x ∷ l) h = absurd (omega (arith, zero-mul size))
cut-few size (suc n) (suc k) l h =
    omega (
      arith,
      with-few (take size l) (cut_into size n (drop size l)),
      cut-few size n k (drop size l) (omega (arith, length-drop size l, suc-mul k size)),
    )

-- ---- cut anew

pub anew-short : (ls : List (List ℕ)) (m : List ℕ) → Memᴰ m (cut_anew ls) → Short m
anew-short ls m k = search (arith, cut_short)

pub anew-few : (k : ℕ) (ls : List (List ℕ)) → length (joined ls) ≤ k * most_entries → length (cut_anew ls) ≤ k
anew-few k ls h = search (arith, cut-few)

pub anew-listed : (ls : List (List ℕ)) (i : ℕ) → Listed ls i → Listed (cut_anew ls) i
anew-listed ls i x =
    let word = x.2.0 in
    let kept : joined (cut_anew ls) ≡ joined ls = search (arith, cut-joined) in
    let at = of-joined (cut_anew ls) word (rw kept (to-joined ls x.0 word x.1 x.2.1)) in
    (at.0, at.1, (word, at.2, x.2.2))
