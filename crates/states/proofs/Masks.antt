-- What a mask or a packed table says of a state's number is what the lists say: both are computed at each of the 256.
use mathlib.Core.Path.{◌≡◌, refl, ap, ◌∙◌}
use mathlib.Core.Bool.{Bool, true, false, cond, not}
use mathlib.Core.List.{List, [], ◌∷◌}
use Prim.Native.Nat.{ℕ, ◌<◌, ◌^◌}
use native.Mathlib.Omega.{arith}
use lib.Dec.{T, eqb, eqb→eq}
use Rattle.words.proofs.ClassLaws.{passes, passes_at}
use Rattle.states.specs.States.{State, Change, Numbered, state_of, is_in, has_move, number_by, number_in}
use Rattle.states.specs.Masks.{in_mask, packed_at}

-- f passes at every number of eight bits
abbrev pub all : (ℕ → Bool) → Type 0
all f = T (passes f 0 256)

pub at : (f : ℕ → Bool) (n : ℕ) → n < 2 ^ 8 → all f → T (f n)
at f n h t = passes_at f 0 256 n t (omega arith) (omega arith)

abbrev alike : Bool → Bool → Bool
alike true b = b
alike false b = not b

alike_same : (a b : Bool) → T (alike a b) → a ≡ b
alike_same true true t = refl
alike_same true false t = absurd t
alike_same false true t = absurd t
alike_same false false t = refl

-- two tests that agree at every number
pub same_test : (f g : ℕ → Bool) (n : ℕ) → n < 2 ^ 8 → all (λ m. alike (f m) (g m)) → f n ≡ g n
same_test f g n h t = alike_same (f n) (g n) (at (λ m. alike (f m) (g m)) n h t)

same_number : (f g : ℕ → ℕ) (n : ℕ) → n < 2 ^ 8 → all (λ m. eqb (f m) (g m)) → f n ≡ g n
same_number f g n h t = eqb→eq (f n) (g n) (at (λ m. eqb (f m) (g m)) n h t)

-- a mask and a list of states
pub mask-list : {b : Bool} (mask n : ℕ) (l : List State) → b ≡ in_mask mask n → n < 2 ^ 8 → all (λ m. alike (in_mask mask m) (is_in (state_of m) l)) →
    b ≡ is_in (state_of n) l
mask-list mask n l e h t = e ∙ same_test (in_mask mask) (λ m. is_in (state_of m) l) n h t

-- a packed table and a list of numbers
pub packed-list : {r : ℕ} (table n : ℕ) (l : List Numbered) → r ≡ packed_at table n → n < 2 ^ 8 → all (λ m. eqb (packed_at table m) (number_in l (state_of m))) →
    r ≡ number_in l (state_of n)
packed-list table n l e h t = e ∙ same_number (packed_at table) (λ m. number_in l (state_of m)) n h t

-- ---- masks and a list of changes

-- a mask of numbers, and where they go
pub record Group : Type 0 where
  pub mask : ℕ
  pub to : ℕ

abbrev pub group : ℕ → ℕ → Group
group mask to = record { mask = mask; to = to }

-- the first group that has the number
abbrev pub picked_by : List Group → ℕ → ℕ
picked_by [] n = n
picked_by (g ∷ l) n = cond (in_mask g.mask n) g.to (picked_by l n)

-- what picks one after the other have come to
pub record Picked (gs : List Group) (r n : ℕ) : Type 0 where
  pub same : r ≡ picked_by gs n

pub none : {n : ℕ} → Picked [] n n
none = record { same = refl }

pub picked : {gs : List Group} {r other n : ℕ} (mask to : ℕ) → r ≡ cond (in_mask mask n) to other → Picked gs other n → Picked (group mask to ∷ gs) r n
picked {n = n} mask to e p = record { same = e ∙ ap (cond (in_mask mask n) to) p.same }

pub picked-list : {gs : List Group} {r : ℕ} (n : ℕ) (l : List Change) → Picked gs r n → n < 2 ^ 8 → all (λ m. eqb (picked_by gs m) (number_by l m)) →
    r ≡ number_by l n
picked-list {gs} n l p h t = p.same ∙ same_number (picked_by gs) (number_by l) n h t

-- a call has a move for a state where it takes the number to another
pub has_move_lem : (l : List Change) (n : ℕ) → n < 2 ^ 8 → all (λ m. alike (not (eqb (number_by l m) m)) (has_move l (state_of m))) →
    not (eqb (number_by l n) n) ≡ has_move l (state_of n)
has_move_lem l n h t = same_test (λ m. not (eqb (number_by l m) m)) (λ m. has_move l (state_of m)) n h t
