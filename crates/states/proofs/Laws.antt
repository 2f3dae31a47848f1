-- A state's number names it, and no other number does: so what a test computes of all 256 numbers holds of every state. What holds of each change on a list
-- holds of where it takes a state.
use mathlib.Core.Path.{◌≡◌, refl, sym, ap, ◌∙◌, subst}
use mathlib.Core.Bool.{Bool, true, false, cond, not, ◌&&◌, ◌||◌, true≢false, false≢true}
use mathlib.Core.Logic.{◌⊎◌, inl, inr}
use mathlib.Core.List.{List, [], ◌∷◌}
use Prim.Native.Nat.{ℕ, ◌^◌, ◌<◌}
use lib.Dec.{T, eqb, ltb, lit<}
use borrow.Author.Tests.{eqb-true, ltb-true}
use Rattle.words.proofs.ClassLaws.{is_true}
use Rattle.refusals.proofs.Laws.{either, and_left, and_right}
use Rattle.states.specs.States.{State, Free, Blocked, Pending, PendingBlocked, Mapped, Exported, ExportedModified, ExportedBlocked, ExportedRemoved}
use Rattle.states.specs.States.{PendingExported, PendingExportedModified, PendingExportedBlocked, Strange}
use Rattle.states.specs.States.{number_of, plain_states, numbered, state_of, same, is_strange, is_in, Change, has_move, goes_by, number_by, Numbered, number_in}
use Rattle.states.specs.Lists.{hinted, operated}
use Rattle.states.proofs.Masks.{all, at}

-- ---- numbers

-- a state's number, as a record has it
record Named (s : State) : Type 0 where
  fits : number_of s < 2 ^ 8
  named : state_of (number_of s) ≡ s

names : (s : State) → Named s
unfolding state_of
names Free = record { fits = lit< tt; named = refl }
names Blocked = record { fits = lit< tt; named = refl }
names Pending = record { fits = lit< tt; named = refl }
names PendingBlocked = record { fits = lit< tt; named = refl }
names Mapped = record { fits = lit< tt; named = refl }
names Exported = record { fits = lit< tt; named = refl }
names ExportedModified = record { fits = lit< tt; named = refl }
names ExportedBlocked = record { fits = lit< tt; named = refl }
names ExportedRemoved = record { fits = lit< tt; named = refl }
names PendingExported = record { fits = lit< tt; named = refl }
names PendingExportedModified = record { fits = lit< tt; named = refl }
names PendingExportedBlocked = record { fits = lit< tt; named = refl }
names Strange = record { fits = lit< tt; named = refl }

pub number_lt : (s : State) → number_of s < 2 ^ 8
number_lt s = (names s).fits

pub state-number : (s : State) → state_of (number_of s) ≡ s
state-number s = (names s).named

-- a test that passes at every number passes at every state
pub every-state : (f : State → Bool) → all (λ n. f (state_of n)) → (s : State) → f s ≡ true
every-state f t s = is_true (f s) (subst (λ (z : State). T (f z)) (state-number s) (at (λ n. f (state_of n)) (number_of s) (number_lt s) t))

-- where a test of every state holds only if another does
pub every-if : (f g : State → Bool) → all (λ n. not (f (state_of n)) || g (state_of n)) → (s : State) → f s ≡ true → g s ≡ true
every-if f g t s e = go (f s) e (every-state (λ (z : State). not (f z) || g z) t s)
  where
    go : (b : Bool) → b ≡ true → (not b || g s) ≡ true → g s ≡ true
    go true q h = h
    go false q h = absurd (false≢true q)

numbered-number : (l : List State) (n : ℕ) → same (numbered l n) Strange ≡ false → number_of (numbered l n) ≡ n
numbered-number [] n = λ e. absurd (true≢false e)
numbered-number (s ∷ l) n = go (eqb n (number_of s)) refl (numbered-number l n)
  where
    go : (b : Bool) → eqb n (number_of s) ≡ b → (same (numbered l n) Strange ≡ false → number_of (numbered l n) ≡ n) →
        same (cond b s (numbered l n)) Strange ≡ false → number_of (cond b s (numbered l n)) ≡ n
    go true q f x = sym (eqb-true n (number_of s) q)
    go false q f x = f x

-- a number that names a state is that state's
pub number-state : (n : ℕ) → is_strange (state_of n) ≡ false → number_of (state_of n) ≡ n
unfolding state_of is_strange
number-state n e = numbered-number plain_states n e

-- states of one number are one
same-is : (a b : State) → same a b ≡ true → a ≡ b
same-is a b e = sym (state-number a) ∙ ap state_of (eqb-true (number_of a) (number_of b) e) ∙ state-number b

pub strange-is : (s : State) → is_strange s ≡ true → s ≡ Strange
unfolding is_strange
strange-is s e = same-is s Strange e

-- ---- lists of states

pub in_one : (z a : State) → is_in z (a ∷ []) ≡ true → z ≡ a
unfolding is_in
in_one z a e = go (same z a) refl e
  where
    go : (b : Bool) → same z a ≡ b → (b || false) ≡ true → z ≡ a
    go true q h = same-is z a q
    go false q h = absurd (false≢true h)

pub in_two : (z a b : State) → is_in z (a ∷ b ∷ []) ≡ true → (z ≡ a) ⊎ (z ≡ b)
unfolding is_in
in_two z a b e = go (same z a) refl e
  where
    go : (c : Bool) → same z a ≡ c → (c || is_in z (b ∷ [])) ≡ true → (z ≡ a) ⊎ (z ≡ b)
    go true q h = inl (same-is z a q)
    go false q h = inr (in_one z b h)

-- ---- lists of changes

-- what holds of every change on a list
abbrev pub Each : (State → State → Type 0) → List Change → Type 0
Each P [] = Unit
Each P (c ∷ l) = P c.from c.to × Each P l

-- by a test that is computed of each
abbrev pub each_passes : (State → State → Bool) → List Change → Bool
each_passes f [] = true
each_passes f (c ∷ l) = f c.from c.to && each_passes f l

pub each-by : (P : State → State → Type 0) (f : State → State → Bool) → ((z to : State) → f z to ≡ true → P z to) → (l : List Change) → each_passes f l ≡ true →
    Each P l
each-by P f g [] e = tt
each-by P f g (c ∷ l) e =
    (g c.from c.to (and_left (f c.from c.to) (each_passes f l) e), each-by P f g l (and_right (f c.from c.to) (each_passes f l) e))

-- holds of where the list takes a state that it has a move for
pub move-each : (P : State → State → Type 0) (l : List Change) → Each P l → (z : State) → has_move l z ≡ true → P z (goes_by l z)
unfolding has_move goes_by
move-each P [] e z = λ h. absurd (false≢true h)
move-each P (c ∷ l) e z = go (same z c.from) refl (move-each P l e.1 z)
  where
    go : (b : Bool) → same z c.from ≡ b → (has_move l z ≡ true → P z (goes_by l z)) → (b || has_move l z) ≡ true → P z (cond b c.to (goes_by l z))
    go true q f h = subst (λ (x : State). P x c.to) (sym (same-is z c.from q)) e.0
    go false q f h = f h

-- and of where it takes any state, if it holds of one that stays
pub goes-each : (P : State → State → Type 0) (l : List Change) → Each P l → (z : State) → P z z → P z (goes_by l z)
unfolding goes_by
goes-each P [] e z o = o
goes-each P (c ∷ l) e z o =
    either (λ (to : State). P z to) (same z c.from)
    (λ q. subst (λ (x : State). P x c.to) (sym (same-is z c.from q)) e.0)
    (λ q. goes-each P l e.1 z o)

-- the number of where a list takes a state
pub number_by_lem : (l : List Change) (z : State) → number_by l (number_of z) ≡ number_of (goes_by l z)
unfolding number_by goes_by
number_by_lem [] z = refl
number_by_lem (c ∷ l) z = go (same z c.from) (number_by_lem l z)
  where
    go : (b : Bool) → number_by l (number_of z) ≡ number_of (goes_by l z) →
        cond b (number_of c.to) (number_by l (number_of z)) ≡ number_of (cond b c.to (goes_by l z))
    go true e = refl
    go false e = e

-- ---- what a list word says of a state fits its run

-- every number of a list is below some bound
abbrev below : ℕ → List Numbered → Bool
below n [] = true
below n (x ∷ l) = ltb x.number n && below n l

number-below : (n : ℕ) (l : List Numbered) (s : State) → 0 < n → below n l ≡ true → number_in l s < n
unfolding number_in
number-below n [] s h e = h
number-below n (x ∷ l) s h e =
    either (λ (k : ℕ). k < n) (same s x.state) (λ q. ltb-true _ _ (and_left (ltb x.number n) (below n l) e))
    (λ q. number-below n l s h (and_right (ltb x.number n) (below n l) e))

pub hint-lt : (s : State) → number_in hinted s < 2 ^ 2
hint-lt s = number-below (2 ^ 2) hinted s (lit< tt) refl

pub operation-lt : (s : State) → number_in operated s < 2 ^ 2
operation-lt s = number-below (2 ^ 2) operated s (lit< tt) refl
