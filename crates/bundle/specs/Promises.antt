-- What replay promises, whatever made the entries.
use Rattle.std.specs.Prelude.{◌≡◌, ℕ, ◌≤◌}
use mathlib.Core.List.{List, [], ◌∷◌, Memᴰ}
use Rattle.bundle.specs.Bundle.{Holding, absent, holds, Operation, migrate, cancel, Sent, made_by, nothing, replay, Order, Once, Fits}

-- one entry: its page is then present, of its kind and with its buffer word, or absent after a CANCEL; every other page is as it was
pub record Receives : Type 0 where
  pub present : (d : ℕ → Holding) (x : Sent) → (x.operation ≡ cancel → ⊥) → replay d (x ∷ []) x.page ≡ holds x.pending x.contents
  pub gone : (d : ℕ → Holding) (x : Sent) → x.operation ≡ cancel → replay d (x ∷ []) x.page ≡ absent
  pub others : (d : ℕ → Holding) (x : Sent) (i : ℕ) → (x.page ≡ i → ⊥) → replay d (x ∷ []) i ≡ d i

-- many: where an epoch has at most one entry of a page, the entry of a page's latest epoch decides, in every order that keeps the epochs; a page without an
-- entry stays absent
pub record LastDecides : Type 0 where
  pub last : (log l : List Sent) → Once log → Order log l → (x : Sent) → Memᴰ x log →
      ((y : Sent) → Memᴰ y log → y.page ≡ x.page → y.epoch ≤ x.epoch) → replay nothing l x.page ≡ made_by x
  pub none : (log l : List Sent) → Order log l → (i : ℕ) → ((y : Sent) → Memᴰ y log → y.page ≡ i → ⊥) → replay nothing l i ≡ absent

-- an entry fits only where it finds what it needs: MIGRATE an absent page, the two others one that is not absent
pub record FitsOnly : Type 0 where
  pub first : (h : Holding) → Fits migrate h → h ≡ absent
  pub again : (o : Operation) (h : Holding) → (o ≡ migrate → ⊥) → Fits o h → h ≡ absent → ⊥
