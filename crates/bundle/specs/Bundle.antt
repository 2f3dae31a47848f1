-- An entry as it was sent, what a destination holds of a page, and replay. No page states here: any way of exporting, and an import, can stand on it.
use Rattle.std.specs.Prelude.{◌≡◌, Bool, cond, ℕ, ◌≤◌, eqb}
use mathlib.Core.List.{List, [], ◌∷◌, Memᴰ, Permᴰ}

-- what the destination holds of a page: nothing, or a page of a kind, true for a pending one, with a word
pub data Holding : Type 0 where
  absent : Holding
  holds : Bool → ℕ → Holding

pub data Operation : Type 0 where
  migrate cancel remigrate : Operation

-- an entry that succeeded: the migration epoch in which it was taken, what its word said, and its buffer word
pub record Sent : Type 0 where
  pub epoch : ℕ
  pub page : ℕ
  pub operation : Operation
  pub pending : Bool
  pub contents : ℕ

-- MIGRATE and REMIGRATE make the page present, of the kind PENDING says, with the buffer word; CANCEL makes it absent
abbrev pub made : Operation → Bool → ℕ → Holding
made migrate pending contents = holds pending contents
made cancel pending contents = absent
made remigrate pending contents = holds pending contents

abbrev pub made_by : Sent → Holding
made_by x = made x.operation x.pending x.contents

-- ---- replay

abbrev pub nothing : ℕ → Holding
nothing i = absent

abbrev pub receiving : (ℕ → Holding) → Sent → ℕ → Holding
receiving d x i = cond (eqb x.page i) (made_by x) (d i)

-- the destination after some entries, taken in the list's order
abbrev pub replay : (ℕ → Holding) → List Sent → ℕ → Holding
replay d [] = d
replay d (x ∷ l) = replay (receiving d x) l

-- ---- orders

-- epochs in order
abbrev pub Rising : List Sent → Type 0
Rising [] = Unit
Rising (x ∷ l) = ((y : Sent) → Memᴰ y l → x.epoch ≤ y.epoch) × Rising l

-- the entries of a log, epochs in order and each epoch's entries in any order
pub record Order (log l : List Sent) : Type 0 where
  pub same : Permᴰ log l
  pub rising : Rising l

-- at most one entry of a page in an epoch
abbrev pub Once : List Sent → Type 0
Once [] = Unit
Once (x ∷ l) = ((y : Sent) → Memᴰ y l → y.page ≡ x.page → y.epoch ≡ x.epoch → ⊥) × Once l

-- ---- what an entry finds

abbrev pub Present : Holding → Type 0
Present absent = ⊥
Present (holds pending contents) = Unit

-- MIGRATE finds the page absent, CANCEL and REMIGRATE find it present
abbrev pub Fits : Operation → Holding → Type 0
Fits migrate h = h ≡ absent
Fits cancel h = Present h
Fits remigrate h = Present h
