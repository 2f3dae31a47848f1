-- The states of a page: the twelve that the base uses, and Strange.
use Rattle.std.specs.Prelude.{Bool, false, cond, ◌||◌, List, [], ◌∷◌, ℕ, eqb}
use Rattle.words.specs.States as number

pub data State : Type 0 where
  Free Blocked Pending PendingBlocked Mapped : State
  Exported ExportedModified ExportedBlocked ExportedRemoved : State
  PendingExported PendingExportedModified PendingExportedBlocked : State
  Strange : State

-- Strange has an unlisted number, so that it is read back as Strange; no record is written with it
abbrev pub strange_number : ℕ
strange_number = 255

abbrev pub number_of : State → ℕ
number_of Free = number.free
number_of Blocked = number.blocked
number_of Pending = number.pending
number_of PendingBlocked = number.pending_blocked
number_of Mapped = number.mapped
number_of Exported = number.exported
number_of ExportedModified = number.exported_modified
number_of ExportedBlocked = number.exported_blocked
number_of ExportedRemoved = number.exported_removed
number_of PendingExported = number.pending_exported
number_of PendingExportedModified = number.pending_exported_modified
number_of PendingExportedBlocked = number.pending_exported_blocked
number_of Strange = strange_number

-- every state but Strange
abbrev pub plain_states : List State
plain_states =
    Free
    ∷ Blocked
    ∷ Pending
    ∷ PendingBlocked
    ∷ Mapped
    ∷ Exported
    ∷ ExportedModified
    ∷ ExportedBlocked
    ∷ ExportedRemoved
    ∷ PendingExported
    ∷ PendingExportedModified
    ∷ PendingExportedBlocked
    ∷ []

-- the first of some states that has the number
abbrev pub numbered : List State → ℕ → State
numbered [] n = Strange
numbered (s ∷ l) n = cond (eqb n (number_of s)) s (numbered l n)

unfoldable pub state_of : ℕ → State
state_of n = numbered plain_states n

abbrev pub same : State → State → Bool
same a b = eqb (number_of a) (number_of b)

-- a record in any other state, or with a spare bit set, is strange: it counts as in none of the states named
unfoldable pub is_strange : State → Bool
is_strange s = same s Strange

-- ---- lists of states

unfoldable pub is_in : State → List State → Bool
is_in s [] = false
is_in s (x ∷ l) = same s x || is_in s l

-- ---- lists of changes

pub record Change : Type 0 where
  pub from : State
  pub to : State

infixl 70 ◌⇒◌
abbrev pub ◌⇒◌ : State → State → Change
a ⇒ b = record { from = a; to = b }

-- a call has a move for the state
unfoldable pub has_move : List Change → State → Bool
has_move [] s = false
has_move (c ∷ l) s = same s c.from || has_move l s

-- where it takes the state; one that it has no move for stays
unfoldable pub goes_by : List Change → State → State
goes_by [] s = s
goes_by (c ∷ l) s = cond (same s c.from) c.to (goes_by l s)

-- the same for any number
unfoldable pub number_by : List Change → ℕ → ℕ
number_by [] n = n
number_by (c ∷ l) n = cond (eqb n (number_of c.from)) (number_of c.to) (number_by l n)

-- ---- lists of numbers

-- a state and its number in a list word
pub record Numbered : Type 0 where
  pub state : State
  pub number : ℕ

infixl 70 ◌⟼◌
abbrev pub ◌⟼◌ : State → ℕ → Numbered
s ⟼ n = record { state = s; number = n }

-- a state's number among some; 0 where it has none
unfoldable pub number_in : List Numbered → State → ℕ
number_in [] s = 0
number_in (x ∷ l) s = cond (same s x.state) x.number (number_in l s)
