-- Demand 3, over every history.
use Rattle.std.specs.Prelude.{◌≡◌, true, false, cond, List, [], ◌∷◌, ◌++◌, map, ℕ, ◌≤◌, length}
use Rattle.states.specs.States.{State, Blocked, Pending, PendingBlocked, Mapped, Exported, ExportedModified, ExportedBlocked, PendingExported}
use Rattle.states.specs.States.{PendingExportedModified, PendingExportedBlocked, is_in}
use Rattle.page.specs.Page.{Page}
use Rattle.table.specs.Table.{page_count, page_at}
use Rattle.session.specs.Formed.{busy, formed}
use Rattle.bundle.specs.Bundle.{Holding, absent, holds, Sent, nothing, replay, Order, Once, Fits}
use Rattle.history.specs.History.{World, History, at_end}
use Rattle.history.specs.Earning.{granted, Paused, Ask, Fair, Full, All, check, complete, most_lists, full_asks, prepared, cut_anew}
use Rattle.history.specs.Earning.{Sending, sending_all, Plan, at_once, Exporting, exporting_all, TookEvery}

-- the states in which the guest has a data page, and a pending one
abbrev pub guests_states : List State
guests_states = Blocked ∷ Mapped ∷ Exported ∷ ExportedModified ∷ ExportedBlocked ∷ []

abbrev pub awaited_states : List State
awaited_states = Pending ∷ PendingBlocked ∷ PendingExported ∷ PendingExportedModified ∷ PendingExportedBlocked ∷ []

-- what the table says of a page: a data page with its mark, a pending one with 0, or nothing
abbrev pub content_of : State → ℕ → Holding
content_of z mark = cond (is_in z guests_states) (holds false mark) (cond (is_in z awaited_states) (holds true 0) absent)

abbrev pub content : Page → Holding
content p = content_of p.state p.mark

-- ---- safety

-- in every order of the log that keeps the epochs in order
abbrev pub InEveryOrder : World → (List Sent → Type 0) → Type 0
InEveryOrder w P = (l : List Sent) → Order w.log l → P l

-- where the token, asked for at the end, is granted (it leaves table, log and copy)
pub record Safe : Type 0 where
  -- every such order replays to what the table holds of each page: 24, with its mark; 29, pending with 0; 0, nothing; by `GrantedExactly` there is no other
  pub table : (h : History) → granted (at_end h) ≡ true → InEveryOrder (at_end h) (λ l. (i : ℕ) → replay nothing l i ≡ content (page_at (at_end h).table i))
  -- beyond the table, nothing
  pub beyond : (h : History) → granted (at_end h) ≡ true → InEveryOrder (at_end h) (λ l. (i : ℕ) → page_count (at_end h).table ≤ i → replay nothing l i ≡ absent)
  -- and that is the copy taken at the last pause
  pub copy : (h : History) → granted (at_end h) ≡ true → InEveryOrder (at_end h) (λ l. (i : ℕ) → replay nothing l i ≡ (at_end h).copy i)
  -- the log as it was made is such an order
  pub order : (h : History) → Order (at_end h).log (at_end h).log

-- at any time the table's marks are the guest's true memory, by the calls on it
pub record Remembers : Type 0 where
  pub marks : (h : History) (i : ℕ) → content (page_at (at_end h).table i) ≡ (at_end h).memory i

-- granted or not, in every such order each entry fits where it lands; and an epoch has at most one successful entry of a page
pub record EntriesFit : Type 0 where
  pub turn : (h : History) (before after : List Sent) (x : Sent) → Order (at_end h).log (before ++ (x ∷ after)) →
      Fits x.operation (replay nothing before x.page)
  pub once : (h : History) → Once (at_end h).log

-- ---- liveness

-- no session that was returned is malformed
pub record StaysFormed : Type 0 where
  pub formed : (h : History) → formed (at_end h).session (length (at_end h).table) ≡ true

-- from every paused state with streams at rest and the migration epoch below its limit
pub record Earned : Type 0 where
  -- reset, check, one new epoch and at most eight lists always earn the token
  pub always : (h : History) → Paused (at_end h) →
      (granted (sending_all (prepared (at_end h) full_asks) (map at_once (check (at_end h) full_asks).lists)) ≡ true)
      × (length (check (at_end h) full_asks).lists ≤ most_lists)
  -- with rooms of 1 to 512 and budgets of at least 1, as many DCHECKs as there are pages come to the end
  pub ends : (h : History) → Paused (at_end h) → (asks : List Ask) → All Fair asks → page_count (at_end h).table ≤ length asks →
      complete (check (at_end h) asks).world ≡ true
  -- with rooms of 512 and budgets of at least 512, or of the page count if that is less, eight do
  pub eight : (h : History) → Paused (at_end h) → (asks : List Ask) → All (Full (page_count (at_end h).table)) asks → most_lists ≤ length asks →
      complete (check (at_end h) asks).world ≡ true
  -- and however many there are, they give at most eight lists
  pub few : (h : History) → Paused (at_end h) → (asks : List Ask) → All (Full (page_count (at_end h).table)) asks →
      length (check (at_end h) asks).lists ≤ most_lists
  -- after a check that came to its end, whatever its rooms and budgets, its lists earn the token, in any order and with any budgets that come to their ends
  pub earned : (h : History) → Paused (at_end h) → (asks : List Ask) → complete (check (at_end h) asks).world ≡ true → (xs : List Sending) →
      Plan (at_end h) (check (at_end h) asks).lists xs → granted (sending_all (prepared (at_end h) asks) xs) ≡ true
  -- and so do its entries cut anew into lists of 512, of which there are at most eight
  pub anew : (h : History) → Paused (at_end h) → (asks : List Ask) → complete (check (at_end h) asks).world ≡ true
      → (granted (sending_all (prepared (at_end h) asks) (map at_once (cut_anew (check (at_end h) asks).lists))) ≡ true)
      × (length (cut_anew (check (at_end h) asks).lists) ≤ most_lists)
  -- and any calls of export that took every entry of its lists and left no stream interrupted
  pub anyhow : (h : History) → Paused (at_end h) → (asks : List Ask) → complete (check (at_end h) asks).world ≡ true → (xs : List Exporting) →
      TookEvery (prepared (at_end h) asks) (check (at_end h) asks).lists xs → busy (exporting_all (prepared (at_end h) asks) xs).session ≡ false →
      granted (exporting_all (prepared (at_end h) asks) xs) ≡ true
