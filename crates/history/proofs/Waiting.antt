-- What a paused guest still waits for: each page is ready, or due and named by an entry of a list that is left.
use mathlib.Core.Path.{◌≡◌}
use mathlib.Core.Logic.{◌⊎◌}
use mathlib.Core.Bool.{true, false, not, ◌&&◌}
use mathlib.Core.List.{List, Memᴰ}
use Prim.Native.Nat.{ℕ, ◌≤◌, ◌<◌}
use lib.ListN.{length}
use Rattle.words.specs.Entry.{entry_of}
use Rattle.words.specs.Operations as operations
use Rattle.page.specs.Page.{blocked}
use Rattle.page.specs.Page.{Page}
use Rattle.table.specs.Table.{page_count, page_at}
use Rattle.session.specs.Session.{stream_places}
use Rattle.session.specs.Formed.{formed, busy, most_entries}
use Rattle.session.specs.declared.Phase.TheVariants.{Blackout}
use Rattle.migration.specs.Grant.{Ready}
use Rattle.entry.specs.Entry.{invalid, unexportable, cancelled}
use Rattle.history.specs.History.{World}

-- an entry for page i that is valid and no NOP
pub record Names (word i : ℕ) : Type 0 where
  pub valid : invalid (entry_of word) ≡ false
  pub operation : (entry_of word).operation ≡ operations.migrate
  pub page : (entry_of word).gpa ≡ i

-- in Blackout an entry of the page succeeds, in a later epoch than the page's own
pub record Due (p : Page) : Type 0 where
  pub able : unexportable p ≡ false
  pub clean : (not (cancelled p) && p.dirty) ≡ false
  -- of 26 and 31 an export makes 1 and 3, which are not ready
  pub unblocked : blocked p ≡ false

-- page i is named in a list
abbrev pub Named : List ℕ → ℕ → Type 0
Named l i = (word : ℕ) × Memᴰ word l × Names word i

-- and in one of some lists
abbrev pub Listed : List (List ℕ) → ℕ → Type 0
Listed lists i = (l : List ℕ) × Memᴰ l lists × Named l i

-- a list that the bench takes
pub record Short (l : List ℕ) : Type 0 where
  pub some : 1 ≤ length l
  pub most : length l ≤ most_entries

-- paused, at rest and checked, with some lists left to export
pub record Left (w : World) (n : ℕ) (ls : List (List ℕ)) : Type 0 where
  pub formed : formed w.session (length w.table) ≡ true
  pub phase : w.session.phase ≡ Blackout
  pub rest : busy w.session ≡ false
  pub streams : length w.session.streams ≡ stream_places
  pub complete : w.session.check.complete ≡ true
  pub created : w.session.fixed.created ≡ n
  pub lists : (l : List ℕ) → Memᴰ l ls → Short l
  pub pages : (i : ℕ) → i < page_count w.table →
      Ready (page_at w.table i) ⊎ (Due (page_at w.table i) × ((page_at w.table i).migrated < w.session.epoch) × Listed ls i)
