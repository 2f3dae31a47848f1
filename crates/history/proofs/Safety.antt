-- At a grant every page is ready, so what the log says of it is what the table holds; and no entry names a page beyond the table.
use mathlib.Core.Path.{◌≡◌, refl, sym, ap, ◌∙◌}
use mathlib.Core.Bool.{true}
use mathlib.Core.List.Permᴰ
use mathlib.Core.List.{List, [], ◌∷◌}
use Prim.Native.Nat.{ℕ, ◌≤◌, ◌<◌}
use native.Mathlib.Omega.{arith}
use native.Mathlib.Decide.{dec_lt}
use borrow.Author.Tests.{eqb-true, le-ltb}
use Rattle.records.specs.Record.{record_of, plain}
use Rattle.states.specs.States.{state_of, is_in}
use Rattle.page.specs.Page.{page_of}
use Rattle.table.specs.Table.{page_count, words_at, page_at}
use Rattle.session.specs.Session.{among}
use Rattle.session.specs.declared.Phase.{Phase}
use Rattle.session.specs.declared.Phase.TheVariants.{Blackout}
use Rattle.migration.specs.Grant.{Grantable}
use Rattle.migration.proofs.Grant.{granted-exactly}
use Rattle.bundle.specs.Bundle.{absent, Sent, nothing, replay, Order}
use Rattle.bundle.proofs.Replay.{none-past, replay-past, perm-reordered, at_turn, perm-once}
use Rattle.history.specs.History.{World, History, at_end}
use Rattle.history.specs.Earning.{granted}
use Rattle.history.specs.Promises.{content, Safe, EntriesFit}
use Rattle.history.proofs.Pages.{moment_of, while-has}
use Rattle.history.proofs.Sessions.{not-idle}
use Rattle.history.proofs.Sweeps.{ready-content}
use Rattle.history.proofs.Logs.{Fine}
use Rattle.history.proofs.Stands.{since}
use Rattle.history.proofs.Sound.{Sound, sound-end}
use Rattle.history.proofs.Memory.{remembers, frozen}

-- ---- the grant

granted-means : (w : World) → granted w ≡ true → Grantable w.session w.table
granted-means w x = granted-exactly.only w.session w.table (eqb-true _ _ x)

-- in Blackout the whole log counts
granted-fine : (w : World) → granted w ≡ true → Sound w → Fine (moment_of w.session) w.log w.table
granted-fine w x f = rw (ap (λ (p : Phase). since p w.log) (granted-means w x).paused) at f.fine

-- ---- a page of the table, and one beyond it

beyond-absent : (t : List ℕ) (i : ℕ) → page_count t ≤ i → content (page_at t i) ≡ absent
unfolding words_at page_of plain record_of state_of is_in
beyond-absent t i h = rw (le-ltb i (page_count t) h)

pub safe-beyond : (h : History) → granted (at_end h) ≡ true → (l : List Sent) → Order (at_end h).log l → (i : ℕ) → page_count (at_end h).table ≤ i →
    replay nothing l i ≡ absent
safe-beyond h x l o i b =
    let w = at_end h in
    replay-past i 0 absent w.log l (none-past i w.log (λ y m a. omega (arith, b, a, (granted-fine w x (sound-end h)).inside y m)))
    (perm-reordered o.same o.rising)

pub safe-table : (h : History) → granted (at_end h) ≡ true → (l : List Sent) → Order (at_end h).log l → (i : ℕ) →
    replay nothing l i ≡ content (page_at (at_end h).table i)
safe-table h x l o i = go (dec_lt i (page_count w.table))
  where
    w : World
    w = at_end h

    go : Dec (i < page_count w.table) → replay nothing l i ≡ content (page_at w.table i)
    go (yes b) =
        let row = (granted-fine w x (sound-end h)).rows i b in
        let moves = not-idle (Blackout ∷ []) w.session.phase refl (ap (among (Blackout ∷ [])) (granted-means w x).paused) in
        replay-past i _ row.has w.log l (while-has w.session.phase moves row.past) (perm-reordered o.same o.rising)
        ∙ ready-content (moment_of w.session) (page_at w.table i) row.has moves ((granted-means w x).ready i b) row.ok
    go (no b) =
        let far : page_count w.table ≤ i = omega (arith, b) in
        safe-beyond h x l o i far ∙ sym (beyond-absent w.table i far)

-- ---- the promises

pub made-order : (h : History) → Order (at_end h).log (at_end h).log
made-order h = record { same = Permᴰ.refl (at_end h).log; rising = (sound-end h).orderly.rising }

pub safe : Safe
safe =
    record {
      table = safe-table;
      beyond = safe-beyond;
      copy = λ h x l o i. safe-table h x l o i ∙ remembers.marks h i ∙ frozen h x i;
      order = made-order;
    }

pub entries_fit : EntriesFit
entries_fit =
    record {
      turn = λ h before after x o.
          let f = (sound-end h).orderly in
          at_turn (at_end h).log before after x f.lawful (perm-reordered o.same o.rising) (perm-once o.same f.once);
      once = λ h. (sound-end h).orderly.once;
    }
