-- The laws of a run, for any step: one for each way that a turn goes; what every step keeps, a run keeps; no count passes the next index. And what is
-- known past the tests of a list.
use mathlib.Core.Path.{◌≡◌, refl, ap}
use mathlib.Core.Logic.{◌⊎◌, inl, inr, ⊎_elim}
use mathlib.Core.Bool.{false, not, ◌&&◌}
use lib.Dec.{eqb, leb}
use Prim.Native.Nat.{ℕ, zero, suc, ◌+◌, ◌-◌, ◌≤◌, ◌<◌}
use native.Mathlib.Omega.{arith}
use borrow.Author.Tests.{le-leb, lt-leb, leb-true, leb-false, le-ltb}
use Rattle.words.specs.Info.{info_word, with_first}
use Rattle.words.specs.Statuses as statuses
use Rattle.words.specs.declared.infos.Info.{Info}
use Rattle.words.proofs.Runs.{bit-lt}
use Rattle.refusals.proofs.Laws.{either, and_right, not-false}
use Rattle.session.specs.Formed.{within, last_entry, most_entries}
use Rattle.lists.specs.Kinds.{Step}
use Rattle.lists.specs.Run.{Standing, taking, counted, stepped, list_run}
use Rattle.lists.specs.List.{bad_length, last_beyond, info_back}
use Rattle.lists.specs.declared.runs.Progress.{Progress}

pub run-spent : (f : Step) (last budget spent : ℕ) (s : Standing) → budget ≤ spent → list_run f last (budget - spent) s ≡ s
unfolding list_run
run-spent f last budget spent s h =
    let none : budget - spent ≡ 0 = omega arith in
    rw none

pub run_end : (f : Step) (last k : ℕ) (s : Standing) → last < s.at.next → list_run f last k s ≡ s
unfolding list_run
run_end f last zero s h = refl
run_end f last (suc k) s h = rw (lt-leb s.at.next last h)

pub run_step : (f : Step) (last budget spent : ℕ) (s : Standing) → spent < budget → s.at.next ≤ last →
    list_run f last (budget - spent) s ≡ list_run f last (budget - (spent + 1)) (stepped f s)
unfolding list_run
run_step f last budget spent s h k =
    let more : budget - spent ≡ suc (budget - (spent + 1)) = omega arith in
    rw (more, le-leb s.at.next last k)

-- what every step keeps
pub run-keeps : (P : Standing → Type 0) (f : Step) (last : ℕ) → ((s : Standing) → s.at.next ≤ last → P s → P (stepped f s)) → (budget : ℕ) (s : Standing) →
    P s → P (list_run f last budget s)
unfolding list_run
run-keeps P f last keeps zero s h = h
run-keeps P f last keeps (suc budget) s h =
    either P (leb s.at.next last) (λ q. run-keeps P f last keeps budget (stepped f s) (keeps s (leb-true _ _ q) h)) (λ q. h)

-- the budget is used up, or the list is at its end
pub run-far : (f : Step) (last budget : ℕ) (s : Standing) →
    (s.at.next + budget ≤ (list_run f last budget s).at.next) ⊎ (last < (list_run f last budget s).at.next)
unfolding list_run stepped counted
run-far f last zero s = inl (omega arith)
run-far f last (suc budget) s =
    either (λ (x : Standing). (s.at.next + suc budget ≤ x.at.next) ⊎ (last < x.at.next)) (leb s.at.next last)
    (λ q. ⊎_elim (λ k. inl (omega (arith, k))) (λ k. inr k) (run-far f last budget (stepped f s)))
    (λ q. inr (leb-false _ _ q))

-- what a run returns, from what it is
pub returned : {x y : Standing} → x ≡ y → (x.at ≡ y.at) × ((x.table ≡ y.table) × ((x.list ≡ y.list) × (x.buffer ≡ y.buffer)))
returned e = (ap (λ z. z.at) e, (ap (λ z. z.table) e, (ap (λ z. z.list) e, ap (λ z. z.buffer) e)))

-- ---- no count passes the next index

pub record Counts (at : Progress) : Type 0 where
  pub errors : at.errors ≤ at.next
  pub filled : at.filled ≤ at.next

pub counts_step : (f : Step) (s : Standing) → Counts s.at → Counts (stepped f s).at
unfolding stepped counted
counts_step f s h =
    record {
      errors = omega (arith, h.errors, bit-lt (not (eqb (taking f s).status statuses.success) && not (eqb (taking f s).status statuses.skipped)));
      filled = omega (arith, h.filled, bit-lt (taking f s).contents);
    }

pub next-step : (f : Step) (s : Standing) (last : ℕ) → s.at.next ≤ last → (stepped f s).at.next ≤ last + 1
unfolding stepped counted
next-step f s last h = omega arith

pub record Bounds (last : ℕ) (at : Progress) : Type 0 where
  pub next : at.next ≤ last + 1
  pub counts : Counts at

pub run-bounds : (f : Step) (last budget : ℕ) (s : Standing) → Bounds last s.at → Bounds last (list_run f last budget s).at
run-bounds f last = run-keeps (λ (x : Standing). Bounds last x.at) f last
    (λ s h b. record { next = next-step f s last h; counts = counts_step f s b.counts })

-- ---- what is known past the tests of a list

pub record Listed (entries : ℕ) (x : Info) : Type 0 where
  pub within : x.last < entries
  pub short : x.last ≤ last_entry

pub list-passed : (entries : ℕ) (x : Info) → bad_length entries ≡ false → last_beyond entries x ≡ false → Listed entries x
list-passed entries x length last =
    let few : entries ≤ most_entries = leb-true _ _ (and_right (leb 1 entries) (leb entries most_entries) (not-false (within 1 most_entries entries) length)) in
    let inside : x.last < entries = leb-false _ _ last in
    record { within = inside; short = omega (arith, inside, few) }

-- FIRST before the end
pub back-next : (x : Info) (next : ℕ) → next ≤ x.last → info_back x next ≡ info_word (with_first x next)
unfolding info_back
back-next x next h = rw (le-ltb _ _ h)
