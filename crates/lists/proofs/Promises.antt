-- By the budget: a step writes the word of its own entry and the page that this names, and nothing else, so what it does not write stays along the run.
use mathlib.Core.Path.{◌≡◌, refl, sym, ◌∙◌}
use mathlib.Core.Bool.{Bool, true, false}
use Prim.Native.Nat.{ℕ, zero, suc, ◌+◌, ◌≤◌}
use native.Mathlib.Omega.{arith}
use lib.Dec.{leb, lit<}
use lib.ListN.{length, get_or, length-set}
use lib.Seq.{get_or-set_other}
use borrow.Author.Tests.{leb-true, leb-false}
use Rattle.words.specs.Entry.{entry_of}
use Rattle.refusals.proofs.Laws.{either}
use Rattle.table.specs.Table.{words_at}
use Rattle.lists.specs.Kinds.{Step}
use Rattle.lists.specs.Run.{Standing, counted, stepped, list_run}
use Rattle.lists.specs.Promises.{Takes, Same, RunPromises, start, Met}
use Rattle.lists.proofs.Laws.{run-keeps, run_end}
use Rattle.lists.proofs.Moves.{step_other, step-length}

-- an entry that a run does not take is none that it takes behind its first step, and not the first
module _ (f : Step) (last budget : ℕ) (s : Standing) (q : s.at.next ≤ last) (i : ℕ) where
  takes-behind : Takes last budget (stepped f s) i → Takes last (suc budget) s i
  unfolding stepped counted
  takes-behind t = (omega (arith, t.0), omega (arith, t.1), t.2)

  takes-apart : Takes last budget (stepped f s) i → i ≡ s.at.next → ⊥
  unfolding stepped counted
  takes-apart t e = omega (arith, t.0, e)

  takes_first : (Takes last (suc budget) s i → ⊥) → i ≡ s.at.next → ⊥
  takes_first n e = n (omega (arith, e), omega (arith, e), omega (arith, e, q))

run-words : (f : Step) (last budget : ℕ) (s : Standing) (i : ℕ) → (Takes last budget s i → ⊥) → Same i s (list_run f last budget s)
unfolding list_run stepped
run-words f last zero s i n = (refl, refl)
run-words f last (suc budget) s i n =
    either (Same i s) (leb s.at.next last)
    (λ q.
    let h = leb-true _ _ q in
    let rest = run-words f last budget (stepped f s) i (λ t. n (takes-behind f last budget s h i t)) in
    let other = takes_first f last budget s h i n in
    (rest.0 ∙ get_or-set_other s.list s.at.next i _ 0 other, rest.1 ∙ get_or-set_other s.buffer s.at.next i _ 0 other))
    (λ q. (refl, refl))

run-page : (f : Step) (last budget : ℕ) (s : Standing) (k : ℕ) → ((i : ℕ) → Takes last budget s i → (entry_of (get_or s.list i 0)).gpa ≡ k → ⊥) →
    words_at (list_run f last budget s).table k ≡ words_at s.table k
unfolding list_run stepped
run-page f last zero s k n = refl
run-page f last (suc budget) s k n =
    either (λ (x : Standing). words_at x.table k ≡ words_at s.table k) (leb s.at.next last)
    (λ q.
    let h = leb-true _ _ q in
    run-page f last budget (stepped f s) k
    (λ i t e.
    n i (takes-behind f last budget s h i t) (rw (get_or-set_other s.list s.at.next i _ 0 (takes-apart f last budget s h i t)) at e))
    ∙ step_other f s k (λ e. n s.at.next (omega arith, omega arith, h) (sym e)))
    (λ q. refl)

run-lengths : (f : Step) (last budget : ℕ) (s : Standing) → (length (list_run f last budget s).table ≡ length s.table)
    × (length (list_run f last budget s).list ≡ length s.list) × (length (list_run f last budget s).buffer ≡ length s.buffer)
unfolding stepped
run-lengths f last budget s =
    run-keeps (λ (x : Standing). (length x.table ≡ length s.table) × (length x.list ≡ length s.list) ×
    (length x.buffer ≡ length s.buffer)) f last
    (λ x q h. (step-length f x ∙ h.0, length-set x.list _ _ ∙ h.1, length-set x.buffer _ _ ∙ h.2)) budget s (refl, refl, refl)

run-cut : (f : Step) (last budget more : ℕ) (s : Standing) → list_run f last (budget + more) s ≡ list_run f last more (list_run f last budget s)
unfolding list_run
run-cut f last zero more s = let same : 0 + more ≡ more = omega arith in rw same
run-cut f last (suc budget) more s = go (leb s.at.next last) refl (run-cut f last budget more (stepped f s))
  where
    go : (b : Bool) → leb s.at.next last ≡ b → list_run f last (budget + more) (stepped f s) ≡ list_run f last more (list_run f last budget (stepped f s)) →
        list_run f last (suc budget + more) s ≡ list_run f last more (list_run f last (suc budget) s)
    go true q ih = let one : suc budget + more ≡ suc (budget + more) = omega arith in rw (one, q) ih
    go false q ih = let one : suc budget + more ≡ suc (budget + more) = omega arith in rw (one, q) (sym (run_end f last more s (leb-false _ _ q)))

pub run-promises : RunPromises
unfolding list_run
run-promises =
    record {
      words = run-words;
      page = run-page;
      lengths = run-lengths;
      none = λ f last s. refl;
      cut = run-cut;
      over = λ f last budget more s h. run-cut f last budget more s ∙ run_end f last more (list_run f last budget s) h;
    }

-- ---- the hypotheses, met

names-0 : (i : ℕ) → Takes 1 1 start i → (entry_of (get_or start.list i 0)).gpa ≡ 1 → ⊥
unfolding entry_of
names-0 zero t e = omega (arith, e)
names-0 (suc i) t e = omega (arith, t.1)

pub met : Met
unfolding list_run stepped counted
met = record { words = λ t. omega (arith, t.1); page = names-0; over = lit< tt }
