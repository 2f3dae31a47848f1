-- What a list makes of the pages: an entry moves the page that it names and no other, and what its step keeps of any page's words a run keeps of every page.
use mathlib.Core.Path.{◌≡◌, refl, sym, subst}
use mathlib.Core.Bool.{Bool, true, false}
use Prim.Native.Nat.{ℕ, ◌<◌}
use lib.Dec.{eqb, ltb}
use lib.ListN.{length}
use borrow.Author.Tests.{eqb-true, eqb-false, ltb-true}
use Rattle.page.specs.declared.PageWords.{PageWords}
use Rattle.table.specs.Table.{page_count, words_at, put_at}
use Rattle.table.proofs.Laws.{put-length, put_same, put_other, put_back}
use Rattle.lists.specs.Kinds.{Step}
use Rattle.lists.specs.Run.{Standing, gpa_of, taking, stepped, list_run}
use Rattle.lists.proofs.Laws.{run-keeps}

-- the page that the entry names
pub step_words : (f : Step) (s : Standing) → gpa_of s < page_count s.table → words_at (stepped f s).table (gpa_of s) ≡ (taking f s).words
unfolding stepped
step_words f s h = put_same s.table (gpa_of s) (taking f s).words h

-- where the step leaves its words
pub step_kept : (f : Step) (s : Standing) → (taking f s).words ≡ words_at s.table (gpa_of s) →
    words_at (stepped f s).table (gpa_of s) ≡ words_at s.table (gpa_of s)
unfolding stepped
step_kept f s e = rw e (put_back s.table (gpa_of s))

pub step_other : (f : Step) (s : Standing) (i : ℕ) → (i ≡ gpa_of s → ⊥) → words_at (stepped f s).table i ≡ words_at s.table i
unfolding stepped
step_other f s i ne = put_other s.table (gpa_of s) i (taking f s).words ne

pub step-length : (f : Step) (s : Standing) → length (stepped f s).table ≡ length s.table
unfolding stepped
step-length f s = put-length s.table (gpa_of s) (taking f s).words

step_past : (f : Step) (s : Standing) → ltb (gpa_of s) (page_count s.table) ≡ false → (stepped f s).table ≡ s.table
unfolding stepped put_at
step_past f s e = rw e

-- ---- what holds of a page's words, whatever an entry makes of them

module _ (P : PageWords → Type 0) (f : Step) (keeps : (word held : ℕ) (w : PageWords) → P w → P (f word held w).words) where
  step-each : (s : Standing) (i : ℕ) → P (words_at s.table i) → P (words_at (stepped f s).table i)
  step-each s i h = go (eqb i (gpa_of s)) refl (ltb (gpa_of s) (page_count s.table)) refl
    where
      go : (a : Bool) → eqb i (gpa_of s) ≡ a → (b : Bool) → ltb (gpa_of s) (page_count s.table) ≡ b → P (words_at (stepped f s).table i)
      go true p true q =
          let same : i ≡ gpa_of s = eqb-true _ _ p in
          rw same (subst P (sym (step_words f s (ltb-true _ _ q))) (keeps _ _ _ (subst (λ (k : ℕ). P (words_at s.table k)) same h)))
      go true p false q = rw (step_past f s q) h
      go false p b q = subst P (sym (step_other f s i (eqb-false _ _ p))) h

  pub run-each : (last budget : ℕ) (s : Standing) (i : ℕ) → P (words_at s.table i) → P (words_at (list_run f last budget s).table i)
  run-each last budget s i = run-keeps (λ (x : Standing). P (words_at x.table i)) f last (λ x q. step-each x i) budget s
