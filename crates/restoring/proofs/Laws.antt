-- What callers know of one entry: a success restores the page, and nothing else changes it; a restored page is one that a table can hold.
use mathlib.Core.Path.{◌≡◌, refl, sym, ◌∙◌}
use mathlib.Core.Bool.{true, false, not}
use Prim.Native.Nat.{ℕ}
use lib.Dec.{eqb}
use borrow.Author.Tests.{eqb-true, eq-eqb, ne_eqb}
use Rattle.words.specs.Entry.{entry_of}
use Rattle.words.specs.declared.entries.Entry.{Entry}
use Rattle.refusals.proofs.Laws.{either, passed, not-false}
use Rattle.states.specs.States.{State, state_of, is_strange, is_in}
use Rattle.states.specs.Lists.{left_states}
use Rattle.states.proofs.Laws.{every-if}
use Rattle.page.specs.Page.{Page, page_of, strange, on_words, unless_strange, left}
use Rattle.page.specs.Sweeps.{restored}
use Rattle.page.specs.declared.PageWords.{PageWords}
use Rattle.page.proofs.Laws.{read_held, words-stay, page_moved}
use Rattle.page.proofs.MoveLaws.{restored-held}
use Rattle.refusals.proofs.Laws.{not-true}
use Rattle.entry.specs.declared.Ground.{Ground}
use Rattle.entry.specs.declared.Taken.{Taken}
use Rattle.restoring.specs.Restoring.{restore_tests, restore_status, restored_entry, left_entry, restored_of}

module _ (word held : ℕ) (w : PageWords) (g : Ground) where
  abbrev status : ℕ
  status = restore_status (entry_of word) (page_of w) g

  -- what is told of an entry is its status
  pub restored-status : (restored_of word held w g).status ≡ status
  unfolding restored_of restored_entry left_entry
  restored-status = either (λ (x : Taken). x.status ≡ status) (eqb status 0) (λ q. sym (eqb-true _ _ q)) (λ q. refl)

  -- a success restores the page, and nothing else changes it
  pub restored-either : (P : PageWords → Type 0) → (status ≡ 0 → P (on_words restored w)) → P w → P (restored_of word held w g).words
  unfolding restored_of restored_entry left_entry
  restored-either P made kept = either (λ (x : Taken). P x.words) (eqb status 0) (λ q. made (eqb-true _ _ q)) (λ q. kept)

  pub restored-sent : (restored_of word held w g).status ≡ 0 → (restored_of word held w g).words ≡ on_words restored w
  unfolding restored_of restored_entry left_entry
  restored-sent e = rw (eq-eqb _ _ (sym restored-status ∙ e))

  pub restored-failed : ((restored_of word held w g).status ≡ 0 → ⊥) → (restored_of word held w g).words ≡ w
  unfolding restored_of left_entry
  restored-failed n = rw (ne_eqb _ _ (λ e. n (restored-status ∙ e)))

  -- a strange page stays
  pub restored-strange : strange (page_of w) ≡ true → (restored_of word held w g).words ≡ w
  restored-strange e = restored-either (λ (v : PageWords). v ≡ w) (λ z. words-stay restored w e) refl

-- a page that a migration left is not strange
left-known : (z : State) → is_in z left_states ≡ true → not (is_strange z) ≡ true
unfolding is_in is_strange state_of
left-known = every-if (λ (z : State). is_in z left_states) (λ (z : State). not (is_strange z)) tt

pub status-known : (e : Entry) (p : Page) (g : Ground) → restore_status e p g ≡ 0 → strange p ≡ false
unfolding restore_status
status-known e p g h = not-true (strange p) (left-known p.state (not-false (left p) (passed (restore_tests e p g) refl h).1.1.1.0))

pub restored-page : (w : PageWords) → page_of (on_words restored w) ≡ unless_strange restored (page_of w)
restored-page w = page_moved restored w (λ e. restored-held (page_of w) (read_held w e))
