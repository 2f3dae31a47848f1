-- What a call on one page is behind 40, and what it knows once its code is 0.
use mathlib.Core.Path.{◌≡◌, refl, sym, subst}
use mathlib.Core.Bool.{true, false}
use mathlib.Core.List.{List}
use Prim.Native.Nat.{ℕ, ◌/◌, ◌<◌}
use native.Mathlib.Omega.{arith}
use lib.Dec.{eqb}
use lib.ListN.{length}
use borrow.Author.Tests.{leb-false, eqb-true, eqb-false}
use Rattle.refusals.specs.Refusals.{first_of}
use Rattle.refusals.proofs.Laws.{Passed, passed, refuses-coded, not-false}
use Rattle.page.specs.Page.{Page, on_words, unless_strange}
use Rattle.page.specs.Moves.{move_tests, moved_by}
use Rattle.page.specs.declared.moves.Move.{Move}
use Rattle.page.proofs.Laws.{read_held}
use Rattle.page.proofs.MoveLaws.{move-refuses, done-known, moved-held}
use Rattle.table.specs.Table.{words_at, page_at, put_at}
use Rattle.table.proofs.Laws.{put_other, page-put}
use Rattle.session.specs.Session.{among, guest}
use Rattle.session.specs.Formed.{formed}
use Rattle.session.specs.Outcome.{Outcome, outcome, answered}
use Rattle.session.specs.declared.Session.{Session}
use Rattle.session.proofs.Laws.{answered-either}
use Rattle.session.proofs.FormedLaws.{formed-means, tlb-fits}
use Rattle.memory.specs.Memory.{page_tests, page_turn, on_page}

-- ---- a call on one page that is done

-- behind 40 the call is its turn on the words that the table holds
pub page-turn : (m : Move) (s : Session) (t : List ℕ) (at : ℕ) → formed s (length t) ≡ true →
    let turn = page_turn m s.phase s.fixed.pages s.clock at (words_at t at) in
    on_page m s t at ≡ answered turn.code s t s (put_at t at turn.words)
unfolding on_page page_turn
page-turn m s t at f = rw f

-- it has passed them
pub record Done (m : Move) (s : Session) (len at : ℕ) (p : Page) : Type 0 where
  pub formed : formed s len ≡ true
  pub comes : among guest s.phase ≡ true
  pub below : at < len / 2
  pub moves : Passed (move_tests m p s.clock)

pub page-passed : (m : Move) (s : Session) (len at : ℕ) (p : Page) → first_of (page_tests m s len at p) ≡ 0 → Done m s len at p
page-passed m s len at p e =
    let d = passed (page_tests m s len at p) (refuses-coded (move_tests m p s.clock) (move-refuses m p s.clock)) e in
    let f = not-false (formed s len) d.0 in
    let ours : len / 2 ≡ s.fixed.pages = (formed-means s len f).ours in
    let below : at < s.fixed.pages = leb-false s.fixed.pages at d.1.1.1.0 in
    record { formed = f; comes = not-false (among guest s.phase) d.1.1.0; below = omega arith; moves = d.1.1.1.1.1 }

module _ (m : Move) (s : Session) (t : List ℕ) (at : ℕ) where
  abbrev code : ℕ
  code = first_of (page_tests m s (length t) at (page_at t at))

  abbrev made : List ℕ
  made = put_at t at (on_words (moved_by m s.clock) (words_at t at))

  -- what holds of the outcome of a call that is done and of the one that gives back what came
  pub page-either : (P : Outcome → Type 0) → (Done m s (length t) at (page_at t at) → P (outcome 0 s made)) → (eqb code 0 ≡ false → P (outcome code s t)) →
      P (on_page m s t at)
  unfolding on_page
  page-either P f g =
      answered-either P code s t s made
      (λ q. let z = eqb-true code 0 q in subst (λ (n : ℕ). P (outcome n s made)) (sym z) (f (page-passed m s (length t) at (page_at t at) z)))
      g

  pub page-code : (on_page m s t at).answer.code ≡ code
  unfolding on_page
  page-code = answered-either (λ (o : Outcome). o.answer.code ≡ code) code s t s made (λ q. refl) (λ q. refl)

  pub page-done : (on_page m s t at).answer.code ≡ 0 → page_at (on_page m s t at).table at ≡ moved_by m s.clock (page_at t at)
  unfolding unless_strange
  page-done =
      page-either (λ (o : Outcome). o.answer.code ≡ 0 → page_at o.table at ≡ moved_by m s.clock (page_at t at))
      (λ d z. rw (done-known m (page_at t at) s.clock d.moves) at
      (page-put (moved_by m s.clock) t at d.below
      (λ k. moved-held m s.clock (tlb-fits s (length t) d.formed) (page_at t at) (read_held (words_at t at) k))))
      (λ q z. absurd (eqb-false code 0 q z))

-- and a page that it is not on
pub page-other : (m : Move) (s : Session) (t : List ℕ) (at k : ℕ) → (k ≡ at → ⊥) → words_at (on_page m s t at).table k ≡ words_at t k
page-other m s t at k ne =
    page-either m s t at (λ (o : Outcome). words_at o.table k ≡ words_at t k) (λ d. put_other t at k (on_words (moved_by m s.clock) (words_at t at)) ne)
    (λ q. refl)
