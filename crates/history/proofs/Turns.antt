-- An entry's turn at a page, in Blackout: a page that is due becomes ready by an entry that names it, and by any other it stays or becomes ready; one that is
-- ready stays under every entry, since it cannot be exported.
use mathlib.Core.Path.{◌≡◌, refl, sym, ap, subst, ◌∙◌}
use mathlib.Core.Logic.{◌⊎◌, inl, inr, ⊎_elim}
use mathlib.Core.Bool.{Bool, true, false, not, ◌&&◌, ◌||◌, true≢false}
use mathlib.Core.List.{[], ◌∷◌}
use Prim.Native.Nat.{ℕ, ◌^◌, ◌<◌}
use native.Mathlib.Omega.{arith}
use lib.Dec.{eqb}
use borrow.Author.Tests.{ne_eqb, lt-leb}
use Rattle.words.specs.Entry.{entry_of}
use Rattle.refusals.proofs.Laws.{passed-code, or_left_false}
use Rattle.states.specs.States.{State, Free, Exported, PendingExported, is_strange, is_in, has_move, goes_by}
use Rattle.states.specs.Lists.{blocked_states, cancelled_states, exports}
use Rattle.states.proofs.Laws.{move-each}
use Rattle.page.specs.Page.{Page, page_of, strange, on_words, unless_strange, tracked}
use Rattle.page.specs.declared.PageWords.{PageWords}
use Rattle.session.specs.Session.{among}
use Rattle.session.specs.declared.Phase.TheVariants.{Live, Blackout}
use Rattle.migration.specs.Grant.{Ready}
use Rattle.migration.proofs.Grant.{Settled}
use Rattle.entry.specs.Entry.{unexportable, cancelled, status_tests, status_of, exported_page, taken_of}
use Rattle.entry.specs.declared.Ground.{Ground}
use Rattle.entry.proofs.Laws.{status-success, taken-status, taken-either, taken-sent, exported-page, exported-has}
use Rattle.history.proofs.Waiting.{Names, Due}

-- ---- a page that is ready

free-barred : (p : Page) → p.state ≡ Free → unexportable p ≡ true
unfolding unexportable is_strange is_in
free-barred p e = rw e

sent-barred : (p : Page) → (p.state ≡ Exported) ⊎ (p.state ≡ PendingExported) → p.dirty ≡ false → unexportable p ≡ true
unfolding unexportable is_strange is_in
sent-barred p (inl e) d = rw (e, d)
sent-barred p (inr e) d = rw (e, d)

ready-barred : (p : Page) → Ready p → unexportable p ≡ true
ready-barred p r = ⊎_elim (free-barred p) (λ x. sent-barred p x.0 x.1) r.settled

pub ready-stays : (word : ℕ) (w : PageWords) (g : Ground) → Ready (page_of w) → (taken_of word w g).words ≡ w
ready-stays word w g r =
    taken-either (λ (v : PageWords). v ≡ w) word w g
    (λ e. absurd (true≢false (sym (ready-barred (page_of w) r) ∙ (status-success (entry_of word) (page_of w) g e).able))) refl

-- ---- a page that is due

-- of a page that is not blocked an export makes one that is ready
record Settles (z to : State) (d : Bool) : Type 0 where
  known : is_strange to ≡ false
  settled : (not (is_in z cancelled_states) && d) ≡ false → is_in z blocked_states ≡ false → Settled to d

export-settles : (z : State) (d : Bool) → has_move exports z ≡ true → Settles z (goes_by exports z) d
unfolding is_strange is_in
export-settles z d =
    move-each (λ (x to : State). Settles x to d) exports (
      record { known = refl; settled = λ c u. inr (inl refl, c) },
      (
        record { known = refl; settled = λ c u. inr (inr refl, c) },
        (
          record { known = refl; settled = λ c u. inr (inl refl, c) },
          (
            record { known = refl; settled = λ c u. inr (inr refl, c) },
            (
              record { known = refl; settled = λ c u. absurd (true≢false u) },
              (record { known = refl; settled = λ c u. absurd (true≢false u) }, (record { known = refl; settled = λ c u. inl refl }, tt)),
            ),
          ),
        ),
      ),
    )
    z

exported-ready : (p : Page) (epoch : ℕ) → Due p → Ready (exported_page epoch p)
exported-ready p epoch d =
    let x = export-settles p.state p.dirty (exported-has p d.able d.clean).moves in
    record { known = x.known; settled = x.settled d.clean d.unblocked }

due-known : (p : Page) → Due p → strange p ≡ false
unfolding unexportable
due-known p d = or_left_false (strange p) _ (or_left_false (strange p || _) _ d.able)

due-exported : (w : PageWords) (epoch : ℕ) → epoch < 2 ^ 16 → Due (page_of w) → Ready (page_of (on_words (exported_page epoch) w))
unfolding unless_strange
due-exported w epoch r d =
    subst Ready (sym (exported-page epoch r w)) (rw (due-known (page_of w) d) (exported-ready (page_of w) epoch d))

-- an entry of any kind
pub due-either : (word : ℕ) (w : PageWords) (g : Ground) → g.epoch < 2 ^ 16 → Due (page_of w) →
    ((taken_of word w g).words ≡ w) ⊎ Ready (page_of (taken_of word w g).words)
due-either word w g r d = taken-either (λ (v : PageWords). (v ≡ w) ⊎ Ready (page_of v)) word w g (λ e. inr (due-exported w g.epoch r d)) (inl refl)

module _ (word i : ℕ) (w : PageWords) (g : Ground) (small : g.epoch < 2 ^ 16) (paused : g.phase ≡ Blackout) (names : Names word i) (inside : i < g.pages)
    (due : Due (page_of w)) (older : (page_of w).migrated < g.epoch) where
  -- the test of the stamp is for Live
  unstamped : (a b c : Bool) → b ≡ false → (a && b && c) ≡ false
  unstamped true b c e = rw e
  unstamped false b c e = refl

  due-status : status_of (entry_of word) (page_of w) g ≡ 0
  unfolding status_of
  due-status =
      passed-code (status_tests (entry_of word) (page_of w) g) (
        names.valid,
        (
          ap (λ (n : ℕ). eqb n 0) names.operation,
          (
            lt-leb g.pages (entry_of word).gpa (omega (arith, names.page)),
            (
              due.able,
              (
                ne_eqb (page_of w).migrated g.epoch (λ e. omega arith),
                (
                  due.clean,
                  (
                    unstamped (not (cancelled (page_of w))) (among (Live ∷ []) g.phase) (not (tracked (page_of w).stamp g.clock))
                        (ap (among (Live ∷ [])) paused),
                    tt,
                  ),
                ),
              ),
            ),
          ),
        ),
      )

  -- an entry that names it
  pub due-taken : Ready (page_of (taken_of word w g).words)
  due-taken = subst (λ (v : PageWords). Ready (page_of v)) (sym (taken-sent word w g (taken-status word w g ∙ due-status))) (due-exported w g.epoch small due)
