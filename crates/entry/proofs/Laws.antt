-- What callers know of one entry: its status, what a success says of the page, and that what becomes of a page is one that a table can hold.
use mathlib.Core.Path.{◌≡◌, refl, sym, ◌∙◌}
use mathlib.Core.Bool.{Bool, true, false, not, ◌&&◌, ◌||◌}
use Prim.Native.Nat.{ℕ, ◌^◌, ◌<◌}
use lib.Dec.{eqb}
use borrow.Author.Tests.{eqb-true, eq-eqb, ne_eqb}
use Rattle.words.specs.Entry.{entry_of}
use Rattle.words.specs.Operations as operations
use Rattle.words.specs.Statuses as statuses
use Rattle.words.specs.Statuses.{failure_number}
use Rattle.words.specs.declared.entries.Entry.{Entry}
use Rattle.words.specs.declared.statuses.Failure.{Failure}
use Rattle.words.specs.declared.statuses.Failure.TheVariants as failure
use Rattle.refusals.proofs.Laws.{either, passed, and_left, and_right, not-true}
use Rattle.states.specs.States.{State, state_of, is_strange, is_in, has_move, number_in}
use Rattle.states.specs.Lists.{sent_states, barred_states, cancelled_states, exports, operated}
use Rattle.states.proofs.Laws.{every-if, goes-each}
use Rattle.page.specs.Page.{Page, page_of, strange, on_words, unless_strange}
use Rattle.page.specs.declared.PageWords.{PageWords}
use Rattle.page.proofs.Laws.{Held, read_held, words-stay, page_moved}
use Rattle.entry.specs.Entry.{unexportable, cancelled, status_tests, status_of, exported_page, sent_entry, failed_entry, taken_of}
use Rattle.entry.specs.declared.Ground.{Ground}
use Rattle.entry.specs.declared.Taken.{Taken}

-- no failure has status 0
pub failure-pos : (f : Failure) → eqb (failure_number f) statuses.success ≡ false
failure-pos failure.Skipped = refl
failure-pos failure.SeptWalkFailed = refl
failure-pos failure.SeptEntryStateIncorrect = refl
failure-pos failure.TlbTrackingNotDone = refl
failure-pos failure.MigratedInCurrentEpoch = refl
failure-pos failure.GpaListEntryInvalid = refl
failure-pos failure.PageDirty = refl

-- what is told of an entry is its status
pub taken-status : (word : ℕ) (w : PageWords) (g : Ground) → (taken_of word w g).status ≡ status_of (entry_of word) (page_of w) g
unfolding taken_of sent_entry failed_entry
taken-status word w g =
    let status = status_of (entry_of word) (page_of w) g in
    either (λ (x : Taken). x.status ≡ status) (eqb status 0) (λ q. sym (eqb-true _ _ q)) (λ q. refl)

-- a success moves the page, and nothing else does
pub taken-either : (P : PageWords → Type 0) (word : ℕ) (w : PageWords) (g : Ground) →
    (status_of (entry_of word) (page_of w) g ≡ 0 → P (on_words (exported_page g.epoch) w)) → P w → P (taken_of word w g).words
unfolding taken_of sent_entry failed_entry
taken-either P word w g sent kept =
    either (λ (x : Taken). P x.words) (eqb (status_of (entry_of word) (page_of w) g) 0) (λ q. sent (eqb-true _ _ q)) (λ q. kept)

pub taken-sent : (word : ℕ) (w : PageWords) (g : Ground) → (taken_of word w g).status ≡ 0 → (taken_of word w g).words ≡ on_words (exported_page g.epoch) w
unfolding taken_of sent_entry failed_entry
taken-sent word w g e = rw (eq-eqb _ _ (sym (taken-status word w g) ∙ e))

pub taken-failed : (word : ℕ) (w : PageWords) (g : Ground) → ((taken_of word w g).status ≡ 0 → ⊥) → (taken_of word w g).words ≡ w
unfolding taken_of failed_entry
taken-failed word w g n = rw (ne_eqb _ _ (λ e. n (taken-status word w g ∙ e)))

-- what a success says of the page
pub record Exportable (p : Page) (g : Ground) : Type 0 where
  pub able : unexportable p ≡ false
  pub new : eqb p.migrated g.epoch ≡ false
  pub clean : (not (cancelled p) && p.dirty) ≡ false

pub status-success : (e : Entry) (p : Page) (g : Ground) → status_of e p g ≡ 0 → Exportable p g
unfolding status_of
status-success e p g h =
    let t = passed (status_tests e p g) refl h in
    record { able = t.1.1.1.0; new = t.1.1.1.1.0; clean = t.1.1.1.1.1.0 }

-- a strange page stays
pub taken-strange : (word : ℕ) (w : PageWords) (g : Ground) → strange (page_of w) ≡ true → (taken_of word w g).words ≡ w
taken-strange word w g e = taken-either (λ (v : PageWords). v ≡ w) word w g (λ z. words-stay (exported_page g.epoch) w e) refl

-- ---- what becomes of the page

exported-held : (epoch : ℕ) → epoch < 2 ^ 16 → (p : Page) → Held p → Held (exported_page epoch p)
unfolding is_strange
exported-held epoch r p h =
    record {
      known = goes-each (λ (x to : State). is_strange to ≡ false) exports (refl, (refl, (refl, (refl, (refl, (refl, (refl, tt))))))) p.state h.known;
      stamp = h.stamp;
      migrated = r;
    }

pub exported-page : (epoch : ℕ) → epoch < 2 ^ 16 → (w : PageWords) → page_of (on_words (exported_page epoch) w) ≡ unless_strange (exported_page epoch) (page_of w)
exported-page epoch r w = page_moved (exported_page epoch) w (λ e. exported-held epoch r (page_of w) (read_held w e))

-- what is exported has a move and an operation
abbrev sent : Bool → State → Bool
sent d z = not (is_strange z || is_in z barred_states || (is_in z sent_states && not d)) && not (not (is_in z cancelled_states) && d)

abbrev does : State → Bool
does z = has_move exports z && not (eqb (number_in operated z) operations.nop)

sent-does : (d : Bool) (z : State) → sent d z ≡ true → does z ≡ true
unfolding is_strange is_in has_move number_in state_of
sent-does true = every-if (sent true) does tt
sent-does false = every-if (sent false) does tt

pub record Moved (p : Page) : Type 0 where
  pub moves : has_move exports p.state ≡ true
  pub operates : eqb (number_in operated p.state) operations.nop ≡ false

pub exported-has : (p : Page) → unexportable p ≡ false → (not (cancelled p) && p.dirty) ≡ false → Moved p
unfolding unexportable
exported-has p a b =
    let x = sent-does p.dirty p.state (rw (a, b)) in
    record {
      moves = and_left (has_move exports p.state) _ x;
      operates = not-true _ (and_right (has_move exports p.state) (not (eqb (number_in operated p.state) operations.nop)) x);
    }
