-- One page that a DCHECK passes, in Blackout, where nothing is strange and nothing blocked: by state, a page that is not listed is ready, and one that is
-- listed becomes due and is named by the word that is written.
use mathlib.Core.Path.{◌≡◌, refl, subst}
use mathlib.Core.Bool.{Bool, true, false, cond, not, ◌&&◌, ◌||◌}
use Prim.Native.Nat.{ℕ, ◌^◌, ◌<◌}
use native.Mathlib.Omega.{arith}
use Rattle.words.specs.Entry.{entry_of, EntryFits}
use Rattle.words.specs.Operations as operations
use Rattle.words.specs.declared.entries.Entry.{Entry}
use Rattle.words.proofs.EntryLaws.{entry-word}
use Rattle.states.specs.States.{State, state_of, is_strange, is_in, goes_by, number_in}
use Rattle.states.specs.Lists.{pending_states, blocked_states, listed_states, sent_states, hinted, looks, renewed_states, barred_states, cancelled_states}
use Rattle.states.proofs.Laws.{every-if, hint-lt}
use Rattle.refusals.proofs.Laws.{either, and_left, and_right, or_left_false, or_right_false, not-true}
use Rattle.page.specs.Page.{Page, strange, blocked}
use Rattle.page.specs.declared.Clock.{Clock}
use Rattle.session.specs.declared.Phase.{Phase}
use Rattle.session.specs.declared.Phase.TheVariants.{Blackout}
use Rattle.migration.specs.Grant.{Ready}
use Rattle.migration.proofs.Grant.{settles}
use Rattle.scan.specs.Look.{listed, listed_word, renewed, listed_page}
use Rattle.entry.specs.Entry.{invalid, unexportable}
use Rattle.bundle.specs.Bundle.{Holding}
use Rattle.history.proofs.Pages.{Moment, Still, Ok}
use Rattle.history.proofs.Waiting.{Names, Due}

-- neither strange nor blocked
pub record Calm (p : Page) : Type 0 where
  pub known : strange p ≡ false
  pub unblocked : blocked p ≡ false

pub paused-calm : (k : Moment) (p : Page) (h : Holding) → k.phase ≡ Blackout → Ok k p h → Calm p
paused-calm k p h e o =
    let still : Still Blackout p.cached (blocked p) = subst (λ (x : Phase). Still x p.cached (blocked p)) e o.still in
    record { known = o.known; unblocked = still.1 }

-- ---- not listed

pub unlisted-ready : (p : Page) → Calm p → listed p ≡ false → Ready p
unfolding listed is_in is_strange state_of
unlisted-ready p c e =
    let z = p.state in
    record {
      known = c.known;
      settled = settles (λ (x : State). is_in x listed_states || (is_strange x || is_in x blocked_states)) tt z p.dirty
          (rw (or_left_false (is_in z listed_states) (is_in z sent_states && p.dirty) e, c.known) c.unblocked)
          (or_right_false (is_in z listed_states) (is_in z sent_states && p.dirty) e);
    }

-- ---- listed

-- Dirty once a page in a state is listed
abbrev dirty_then : Bool → State → Bool
dirty_then d z = cond (is_in (goes_by looks z) renewed_states) false d

abbrev calm_listed : Bool → State → Bool
calm_listed d z = not (is_strange z || is_in z blocked_states) && (is_in z listed_states || (is_in z sent_states && d))

abbrev due_listed : Bool → State → Bool
due_listed d z =
    let to = goes_by looks z in
    let dirty = dirty_then d z in
    not (is_strange to || is_in to barred_states || (is_in to sent_states && not dirty))
    && (not (not (is_in to cancelled_states) && dirty) && not (is_in to blocked_states))

calm-due : (d : Bool) (z : State) → calm_listed d z ≡ true → due_listed d z ≡ true
unfolding is_in is_strange goes_by state_of
calm-due true = every-if (calm_listed true) (due_listed true) tt
calm-due false = every-if (calm_listed false) (due_listed false) tt

-- Dirty of a listed page is that
listed-dirty : (clock : Clock) (p : Page) → (listed_page clock p).dirty ≡ dirty_then p.dirty p.state
unfolding renewed
listed-dirty clock p = either (λ (q : Page). q.dirty ≡ dirty_then p.dirty p.state) (is_in (goes_by looks p.state) renewed_states) (λ e. rw e) (λ e. rw e)

listed-state : (clock : Clock) (p : Page) → (listed_page clock p).state ≡ goes_by looks p.state
unfolding renewed
listed-state clock p = either (λ (q : Page). q.state ≡ goes_by looks p.state) (is_in (goes_by looks p.state) renewed_states) (λ e. refl) (λ e. refl)

pub listed-due : (p : Page) (clock : Clock) → Calm p → listed p ≡ true → Due (listed_page clock p)
unfolding listed unexportable
listed-due p clock c e =
    let z = p.state in
    let to = goes_by looks z in
    let dirty = dirty_then p.dirty z in
    let able = is_strange to || is_in to barred_states || (is_in to sent_states && not dirty) in
    let x = calm-due p.dirty z (rw (c.known, c.unblocked) e) in
    let y = and_right (not able) _ x in
    record {
      able = rw (listed-state clock p, listed-dirty clock p) (not-true able (and_left (not able) _ x));
      clean = rw (listed-state clock p, listed-dirty clock p)
          (not-true _ (and_left (not (not (is_in to cancelled_states) && dirty)) (not (is_in to blocked_states)) y));
      unblocked = rw (listed-state clock p) (not-true _ (and_right (not (not (is_in to cancelled_states) && dirty)) (not (is_in to blocked_states)) y));
    }

pub listed-names : (z : State) (i : ℕ) → i < 2 ^ 40 → Names (listed_word z i) i
unfolding listed_word invalid
listed-names z i h =
    let e : Entry
    = record {
      level = 0;
      pending = is_in z pending_states;
      state = number_in hinted z;
      reserved5 = 0;
      l2_map = 0;
      mig_type = 0;
      gpa = i;
      operation = operations.migrate;
      reserved54 = 0;
      status = 0;
      reserved61 = 0;
    } in
    let fits : EntryFits e
    = record {
      level = omega arith;
      state = hint-lt z;
      reserved5 = omega arith;
      l2_map = omega arith;
      mig_type = omega arith;
      gpa = h;
      operation = omega arith;
      reserved54 = omega arith;
      status = omega arith;
      reserved61 = omega arith;
    } in
    let back : entry_of (listed_word z i) ≡ e = entry-word e fits in
    record { valid = rw back; operation = rw back; page = rw back }
