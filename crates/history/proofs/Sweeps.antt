-- Moves of every page, by track, start and pause, calls that change the session alone, and RESTORE of a page; and at the grant the destination has what the
-- page holds. By state: a start finds states in which the destination has nothing.
use native.Mathlib.Omega.{arith}
use mathlib.Core.Path.{◌≡◌, refl, ap}
use mathlib.Core.Logic.{◌⊎◌, inl, inr}
use mathlib.Core.Bool.{Bool, true, false, not, ◌&&◌}
use Prim.Native.Nat.{ℕ, ◌≤◌}
use Rattle.refusals.proofs.Laws.{either, and_left, and_right, not-true, not-false}
use Rattle.states.specs.States.{State, Free, Exported, PendingExported, state_of, is_strange, is_in, goes_by}
use Rattle.states.specs.Lists.{startable_states, stamped_states, restores}
use Rattle.states.proofs.Laws.{every-if}
use Rattle.page.specs.Page.{strange, blocked, unstartable}
use Rattle.page.specs.Page.{unless_strange}
use Rattle.page.specs.Sweeps.{uncached, kept_stamp, started, restored}
use Rattle.page.specs.Page.{Page}
use Rattle.page.specs.declared.Clock.{Clock}
use Rattle.session.specs.declared.Phase.TheVariants.{Idle, Live}
use Rattle.migration.specs.Grant.{Ready}
use Rattle.bundle.specs.Bundle.{Holding, absent}
use Rattle.history.specs.Promises.{content_of, content}
use Rattle.history.proofs.Pages.{Moment, is_exported, is_pending_exported, Same, Seen, Still, Abroad, Ok, Step, Lasts, same-free, if-map, seen-zero}
use Rattle.history.proofs.Pages.{while-made, while-map, while-has, while-lasts}

-- ---- moves of every page

uncached-same : (z : State) (d c : Bool) (m : ℕ) (h : Holding) → Same z d c m h → Same z d false m h
uncached-same z d c m h x = (if-map (is_exported z) (λ e f y. (refl, (f y).1)) x.0, x.1)

pub uncached-step : (k k' : Moment) (p : Page) → k.epoch ≤ k'.epoch → Lasts k.phase k'.phase →
    (Still k.phase p.cached (blocked p) → Still k'.phase false (blocked p)) → Step k k' p (unless_strange uncached p)
unfolding unless_strange
uncached-step k k' p l v f =
    record {
      ok = λ h o. rw o.known (record {
        known = o.known;
        abroad = while-lasts _ k.phase k'.phase v (while-map k.phase (λ x. record {
          young = omega (arith, l, x.young);
          there = x.there;
          same = uncached-same p.state p.dirty p.cached p.mark h x.same;
        }) o.abroad);
        seen = λ a x. refl;
        still = f o.still;
      });
      kept = either (λ (q : Page). q.migrated ≡ p.migrated) (strange p) (λ e. refl) (λ e. refl);
    }

-- only the session changes
pub session-step : (k k' : Moment) (p : Page) → k.epoch ≤ k'.epoch → Lasts k.phase k'.phase → k'.clock ≡ k.clock →
    (Still k.phase p.cached (blocked p) → Still k'.phase p.cached (blocked p)) → Step k k' p p
session-step k k' p l v q f =
    record {
      ok = λ h o. record {
        known = o.known;
        abroad = while-lasts _ k.phase k'.phase v
            (while-map k.phase (λ x. record { young = omega (arith, l, x.young); there = x.there; same = x.same }) o.abroad);
        seen = rw q o.seen;
        still = f o.still;
      };
      kept = refl;
    }

-- a state of those that a start finds: the destination has nothing
abbrev is_base : State → Bool
is_base z = not (is_strange z) && (not (is_exported z) && not (is_pending_exported z))

start-base : (z : State) → is_in z startable_states ≡ true → is_base z ≡ true
unfolding is_in is_strange state_of
start-base = every-if (λ (z : State). is_in z startable_states) is_base tt

-- a stamp that is kept is one that was there
kept_seen : (clock : Clock) (d c : Bool) (to : State) (stamp : ℕ) → Seen clock d c stamp → Seen clock d c (kept_stamp to stamp)
unfolding kept_stamp
kept_seen clock d c to stamp s = either (λ (n : ℕ). Seen clock d c n) (is_in to stamped_states) (λ e. s) (λ e. seen-zero clock d c)

-- a start: the destination has nothing
pub started-ok : (k k' : Moment) (p : Page) → unstartable p ≡ false → k'.clock ≡ k.clock → k'.phase ≡ Live → (h : Holding) → Ok k p h →
    Ok k' (unless_strange started p) absent × ((unless_strange started p).migrated ≡ 0)
unfolding unless_strange
started-ok k k' p e q i h o =
    let z = p.state in
    let b = not-false (is_in z startable_states) e in
    let x = and_right (not (is_strange z)) _ (start-base z b) in
    rw o.known (
      record {
        known = o.known;
        abroad = while-made k'.phase (record {
          young = omega arith;
          there = rw b;
          same = same-free z (not-true _ (and_left (not (is_exported z)) (not (is_pending_exported z)) x))
              (not-true _ (and_right (not (is_exported z)) (not (is_pending_exported z)) x)) p.dirty p.cached p.mark absent;
        });
        seen = rw q (kept_seen k.clock p.dirty p.cached z p.stamp o.seen);
        still = rw i tt;
      },
      refl,
    )

-- ---- RESTORE, in Idle

-- what is asked of a page there
pub record Home (clock : Clock) (p : Page) : Type 0 where
  pub known : strange p ≡ false
  pub seen : Seen clock p.dirty p.cached p.stamp

pub ok_home : (k : Moment) (p : Page) (h : Holding) → Ok k p h → Home k.clock p
ok_home k p h o = record { known = o.known; seen = o.seen }

restore-known : (z : State) → not (is_strange z) ≡ true → not (is_strange (goes_by restores z)) ≡ true
unfolding is_strange goes_by state_of
restore-known = every-if (λ (z : State). not (is_strange z)) (λ (z : State). not (is_strange (goes_by restores z))) tt

pub restored-home : (clock : Clock) (p : Page) → Home clock p → Home clock (unless_strange restored p)
unfolding unless_strange
restored-home clock p o =
    rw o.known
    (record {
      known = not-true _ (restore-known p.state (ap not o.known));
      seen = kept_seen clock p.dirty p.cached (goes_by restores p.state) p.stamp o.seen;
    })

-- ---- the grant

pub ready-content : (k : Moment) (p : Page) (h : Holding) → (k.phase ≡ Idle → ⊥) → Ready p → Ok k p h → h ≡ content p
unfolding is_in
ready-content k p h n r o = go r.settled
  where
    x : Abroad k.epoch p h
    x = while-has k.phase n o.abroad

    go : (p.state ≡ Free) ⊎ (((p.state ≡ Exported) ⊎ (p.state ≡ PendingExported)) × (p.dirty ≡ false)) → h ≡ content_of p.state p.mark
    go (inl e) = rw e (rw e at x.there)
    go (inr (inl e, d)) = rw e ((rw e at x.same).0 d).1
    go (inr (inr e, d)) = rw e (rw e at x.same).1
