-- An entry that succeeds: its operation fits what the destination has of the page, and what it makes there is what the page then needs. By state; a page whose
-- contents are sent is clean and has no translation left that would write unseen.
use native.Mathlib.Omega.{arith}
use mathlib.Core.Path.{◌≡◌, refl}
use mathlib.Core.Bool.{Bool, true, false, cond, not, ◌&&◌, false≢true}
use mathlib.Core.List.{[], ◌∷◌}
use Prim.Native.Nat.{ℕ, ◌<◌}
use borrow.Author.Tests.{eqb-false}
use Rattle.words.specs.declared.entries.Entry.{Entry}
use Rattle.refusals.proofs.Laws.{not-false, passed}
use Rattle.states.specs.States.{State, is_strange, is_in, has_move, goes_by, number_in}
use Rattle.states.specs.Lists.{pending_states, blocked_states, cancelled_states, exports, operated, data_states}
use Rattle.states.proofs.Laws.{move-each}
use Rattle.page.specs.Page.{blocked, tracked}
use Rattle.page.specs.Page.{Page}
use Rattle.page.specs.declared.Clock.{Clock}
use Rattle.session.specs.Session.{among, moving}
use Rattle.session.specs.declared.Phase.{Phase}
use Rattle.session.specs.declared.Phase.TheVariants.{Idle, Live, Blackout, Done}
use Rattle.entry.specs.Entry.{cancelled, status_tests, status_of, exported_page}
use Rattle.entry.specs.declared.Ground.{Ground}
use Rattle.entry.proofs.Laws.{Exportable, status-success, exported-has}
use Rattle.bundle.specs.Bundle.{Holding, Operation, made, Fits}
use Rattle.history.specs.History.{operation_of}
use Rattle.history.proofs.Pages.{Moment, moment_on, There, Same, Seen, Still, Abroad, Ok, while-made, while-has}
use Rattle.history.proofs.Sessions.{not-idle}

-- an entry that succeeds: what it finds at the destination, and what it makes of it
pub record Sends (k : Moment) (p q : Page) (o : Operation) (m : Holding) : Type 0 where
  pub fits : (h : Holding) → Ok k p h → Fits o h
  pub ok : (h : Holding) → Ok k p h → Ok k q m
  pub older : (h : Holding) → Ok k p h → p.migrated < k.epoch
  pub now : q.migrated ≡ k.epoch

abbrev pub sent_as : State → Operation
sent_as z = operation_of (number_in operated z)

abbrev pub sent_to : State → ℕ → Holding
sent_to z mark = made (sent_as z) (is_in z pending_states) (cond (is_in z data_states) mark 0)

-- the same by the change that is made: Dirty, Cached, mark
record Makes (z to : State) (d c : Bool) (mark : ℕ) : Type 0 where
  known : is_strange to ≡ false
  fits : (h : Holding) → There z h → Fits (sent_as z) h
  there : There to (sent_to z mark)
  same : (is_in z cancelled_states ≡ false → c ≡ false) → Same to d c mark (sent_to z mark)
  blocked : is_in to blocked_states ≡ is_in z blocked_states

makes : (z : State) (d c : Bool) (mark : ℕ) → has_move exports z ≡ true → Makes z (goes_by exports z) d c mark
unfolding is_strange is_in number_in
makes z d c mark =
    move-each (λ (x to : State). Makes x to d c mark) exports (
      record { known = refl; fits = λ h t. t; there = tt; same = λ n. (λ x. (n refl, refl), tt); blocked = refl },
      (
        record { known = refl; fits = λ h t. t; there = tt; same = λ n. (tt, refl); blocked = refl },
        (
          record { known = refl; fits = λ h t. t; there = tt; same = λ n. (λ x. (n refl, refl), tt); blocked = refl },
          (
            record { known = refl; fits = λ h t. t; there = tt; same = λ n. (tt, refl); blocked = refl },
            (
              record { known = refl; fits = λ h t. t; there = refl; same = λ n. (tt, tt); blocked = refl },
              (
                record { known = refl; fits = λ h t. t; there = refl; same = λ n. (tt, tt); blocked = refl },
                (record { known = refl; fits = λ h t. t; there = refl; same = λ n. (tt, tt); blocked = refl }, tt),
              ),
            ),
          ),
        ),
      ),
    )
    z

-- where the tests of Dirty and stamp are passed, no processor has a translation left
quiet : (phase : Phase) → among moving phase ≡ true → (clock : Clock) (stamp : ℕ) (d c b : Bool) →
    (among (Live ∷ []) phase && not (tracked stamp clock)) ≡ false → d ≡ false → Seen clock d c stamp → Still phase c b → c ≡ false
quiet Idle m clock stamp d c b x y s u = absurd (false≢true m)
quiet Live m clock stamp d c b x y s u = s (not-false (tracked stamp clock) x) y
quiet Blackout m clock stamp d c b x y s u = u.0
quiet Done m clock stamp d c b x y s u = absurd (false≢true m)

pub entry-sends : (g : Ground) (e : Entry) (p : Page) → among moving g.phase ≡ true → status_of e p g ≡ 0 →
    Sends (moment_on g) p (exported_page g.epoch p) (sent_as p.state) (sent_to p.state p.mark)
unfolding status_of
entry-sends g e p v x =
    record {
      fits = λ h o. m.fits h (abroad o).there;
      ok = λ h o. record {
        known = m.known;
        abroad = while-made g.phase (record { young = omega arith; there = m.there; same = m.same (λ n. calm n o) });
        seen = o.seen;
        still = rw m.blocked o.still;
      };
      older = λ h o. let n : p.migrated ≡ g.epoch → ⊥ = eqb-false p.migrated g.epoch t.new in omega (arith, n, (abroad o).young);
      now = refl;
    }
  where
    abroad : {h : Holding} → Ok (moment_on g) p h → Abroad g.epoch p h
    abroad o = while-has g.phase (not-idle moving g.phase refl v) o.abroad

    t : Exportable p g
    t = status-success e p g x

    m : Makes p.state (goes_by exports p.state) p.dirty p.cached p.mark
    m = makes p.state p.dirty p.cached p.mark (exported-has p t.able t.clean).moves

    early : (not (cancelled p) && among (Live ∷ []) g.phase && not (tracked p.stamp g.clock)) ≡ false
    early = (passed (status_tests e p g) refl x).1.1.1.1.1.1.0

    calm : {h : Holding} → cancelled p ≡ false → Ok (moment_on g) p h → p.cached ≡ false
    calm n o = quiet g.phase v g.clock p.stamp p.dirty p.cached (blocked p) (rw n at early) (rw n at t.clean) o.seen o.still
