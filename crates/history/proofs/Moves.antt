-- Moves of one page: the guest's and memory calls, and a scan that lists it. By document 01's lists of changes: a change asks nothing new of the destination; a
-- write to an exported page is seen, for Dirty is set where Cached was clear.
use mathlib.Core.Path.{◌≡◌, refl, sym, ◌∙◌}
use mathlib.Core.Bool.{Bool, true, false, not, ◌&&◌, ◌||◌, true≢false, false≢true}
use mathlib.Core.List.{List}
use Prim.Native.Nat.{ℕ}
use Rattle.refusals.proofs.Laws.{either, Passed, and_left, and_right, or_left_false, not-true, not-false}
use Rattle.states.specs.States.{State, state_of, is_strange, is_in, Change, has_move, goes_by}
use Rattle.states.specs.Lists.{writable_states, landing_states, startable_states, blocked_states, renewed_states, adds, accepts, blocks, unblocks, removes, looks}
use Rattle.states.proofs.Laws.{every-if, each_passes, each-by, move-each, goes-each}
use Rattle.page.specs.Page.{Page, blocked}
use Rattle.page.specs.Moves.{writable, move_tests, stored, emptied, restamped, moved_by}
use Rattle.page.specs.declared.Clock.{Clock}
use Rattle.page.specs.declared.moves.Move.{Move}
use Rattle.page.specs.declared.moves.Move.TheVariants.{Write, Add, Accept, Block, Unblock, Remove}
use Rattle.session.specs.Session.{among, guest}
use Rattle.session.specs.declared.Phase.{Phase}
use Rattle.session.specs.declared.Phase.TheVariants.{Idle, Live, Blackout, Done}
use Rattle.scan.specs.Look.{renewed, listed_page}
use Rattle.bundle.specs.Bundle.{Holding}
use Rattle.history.proofs.Pages.{Moment, There, is_exported, is_pending_exported, Same, Seen, Still, Step, stay, there-as, same-free, if-false, if-map, while-map}
use Rattle.history.proofs.Pages.{seen-zero, seen-now}

-- ---- changes of state

-- one that asks nothing new of the destination
record Asks (z to : State) : Type 0 where
  known : is_strange to ≡ false
  there : (h : Holding) → There z h → There to h
  same : (d c : Bool) (m : ℕ) (h : Holding) → Same to d c m h

abbrev alike : Bool → Bool → Bool
alike true b = b
alike false b = not b

alike_same : (a b : Bool) → alike a b ≡ true → a ≡ b
alike_same true b e = sym e
alike_same false b e = sym (not-true b e)

abbrev asks_test : State → State → Bool
asks_test z to = not (is_strange to) && (alike (is_in to startable_states) (is_in z startable_states) && (not (is_exported to) && not (is_pending_exported to)))

asks : (z to : State) → asks_test z to ≡ true → Asks z to
asks z to e =
    let x = and_right (not (is_strange to)) _ e in
    let y = and_right (alike (is_in to startable_states) (is_in z startable_states)) _ x in
    record {
      known = not-true (is_strange to) (and_left (not (is_strange to)) _ e);
      there = there-as z to (alike_same _ _ (and_left (alike (is_in to startable_states) (is_in z startable_states)) _ x));
      same = same-free to (not-true _ (and_left (not (is_exported to)) (not (is_pending_exported to)) y))
          (not-true _ (and_right (not (is_exported to)) (not (is_pending_exported to)) y));
    }

each-asks : (l : List Change) → each_passes asks_test l ≡ true → (z : State) → not (has_move l z) ≡ false → Asks z (goes_by l z)
each-asks l t z e = move-each Asks l (each-by Asks asks_test asks l t) z (not-false (has_move l z) e)

-- ---- writes

-- a write that is seen sets Dirty, where Cached was clear
wrote : (d c w : Bool) → w ≡ true → (d ≡ false → c ≡ false) → (d || (w && not c)) ≡ false → ⊥
wrote true c w e k x = true≢false x
wrote false true w e k x = true≢false (k refl)
wrote false false true e k x = true≢false x
wrote false false false e k x = false≢true e

exported-writable : (z : State) → is_exported z ≡ true → is_in z writable_states ≡ true
unfolding is_in state_of
exported-writable = every-if is_exported (λ (z : State). is_in z writable_states) tt

-- no write lands in a pending page
no-landing : (a b c : Bool) → not (a || b) ≡ true → (a || (b && c)) ≡ true → ⊥
no-landing true b c x y = false≢true x
no-landing false true c x y = false≢true x
no-landing false false c x y = false≢true y

write-pending : (p : Page) → writable p ≡ true → is_pending_exported p.state ≡ false
unfolding writable is_in state_of
write-pending p w = go (is_pending_exported p.state) refl
  where
    go : (b : Bool) → is_pending_exported p.state ≡ b → b ≡ false
    go true e =
        absurd (no-landing (is_in p.state writable_states) (is_in p.state landing_states) p.cached
        (every-if is_pending_exported (λ (z : State). not (is_in z writable_states || is_in z landing_states)) tt p.state e) w)
    go false e = refl

-- one that is not seen landed through an old translation
landed : (a b c : Bool) → a ≡ false → (a || (b && c)) ≡ true → c ≡ true
landed true b c x y = absurd (true≢false x)
landed false b c x y = and_right b c y

write-seen : (clock : Clock) (p : Page) → writable p ≡ true → Seen clock p.dirty p.cached p.stamp →
    Seen clock (p.dirty || (is_in p.state writable_states && not p.cached)) true p.stamp
unfolding writable
write-seen clock p w s a x = go (is_in p.state writable_states) refl x
  where
    go : (y : Bool) → is_in p.state writable_states ≡ y → (p.dirty || (y && not p.cached)) ≡ false → true ≡ false
    go true e q = absurd (wrote p.dirty p.cached true refl (s a) q)
    go false e q = sym (landed (is_in p.state writable_states) (is_in p.state landing_states) p.cached e w) ∙ s a (or_left_false p.dirty false q)

pub still-guest : (phase : Phase) → among guest phase ≡ true → (c b : Bool) → Still phase c b
still-guest Idle g c b = tt
still-guest Live g c b = tt
still-guest Blackout g c b = absurd (false≢true g)
still-guest Done g c b = absurd (false≢true g)

-- ---- the calls on one page

module _ (k : Moment) (g : among guest k.phase ≡ true) (p : Page) where
  -- a move that keeps the migration epoch and leaves a stamp that says nothing of Cached
  settles : (q : Page) → Asks p.state q.state → q.migrated ≡ p.migrated → Seen k.clock q.dirty q.cached q.stamp → Step k k p q
  settles q a e s =
      record {
        ok = λ h o. record {
          known = a.known;
          abroad = while-map k.phase (λ x. record {
            young = rw e x.young;
            there = a.there h x.there;
            same = a.same q.dirty q.cached q.mark h;
          }) o.abroad;
          seen = s;
          still = still-guest k.phase g q.cached (blocked q);
        };
        kept = e;
      }

  write_step : (mark : ℕ) → writable p ≡ true → Step k k p (stored p mark)
  write_step mark w =
      record {
        ok = λ h o. record {
          known = o.known;
          abroad = while-map k.phase (λ x. record {
            young = x.young;
            there = x.there;
            same = (
              if-map (is_exported p.state) (λ e f y. absurd
                  (wrote p.dirty p.cached (is_in p.state writable_states) (exported-writable p.state e) (λ c. (f c).0) y)) x.same.0,
              if-false _ (is_pending_exported p.state) (write-pending p w),
            );
          }) o.abroad;
          seen = write-seen k.clock p w o.seen;
          still = still-guest k.phase g true (blocked p);
        };
        kept = refl;
      }

  pub move_step : (m : Move) → Passed (move_tests m p k.clock) → Step k k p (moved_by m k.clock p)
  unfolding is_in is_strange
  move_step (Write mark) d = write_step mark (not-false (writable p) d.0)
  move_step Add d = settles (emptied p (goes_by adds p.state)) (each-asks adds refl p.state d.0) refl (seen-zero k.clock false false)
  move_step Accept d = settles (emptied p (goes_by accepts p.state)) (each-asks accepts refl p.state d.0) refl (seen-zero k.clock false false)
  move_step Block d = settles (restamped p (goes_by blocks p.state) k.clock.tlb) (each-asks blocks refl p.state d.0) refl (seen-now k.clock
      p.dirty p.cached)
  move_step Unblock d = settles (restamped p (goes_by unblocks p.state) 0) (each-asks unblocks refl p.state d.0) refl (seen-zero k.clock p.dirty
      p.cached)
  move_step Remove d = settles (emptied p (goes_by removes p.state)) (each-asks removes refl p.state d.0) refl (seen-zero k.clock false false)

-- ---- a scan

-- where being listed takes a state
record Looks (z to : State) : Type 0 where
  known : is_strange z ≡ false → is_strange to ≡ false
  there : (h : Holding) → There z h → There to h
  blocked : is_in to blocked_states ≡ is_in z blocked_states

abbrev looks_test : State → State → Bool
looks_test z to = not (is_strange to) && (alike (is_in to startable_states) (is_in z startable_states) && alike (is_in to blocked_states) (is_in z blocked_states))

looks-by : (z to : State) → looks_test z to ≡ true → Looks z to
looks-by z to e =
    let x = and_right (not (is_strange to)) _ e in
    record {
      known = λ k. not-true (is_strange to) (and_left (not (is_strange to)) _ e);
      there = there-as z to (alike_same _ _ (and_left (alike (is_in to startable_states) (is_in z startable_states)) _ x));
      blocked = alike_same _ _ (and_right (alike (is_in to startable_states) (is_in z startable_states)) _ x);
    }

look : (z : State) → Looks z (goes_by looks z)
unfolding is_in is_strange
look z = goes-each Looks looks (each-by Looks looks_test looks-by looks refl) z (record { known = λ k. k; there = λ h t. t; blocked = refl })

-- one that is not renewed then was not changed
look-stays : (z : State) → is_in (goes_by looks z) renewed_states ≡ false → goes_by looks z ≡ z
unfolding is_in
look-stays z = goes-each (λ (x to : State). is_in to renewed_states ≡ false →
    to ≡ x) looks (λ e. absurd (true≢false e), (λ e. absurd (true≢false e), tt)) z (λ e. refl)

-- and one that is is not up to date
renewed-free : (z : State) → is_in z renewed_states ≡ true → (not (is_exported z) && not (is_pending_exported z)) ≡ true
unfolding is_in state_of
renewed-free = every-if (λ (z : State). is_in z renewed_states) (λ (z : State). not (is_exported z) && not (is_pending_exported z)) tt

pub listed-step : (k : Moment) (p : Page) → Step k k p (listed_page k.clock p)
unfolding renewed
listed-step k p =
    let to = goes_by looks p.state in
    let l = look p.state in
    either (λ (q : Page). Step k k p q) (is_in to renewed_states)
    (λ e.
    let n = renewed-free to e in
    record {
      ok = λ h o. record {
        known = l.known o.known;
        abroad = while-map k.phase (λ x. record {
          young = x.young;
          there = l.there h x.there;
          same = same-free to (not-true _ (and_left (not (is_exported to)) (not (is_pending_exported to)) n))
              (not-true _ (and_right (not (is_exported to)) (not (is_pending_exported to)) n)) false p.cached p.mark h;
        }) o.abroad;
        seen = seen-now k.clock false p.cached;
        still = rw l.blocked o.still;
      };
      kept = refl;
    })
    (λ e. rw (look-stays p.state e) (stay k p))
