-- A session that a call makes of a well-formed one is well-formed for a table of the same length: pages and N stay, and its epochs, its check and its streams
-- are shown apart, each as it was or as the call makes it.
use Rattle.std.specs.Prelude.{Option, Some, None}
use mathlib.Core.Path.{◌≡◌, refl, sym, ap, subst, ◌∙◌}
use mathlib.Core.Bool.{Bool, true, false, not, true≢false, false≢true}
use mathlib.Core.List.{List, [], ◌∷◌}
use Prim.Native.Nat.{ℕ, zero, suc, ◌+◌, ◌*◌, ◌/◌, ◌%◌, ◌≤◌, ◌<◌}
use native.Mathlib.Omega.{arith}
use lib.Dec.{eqb, leb}
use lib.ListN.{get_or, set, get_or-replicate}
use borrow.Author.Tests.{lt-ltb, leb-true, eqb-true, eqb-false}
use Rattle.refusals.proofs.Laws.{not-true}
use Rattle.table.specs.Table.{legal, most_pages}
use Rattle.session.specs.Session.{among, moving, unchecked, resting, stream_places, at_rest, work_at, new_session, begun, with_phase, ticked, with_clock, with_epoch}
use Rattle.session.specs.Session.{with_check, with_streams, with_work}
use Rattle.session.specs.Formed.{last_epoch, fewest_created, most_created, within, work_resting, busy}
use Rattle.session.specs.declared.Phase.{Phase}
use Rattle.session.specs.declared.Phase.TheVariants.{Idle, Live, Blackout, Done}
use Rattle.session.specs.declared.Check.{Check}
use Rattle.session.specs.declared.Fixed.{Fixed}
use Rattle.session.specs.declared.Session.{Session}
use Rattle.session.specs.declared.streams.Stream.{Stream}
use Rattle.session.specs.declared.streams.Interruption.{Interruption}
use Rattle.session.proofs.FormedLaws.{every-hold, Within, WorkFormed, Streaming, Formed, busy-means}

-- ---- the parts that calls change

record Timed (p : Phase) (m n : ℕ) : Type 0 where
  tlb : Within 1 last_epoch m
  idle : p ≡ Idle → n ≡ 0
  begun : (p ≡ Idle → ⊥) → Within 1 last_epoch n

pub record Placed (c : Check) (pages : ℕ) : Type 0 where
  pub place : c.place ≤ pages
  pub complete : c.complete ≡ true → c.place ≡ pages
  pub apart : c.complete ≡ true → c.failed ≡ false

module _ {s : Session} {len : ℕ} (f : Formed s len) where
  timed : Timed s.phase s.clock.tlb s.epoch
  timed = record { tlb = f.tlb; idle = f.idle; begun = f.begun }

  placed : Placed s.check s.fixed.pages
  placed = record { place = f.place; complete = f.complete; apart = f.apart }

  -- the guest is the same
  again : (s' : Session) → s'.fixed ≡ s.fixed → Timed s'.phase s'.clock.tlb s'.epoch → Placed s'.check s.fixed.pages → Streaming s' →
      Formed s' len
  again s' same t c streams =
      let pages : s'.fixed.pages ≡ s.fixed.pages = ap (λ (x : Fixed). x.pages) same in
      let created : s'.fixed.created ≡ s.fixed.created = ap (λ (x : Fixed). x.created) same in
      record {
        even = f.even;
        some = f.some;
        most = f.most;
        ours = f.ours ∙ sym pages;
        pages = rw pages f.pages;
        tlb = t.tlb;
        idle = t.idle;
        begun = t.begun;
        created = rw created f.created;
        place = rw pages c.place;
        complete = λ q. c.complete q ∙ sym pages;
        apart = c.apart;
        streams = streams;
      }

-- ---- phases

live-is : (p : Phase) → among (Live ∷ []) p ≡ true → p ≡ Live
live-is Idle e = absurd (false≢true e)
live-is Live e = refl
live-is Blackout e = absurd (false≢true e)
live-is Done e = absurd (false≢true e)

-- a phase of a list without Idle
pub not-idle : (l : List Phase) (p : Phase) → among l Idle ≡ false → among l p ≡ true → p ≡ Idle → ⊥
not-idle l p a e q = true≢false (sym e ∙ ap (among l) q ∙ a)

-- ---- a check and streams that begin again

unchecked-placed : (pages : ℕ) → Placed unchecked pages
unchecked-placed pages = record { place = omega arith; complete = λ q. absurd (false≢true q); apart = λ q. refl }

rest-formed : (moves : Bool) (created i : ℕ) → i < stream_places → WorkFormed moves created i (get_or at_rest i resting).work
rest-formed moves created i h = rw (get_or-replicate stream_places i resting resting h) tt

-- ---- the sessions

pub track-formed : {s : Session} {len : ℕ} → Formed s len → s.clock.tlb < last_epoch → Formed (with_clock s (ticked s.clock)) len
track-formed {s} f h =
    again f (with_clock s (ticked s.clock)) refl
    (record { tlb = record { low = omega arith; high = omega arith }; idle = f.idle; begun = f.begun })
    (placed f) f.streams

pub start-formed : {s : Session} {len : ℕ} → Formed s len → Formed (begun s Live 1) len
start-formed {s} f =
    again f (begun s Live 1) refl
    (record { tlb = f.tlb; idle = λ q. absurd (not-idle moving Live refl refl q); begun = λ n. record { low = omega arith; high = omega arith } })
    (unchecked-placed s.fixed.pages) (rest-formed true s.fixed.created)

pub abort-formed : {s : Session} {len : ℕ} → Formed s len → Formed (begun s Idle 0) len
abort-formed {s} f =
    again f (begun s Idle 0) refl
    (record { tlb = f.tlb; idle = λ q. refl; begun = λ n. absurd (n refl) })
    (unchecked-placed s.fixed.pages) (rest-formed false s.fixed.created)

-- streams may be interrupted in Blackout as in Live
pub pause-formed : {s : Session} {len : ℕ} → Formed s len → among (Live ∷ []) s.phase ≡ true → Formed (with_phase s Blackout) len
pause-formed {s} f e =
    let live : s.phase ≡ Live = live-is s.phase e in
    again f (with_phase s Blackout) refl
    (record { tlb = f.tlb; idle = λ q. absurd (not-idle moving Blackout refl refl q); begun = λ n. f.begun (not-idle (Live ∷ []) s.phase refl e) })
    (placed f)
    (λ i h. subst (λ (p : Phase). WorkFormed (among moving p) s.fixed.created i (work_at s i)) live (f.streams i h))

pub epoch-formed : {s : Session} {len : ℕ} → Formed s len → among moving s.phase ≡ true → s.epoch < last_epoch → Formed (with_epoch s (s.epoch + 1)) len
epoch-formed {s} f e h =
    again f (with_epoch s (s.epoch + 1)) refl
    (record { tlb = f.tlb; idle = λ q. absurd (not-idle moving s.phase refl e q); begun = λ n. record { low = omega arith; high = omega arith } })
    (placed f) f.streams

pub check-formed : {s : Session} {len : ℕ} → Formed s len → (c : Check) → Placed c s.fixed.pages → Formed (with_check s c) len
check-formed {s} f c p = again f (with_check s c) refl (timed f) p f.streams

pub reset-formed : {s : Session} {len : ℕ} → Formed s len → Formed (with_check s unchecked) len
reset-formed {s} f = check-formed f unchecked (unchecked-placed s.fixed.pages)

-- in Done no stream is interrupted, since none was
resting-formed : (created i : ℕ) (r : Option Interruption) → work_resting r ≡ true → WorkFormed false created i r
resting-formed created i None e = tt
resting-formed created i (Some x) e = absurd (false≢true e)

pub token-formed : {s : Session} {len : ℕ} → Formed s len → among (Blackout ∷ []) s.phase ≡ true → busy s ≡ false → Formed (with_phase s Done) len
token-formed {s} f e rest =
    again f (with_phase s Done) refl
    (record { tlb = f.tlb; idle = λ q. absurd (not-idle (Done ∷ []) Done refl refl q); begun = λ n. f.begun (not-idle (Blackout ∷ []) s.phase refl e) })
    (placed f)
    (λ i h. resting-formed s.fixed.created i (work_at s i) (busy-means s rest i h))

-- ---- one stream

-- what holds of the stream that is put and of those that were there holds of all
set-stream : (P : Stream → Type 0) (l : List Stream) (i k : ℕ) (x : Stream) → (k ≡ i → P x) → P (get_or l k resting) → P (get_or (set l i x) k resting)
set-stream P [] i k x new old = old
set-stream P (y ∷ l) zero zero x new old = new refl
set-stream P (y ∷ l) zero (suc k) x new old = old
set-stream P (y ∷ l) (suc i) zero x new old = old
set-stream P (y ∷ l) (suc i) (suc k) x new old = set-stream P l i k x (λ e. new (ap suc e)) old

pub run-formed : {s : Session} {len : ℕ} → Formed s len → (i : ℕ) → i < stream_places → (r : Option Interruption) →
    WorkFormed (among moving s.phase) s.fixed.created i r → Formed (with_work s i r) len
unfolding with_work
run-formed {s} f i h r e =
    rw (lt-ltb i stream_places h)
    (again f (with_streams s (set s.streams i (record { work = r }))) refl
    (timed f) (placed f)
    (λ k b.
    set-stream (λ (z : Stream). WorkFormed (among moving s.phase) s.fixed.created k z.work) s.streams i k (record { work = r })
    (λ q. rw q e)
    (f.streams k b)))

-- ---- New

pub new-formed : (len created : ℕ) → legal len ≡ true → within fewest_created most_created created ≡ true → Formed (new_session (len / 2) created) len
unfolding legal
new-formed len created e w =
    let h = every-hold (eqb (len % 2) 0 ∷ not (eqb len 0) ∷ leb len (2 * most_pages) ∷ []) e in
    let even : len % 2 ≡ 0 = eqb-true _ _ h.0 in
    let some : len ≡ 0 → ⊥ = eqb-false _ _ (not-true (eqb len 0) h.1.0) in
    let most : len ≤ 2 * most_pages = leb-true _ _ h.1.1.0 in
    let created-within = every-hold (leb fewest_created created ∷ leb created most_created ∷ []) w in
    record {
      even = even;
      some = some;
      most = most;
      ours = refl;
      pages = record { low = omega (arith, even, some); high = omega (arith, most) };
      tlb = record { low = omega arith; high = omega arith };
      idle = λ q. refl;
      begun = λ n. absurd (n refl);
      created = record { low = leb-true _ _ created-within.0; high = leb-true _ _ created-within.1.0 };
      place = omega arith;
      complete = λ q. absurd (false≢true q);
      apart = λ q. refl;
      streams = rest-formed false created;
    }
