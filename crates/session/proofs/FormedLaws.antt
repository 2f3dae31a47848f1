-- What `formed` says, case by case and both ways: none of the malformed cases holds exactly where each of them fails.
use Rattle.std.specs.Prelude.{Option, Some, None, is_some}
use mathlib.Core.Path.{◌≡◌, refl, sym, ap, ◌∙◌}
use mathlib.Core.Logic.{⊎_elim}
use mathlib.Core.Bool.{Bool, true, false, not, ◌&&◌, ◌||◌, or-false, or_assoc, true≢false, false≢true}
use mathlib.Core.List.{List, [], ◌∷◌}
use Prim.Native.Nat.{ℕ, zero, suc, ◌+◌, ◌*◌, ◌/◌, ◌%◌, ◌^◌, ◌≤◌, ◌<◌}
use native.Mathlib.Omega.{arith}
use native.Mathlib.Nat.{eq-or-lt_of_le, le_of_suc-le-suc}
use lib.Dec.{eqb, leb}
use borrow.Author.Tests.{le-leb, leb-true, lt-ltb, ltb-true, le-ltb, ltb-false, eq-eqb, eqb-true, ne_eqb, eqb-false}
use Rattle.refusals.proofs.Laws.{either, and_left, and_right, not-true, not-false}
use Rattle.table.specs.Table.{legal, most_pages}
use Rattle.session.specs.Session.{among, moving, stream_places, work_at}
use Rattle.session.specs.Formed.{last_epoch, last_entry, fewest_created, most_created, within, epoch_in, work_resting, work_in_range, usable, some_below}
use Rattle.session.specs.Formed.{interrupted, out_of_range, out_of_place, busy, some_of, malformed_cases, formed}
use Rattle.session.specs.declared.Phase.{Phase}
use Rattle.session.specs.declared.Phase.TheVariants.{Idle, Live, Blackout, Done}
use Rattle.session.specs.declared.Session.{Session}
use Rattle.session.specs.declared.streams.Interruption.{Interruption}

-- ---- tests joined by `&&`, from the left

abbrev every_from : Bool → List Bool → Bool
every_from b [] = b
every_from b (c ∷ l) = every_from (b && c) l

abbrev pub every : List Bool → Bool
every [] = true
every (b ∷ l) = every_from b l

abbrev pub Hold : List Bool → Type 0
Hold [] = Unit
Hold (b ∷ l) = (b ≡ true) × Hold l

from-hold : (b : Bool) (l : List Bool) → every_from b l ≡ true → (b ≡ true) × Hold l
from-hold b [] e = (e, tt)
from-hold b (c ∷ l) e =
    let r = from-hold (b && c) l e in
    (and_left b c r.0, (and_right b c r.0, r.1))

hold-from : (b : Bool) (l : List Bool) → b ≡ true → Hold l → every_from b l ≡ true
hold-from b [] e h = e
hold-from b (c ∷ l) e h = hold-from (b && c) l (rw (e, h.0)) h.1

pub every-hold : (l : List Bool) → every l ≡ true → Hold l
every-hold [] e = tt
every-hold (b ∷ l) e = from-hold b l e

pub hold-every : (l : List Bool) → Hold l → every l ≡ true
hold-every [] h = refl
hold-every (b ∷ l) h = hold-from b l h.0 h.1

-- ---- cases of which none holds

neither : (a b : Bool) → (a || b) ≡ false → (a ≡ false) × (b ≡ false)
neither true b e = absurd (true≢false e)
neither false b e = (refl, e)

abbrev Fail : List Bool → Type 0
Fail [] = Unit
Fail (b ∷ l) = (b ≡ false) × Fail l

none-fail : (l : List Bool) → some_of l ≡ false → Fail l
none-fail [] e = tt
none-fail (b ∷ l) e = let r = neither b (some_of l) e in (r.0, none-fail l r.1)

-- the code joins them from the left
abbrev some_from : Bool → List Bool → Bool
some_from b [] = b
some_from b (c ∷ l) = some_from (b || c) l

from_some : (b : Bool) (l : List Bool) → some_from b l ≡ (b || some_of l)
from_some b [] = sym (or-false b)
from_some b (c ∷ l) = from_some (b || c) l ∙ or_assoc b c (some_of l)

pub formed-from : (s : Session) (len : ℕ) → not (some_from false (malformed_cases s len)) ≡ formed s len
unfolding formed
formed-from s len = ap not (from_some false (malformed_cases s len))

module _ (f : ℕ → Bool) where
  pub none_below : (n : ℕ) → some_below f n ≡ false → (k : ℕ) → k < n → f k ≡ false
  none_below zero e k h = absurd (omega arith)
  none_below (suc n) e k h =
      let r = neither (some_below f n) (f n) e in
      ⊎_elim (λ q. rw q r.1) (λ l. none_below n r.0 k l) (eq-or-lt_of_le (le_of_suc-le-suc h))

  pub below_none : (n : ℕ) → ((k : ℕ) → k < n → f k ≡ false) → some_below f n ≡ false
  below_none zero h = refl
  below_none (suc n) h = rw (below_none n (λ k l. h k (omega arith)), h n (omega arith))

-- two tests that do not hold at once
other : (a b : Bool) → (a && b) ≡ false → a ≡ true → b ≡ false
other true b e x = e
other false b e x = absurd (false≢true x)

not-both : (a b : Bool) → (a ≡ true → b ≡ false) → (a && b) ≡ false
not-both true b f = f refl
not-both false b f = refl

not_so : (b : Bool) → (b ≡ true → ⊥) → b ≡ false
not_so true f = absurd (f refl)
not_so false f = refl

-- ---- streams at rest

pub some-runs : (r : Option Interruption) → is_some r ≡ not (work_resting r)
some-runs None = refl
some-runs (Some x) = refl

pub busy-means : (s : Session) → busy s ≡ false → (i : ℕ) → i < stream_places → work_resting (work_at s i) ≡ true
unfolding busy
busy-means s e i h =
    not-false (work_resting (work_at s i)) (none_below (interrupted s) stream_places e i h)

pub means-busy : (s : Session) → ((i : ℕ) → i < stream_places → work_resting (work_at s i) ≡ true) → busy s ≡ false
unfolding busy
means-busy s f = below_none (interrupted s) stream_places (λ i h. ap not (f i h))

-- ---- what a well-formed session is

pub record Within (lo hi n : ℕ) : Type 0 where
  pub low : lo ≤ n
  pub high : n ≤ hi

within-means : (lo hi n : ℕ) → not (within lo hi n) ≡ false → Within lo hi n
within-means lo hi n e =
    let h = every-hold (leb lo n ∷ leb n hi ∷ []) (not-false (within lo hi n) e) in
    record { low = leb-true _ _ h.0; high = leb-true _ _ h.1.0 }

means-within : (lo hi n : ℕ) → Within lo hi n → within lo hi n ≡ true
means-within lo hi n w = rw (le-leb _ _ w.low, le-leb _ _ w.high)

-- a stream that is interrupted: a usable one of N, in Live or Blackout, with next ≤ last ≤ 511 and both counts ≤ next
pub record Interrupts (moves : Bool) (created i next last errors filled : ℕ) : Type 0 where
  pub moving : moves ≡ true
  pub usable : i + 1 < created
  pub ordered : next ≤ last
  pub short : last ≤ last_entry
  pub few-errors : errors ≤ next
  pub few-filled : filled ≤ next

abbrev pub WorkFormed : Bool → ℕ → ℕ → Option Interruption → Type 0
WorkFormed moves created i None = Unit
WorkFormed moves created i (Some x) = Interrupts moves created i x.next x.last x.errors x.filled

-- of every stream of a session
abbrev pub Streaming : Session → Type 0
Streaming s = (i : ℕ) → i < stream_places → WorkFormed (among moving s.phase) s.fixed.created i (work_at s i)

pub record Formed (s : Session) (len : ℕ) : Type 0 where
  -- the table: not odd, not 0, not above 8,192, and the session's
  pub even : len % 2 ≡ 0
  pub some : len ≡ 0 → ⊥
  pub most : len ≤ 2 * most_pages
  pub ours : len / 2 ≡ s.fixed.pages
  -- the ranges
  pub pages : Within 1 most_pages s.fixed.pages
  pub tlb : Within 1 last_epoch s.clock.tlb
  pub idle : s.phase ≡ Idle → s.epoch ≡ 0
  pub begun : (s.phase ≡ Idle → ⊥) → Within 1 last_epoch s.epoch
  pub created : Within fewest_created most_created s.fixed.created
  -- the check
  pub place : s.check.place ≤ s.fixed.pages
  pub complete : s.check.complete ≡ true → s.check.place ≡ s.fixed.pages
  pub apart : s.check.complete ≡ true → s.check.failed ≡ false
  -- the streams
  pub streams : Streaming s

pub idle-is : (p : Phase) → among (Idle ∷ []) p ≡ true → p ≡ Idle
idle-is Idle e = refl
idle-is Live e = absurd (false≢true e)
idle-is Blackout e = absurd (false≢true e)
idle-is Done e = absurd (false≢true e)

pub formed-means : (s : Session) (len : ℕ) → formed s len ≡ true → Formed s len
unfolding formed legal
formed-means s len e =
    let h = none-fail (malformed_cases s len) (not-true (some_of (malformed_cases s len)) e) in
    let length = every-hold (eqb (len % 2) 0 ∷ not (eqb len 0) ∷ leb len (2 * most_pages) ∷ []) (not-false (legal len) h.0) in
    let ranges = h.1.1 in
    let epoch = not-false (epoch_in s.phase s.epoch) ranges.1.1.0 in
    let runs = ranges.1.1.1.1.0 in
    let check = ranges.1.1.1.1.1 in
    let streams = check.1.1.1 in
    record {
      even = eqb-true _ _ length.0;
      some = eqb-false _ _ (not-true (eqb len 0) length.1.0);
      most = leb-true _ _ length.1.1.0;
      ours = eqb-true _ _ (not-false (eqb (len / 2) s.fixed.pages) h.1.0);
      pages = within-means _ _ _ ranges.0;
      tlb = within-means _ _ _ ranges.1.0;
      idle = λ q. eqb-true _ _ (ap (λ (p : Phase). epoch_in p s.epoch) (sym q) ∙ epoch);
      begun = λ n. within-means _ _ _ (ap not (rw (not_so (among (Idle ∷ []) s.phase) (λ y. n (idle-is s.phase y))) at epoch));
      created = within-means _ _ _ ranges.1.1.1.0;
      place = ltb-false _ _ check.0;
      complete = λ q. eqb-true _ _ (not-false (eqb s.check.place s.fixed.pages)
          (other s.check.complete (not (eqb s.check.place s.fixed.pages)) check.1.0 q));
      apart = other s.check.complete s.check.failed check.1.1.0;
      streams = λ i l.
          run i (work_at s i) (λ q. busy-means s q i l) (none_below (out_of_range s) stream_places runs i l)
          (none_below (out_of_place s) stream_places streams.0 i l) streams.1.0;
    }
  where
    run :
        (i : ℕ) (r : Option Interruption) →
        (busy s ≡ false → work_resting r ≡ true) →
        not (work_in_range r) ≡ false →
        (not (work_resting r) && not (usable s i)) ≡ false →
        (busy s && not (among moving s.phase)) ≡ false →
        WorkFormed (among moving s.phase) s.fixed.created i r
    run i None rest range able moves = tt
    run i (Some x) rest range able moves =
        let h = every-hold (leb x.next x.last ∷ leb x.last last_entry ∷ leb x.errors x.next ∷ leb x.filled x.next ∷ [])
        (not-false (work_in_range (Some x)) range) in
        let some = not-false (busy s) (not_so (not (busy s)) (λ q. false≢true (rest (not-true (busy s) q)))) in
        record {
          moving = not-false (among moving s.phase) (other (busy s) (not (among moving s.phase)) moves some);
          usable = ltb-true _ _ (not-false (usable s i) able);
          ordered = leb-true _ _ h.0;
          short = leb-true _ _ h.1.0;
          few-errors = leb-true _ _ h.1.1.0;
          few-filled = leb-true _ _ h.1.1.1.0;
        }

-- a record holds both epochs
pub tlb-fits : (s : Session) (len : ℕ) → formed s len ≡ true → s.clock.tlb < 2 ^ 16
tlb-fits s len f = omega (arith, (formed-means s len f).tlb.high)

pub epoch-fits : (s : Session) (len : ℕ) → formed s len ≡ true → among moving s.phase ≡ true → s.epoch < 2 ^ 16
epoch-fits s len f c =
    omega (arith, ((formed-means s len f).begun (λ e. false≢true (sym (ap (among moving) e) ∙ c))).high)

pub means-formed : (s : Session) (len : ℕ) → Formed s len → formed s len ≡ true
unfolding formed legal
means-formed s len f =
    rw (
      eq-eqb _ _ f.even,
      ne_eqb _ _ f.some,
      le-leb _ _ f.most,
      eq-eqb _ _ f.ours,
      means-within _ _ _ f.pages,
      means-within _ _ _ f.tlb,
      epoch,
      means-within _ _ _ f.created,
      below_none (out_of_range s) stream_places (λ i h. in-range i (work_at s i) (f.streams i h)),
      le-ltb _ _ f.place,
      not-both s.check.complete (not (eqb s.check.place s.fixed.pages)) (λ q. ap not (eq-eqb _ _ (f.complete q))),
      not-both s.check.complete s.check.failed f.apart,
      below_none (out_of_place s) stream_places (λ i h. able i (work_at s i) (f.streams i h)),
      moves (among moving s.phase) f.streams,
    )
  where
    epoch : epoch_in s.phase s.epoch ≡ true
    epoch =
        either (λ (b : Bool). b ≡ true) (among (Idle ∷ []) s.phase)
        (λ q. eq-eqb _ _ (f.idle (idle-is s.phase q)))
        (λ q. means-within _ _ _ (f.begun (λ p. true≢false (sym (ap (among (Idle ∷ [])) p) ∙ q))))

    in-range : (i : ℕ) (r : Option Interruption) → WorkFormed (among moving s.phase) s.fixed.created i r → not (work_in_range r) ≡ false
    in-range i None w = refl
    in-range i (Some x) w =
        rw (le-leb _ _ w.ordered, le-leb _ _ w.short, le-leb _ _ w.few-errors, le-leb _ _ w.few-filled)

    able : (i : ℕ) (r : Option Interruption) → WorkFormed (among moving s.phase) s.fixed.created i r → (not (work_resting r) && not (usable s i)) ≡ false
    able i None w = refl
    able i (Some x) w = ap not (lt-ltb _ _ w.usable)

    rests : (i : ℕ) (r : Option Interruption) → WorkFormed false s.fixed.created i r → work_resting r ≡ true
    rests i None w = refl
    rests i (Some x) w = absurd (false≢true w.moving)

    moves : (m : Bool) → ((i : ℕ) → i < stream_places → WorkFormed m s.fixed.created i (work_at s i)) → (busy s && not m) ≡ false
    moves true w = not-both (busy s) false (λ q. refl)
    moves false w = rw (means-busy s (λ i h. rests i (work_at s i) (w i h)))
