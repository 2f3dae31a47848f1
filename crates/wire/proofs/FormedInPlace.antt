-- `formed` asks several things of every stream, one after the other, and `fits` one more. A test of some stream that is a choice of tests is the choice of
-- the tests of some stream, so all of it is one look at each stream; what is asked of the other words stands apart from it.
use Rattle.std.specs.Prelude.{Option, Some, None}
use mathlib.Core.Path.{◌≡◌, refl, sym, ap, ap₂, ◌∙◌}
use mathlib.Core.Logic.{⊎_elim}
use mathlib.Core.Bool.{Bool, true, false, cond, not, ◌&&◌, ◌||◌, and-false, or-true, or-false, or_assoc, and-or_distrib_right}
use mathlib.Core.List.{List, [], ◌∷◌}
use Prim.Native.Nat.{ℕ, zero, suc, ◌+◌, ◌/◌, ◌<◌}
use native.Mathlib.Omega.{arith}
use native.Mathlib.Nat.{eq-or-lt_of_le, le_of_suc-le-suc}
use lib.Dec.{eqb, ltb, leb}
use lib.ListN.{get_or}
use borrow.Author.Tests.{eqb-true}
use Rattle.table.specs.Table.{legal, most_pages}
use Rattle.session.specs.Session.{among, moving, stream_places}
use Rattle.session.specs.Formed.{last_epoch, last_entry, fewest_created, most_created, within, epoch_in, work_resting, work_in_range, usable, some_below, some_stream}
use Rattle.session.specs.Formed.{interrupted, out_of_range, out_of_place, busy, some_of, formed}
use Rattle.session.specs.declared.Phase.TheVariants.{Idle, Live, Blackout, Done}
use Rattle.session.specs.declared.Session.{Session}
use Rattle.session.specs.declared.streams.Interruption.{Interruption}
use Rattle.wire.specs.Sessions.{phase_of, own_fits, check_fits, stream_place, stream_fits, five_at, stream_formed, streams_formed, fits, session_of}
use Rattle.wire.specs.declared.streams.StreamWords.{StreamWords}
use Rattle.wire.proofs.SessionLaws.{meant, fit, read-work}

-- ---- a phase by its number

pub epoch-number : (x epoch : ℕ) → (eqb x 0 && eqb epoch 0 || not (eqb x 0) && leb 1 epoch && leb epoch last_epoch) ≡ epoch_in (phase_of x) epoch
epoch-number x epoch = go (eqb x 0) (eqb x 1) (eqb x 2)
  where
    go : (a b c : Bool) →
        (a && eqb epoch 0 || not a && leb 1 epoch && leb epoch last_epoch) ≡ epoch_in (cond a Idle (cond b Live (cond c Blackout Done))) epoch
    go true b c = or-false (eqb epoch 0)
    go false true c = refl
    go false false true = refl
    go false false false = refl

pub moving-number : (x : ℕ) → (eqb x 1 || eqb x 2) ≡ among moving (phase_of x)
moving-number x = go (eqb x 0) refl
  where
    later : (b c : Bool) → (b || c) ≡ among moving (cond b Live (cond c Blackout Done))
    later true c = refl
    later false true = refl
    later false false = refl

    go : (a : Bool) → eqb x 0 ≡ a → (eqb x 1 || eqb x 2) ≡ among moving (phase_of x)
    go true q = rw (eqb-true x 0 q)
    go false q = rw q (later (eqb x 1) (eqb x 2))

-- ---- tests of some number

or_swap : (a b c d : Bool) → (a || b || (c || d)) ≡ (a || c || (b || d))
or_swap true b c d = refl
or_swap false true true d = refl
or_swap false true false d = refl
or_swap false false c d = refl

some_or : (f g : ℕ → Bool) (n : ℕ) → some_below (λ k. f k || g k) n ≡ (some_below f n || some_below g n)
some_or f g zero = refl
some_or f g (suc n) = ap (λ (b : Bool). b || (f n || g n)) (some_or f g n) ∙ or_swap (some_below f n) (some_below g n) (f n) (g n)

some-and : (f : ℕ → Bool) (b : Bool) (n : ℕ) → some_below (λ k. f k && b) n ≡ (some_below f n && b)
some-and f b zero = refl
some-and f b (suc n) = ap (λ (c : Bool). c || f n && b) (some-and f b n) ∙ sym (and-or_distrib_right (some_below f n) (f n) b)

some_same : (f g : ℕ → Bool) (n : ℕ) → ((k : ℕ) → k < n → f k ≡ g k) → some_below f n ≡ some_below g n
some_same f g zero h = refl
some_same f g (suc n) h = ap₂ (λ (a b : Bool). a || b) (some_same f g n (λ k l. h k (omega arith))) (h n (omega arith))

pub some-there : (f : ℕ → Bool) (n k : ℕ) → k < n → f k ≡ true → some_below f n ≡ true
some-there f zero k h e = absurd (omega arith)
some-there f (suc n) k h e =
    ⊎_elim (λ q. ap (λ (b : Bool). some_below f n || b) (rw q at e) ∙ or-true (some_below f n)) (λ l. ap (λ (b : Bool). b || f n) (some-there f n k l e))
    (eq-or-lt_of_le (le_of_suc-le-suc h))

-- ---- a stream

-- what is wrong with one that is not as it may be: its words fit no stream, or it is interrupted out of its ranges, unusable, or in another phase
module _ (x : StreamWords) (able moves : Bool) where
  abbrev blank : Bool
  blank = eqb x.next 0 && eqb x.last 0 && eqb x.errors 0 && eqb x.filled 0

  abbrev in_range : Bool
  in_range = leb x.next x.last && leb x.last last_entry && leb x.errors x.next && leb x.filled x.next

  abbrev wrong : Option Interruption → Bool
  wrong work = not (work_in_range work) || (not (work_resting work) && not able || not (work_resting work) && not moves)

  one-look : not (stream_formed (able && moves) x) ≡ (not (fit x) || wrong (meant x).work)
  one-look = go (eqb x.flag 0) refl (eqb x.flag 1) refl
    where
      rests : (b : Bool) → not (b || false) ≡ (not b || false)
      rests true = refl
      rests false = refl

      runs : (r a m : Bool) → not (r && (a && m)) ≡ (not r || (not a || not m))
      runs false a m = refl
      runs true false m = refl
      runs true true m = refl

      go : (z : Bool) → eqb x.flag 0 ≡ z → (o : Bool) → eqb x.flag 1 ≡ o →
          not (
          z && eqb x.next 0 && eqb x.last 0 && eqb x.errors 0 && eqb x.filled 0
          || o && leb x.next x.last && leb x.last last_entry && leb x.errors x.next && leb x.filled x.next && (able && moves)
          )
          ≡ (not (o || z && blank) || wrong (cond z None (Some (record { next = x.next; last = x.last; errors = x.errors; filled = x.filled }))))
      go true p true q =
          let none : x.flag ≡ 0 = eqb-true _ _ p in
          let one : x.flag ≡ 1 = eqb-true _ _ q in
          absurd (omega arith)
      go true p false q = rests blank
      go false p true q = runs in_range able moves
      go false p false q = refl

-- it is interrupted where its flag is not 0
pub flag-tells : (w : List ℕ) (k : ℕ) → k < stream_places → not (eqb (get_or w (stream_place k) 0) 0) ≡ interrupted (session_of w) k
flag-tells w k h = rw (read-work w k h) (go (eqb (get_or w (stream_place k) 0) 0) _)
  where
    go : (z : Bool) (x : Interruption) → not z ≡ not (work_resting (cond z None (Some x)))
    go true x = refl
    go false x = refl

-- stream i is not as it may be; its words fit no stream
abbrev pub wrong_in : Bool → ℕ → List ℕ → ℕ → Bool
wrong_in moves created w i = not (stream_formed (ltb (i + 1) created && moves) (five_at w (stream_place i)))

abbrev unfit : List ℕ → ℕ → Bool
unfit w i = not (stream_fits w (stream_place i))

-- what `formed` asks of the streams
abbrev stream_cases : Session → Bool
stream_cases s = some_stream (out_of_range s) || (some_stream (out_of_place s) || busy s && not (among moving s.phase))

streams-look : (w : List ℕ) →
    let s = session_of w in
    some_stream (wrong_in (among moving s.phase) s.fixed.created w) ≡ (some_stream (unfit w) || stream_cases s)
unfolding busy
streams-look w =
    let s = session_of w in
    let moves = among moving s.phase in
    let still : ℕ → Bool = λ i. interrupted s i && not moves in
    some_same (wrong_in moves s.fixed.created w) (λ i. unfit w i || (out_of_range s i || (out_of_place s i || still i))) stream_places
    (λ k h. rw (read-work w k h) (one-look (five_at w (stream_place k)) (usable s k) moves))
    ∙ some_or (unfit w) (λ i. out_of_range s i || (out_of_place s i || still i)) stream_places
    ∙ ap (λ (b : Bool). some_stream (unfit w) || b)
    (some_or (out_of_range s) (λ i. out_of_place s i || still i) stream_places
    ∙ ap (λ (b : Bool). some_stream (out_of_range s) || b)
    (some_or (out_of_place s) still stream_places
    ∙ ap (λ (b : Bool). some_stream (out_of_place s) || b) (some-and (interrupted s) (not moves) stream_places)))

-- ---- all of it

-- what is asked of the words that are no stream's
abbrev pub own_cases : Session → ℕ → Bool
own_cases s len =
    not (legal len)
    || not (eqb (len / 2) s.fixed.pages)
    || not (within 1 most_pages s.fixed.pages)
    || not (within 1 last_epoch s.clock.tlb)
    || not (epoch_in s.phase s.epoch)
    || not (within fewest_created most_created s.fixed.created)
    || ltb s.fixed.pages s.check.place
    || (s.check.complete && not (eqb s.check.place s.fixed.pages))
    || (s.check.complete && s.check.failed)

-- the streams' cases behind the others
later : (a b c : Bool) → (a || (b || c)) ≡ (b || (a || c))
later true true c = refl
later true false c = refl
later false b c = refl

apart : (a b c d e f r g h i p q : Bool) →
    some_of (a ∷ b ∷ c ∷ d ∷ e ∷ f ∷ r ∷ g ∷ h ∷ i ∷ p ∷ q ∷ []) ≡ (a || b || c || d || e || f || g || h || i || (r || (p || q)))
apart a b c d e f r g h i p q = simp (or_assoc, or-false) (rw (later r g, later r h, later r i))

join : (o k f c g : Bool) → (o && k && not c && not (f || g)) ≡ (o && k && not f && not (c || g))
join false k f c g = refl
join true false f c g = refl
join true true true c g = and-false (not c)
join true true false true g = refl
join true true false false g = refl

pub formed-in-place : (w : List ℕ) (len : ℕ) →
    let s = session_of w in
    (own_fits w && check_fits w && not (own_cases s len) && streams_formed (among moving s.phase) s.fixed.created w) ≡ (fits w && formed s len)
unfolding fits streams_formed formed
formed-in-place w len =
    let s = session_of w in
    ap (λ (b : Bool). own_fits w && check_fits w && not (own_cases s len) && not b) (streams-look w)
    ∙ join (own_fits w) (check_fits w) (some_stream (unfit w)) (own_cases s len) (stream_cases s)
    ∙ ap (λ (b : Bool). own_fits w && check_fits w && not (some_stream (unfit w)) && not b)
    (sym (apart
    (not (legal len))
    (not (eqb (len / 2) s.fixed.pages))
    (not (within 1 most_pages s.fixed.pages))
    (not (within 1 last_epoch s.clock.tlb))
    (not (epoch_in s.phase s.epoch))
    (not (within fewest_created most_created s.fixed.created))
    (some_stream (out_of_range s))
    (ltb s.fixed.pages s.check.place)
    (s.check.complete && not (eqb s.check.place s.fixed.pages))
    (s.check.complete && s.check.failed)
    (some_stream (out_of_place s))
    (busy s && not (among moving s.phase))))
