-- A session and its 48 words determine each other, part by part: what is written of a part is read again, passes its tests and is words, and words that pass
-- its tests are written again as they were. The session's laws are the parts' in a row.
use Rattle.std.specs.Result.{result_unwrap_or}
use Rattle.std.specs.Prelude.{Result, Ok, Err, Option, Some, None}
use mathlib.Core.Path.{◌≡◌, refl, sym, ap, ap₂, ◌∙◌}
use mathlib.Core.Bool.{Bool, true, false, cond, not, ◌&&◌, ◌||◌, true≢false}
use mathlib.Core.List.{List, [], ◌∷◌, ◌++◌}
use Prim.Native.Nat.{ℕ, zero, suc, ◌+◌, ◌*◌, ◌≤◌, ◌<◌}
use native.Mathlib.Omega.{arith}
use native.Mathlib.Nat.{add-zero, zero-add}
use lib.Dec.{eqb, ltb, leb, lit<}
use lib.ListN.{length, get_or, take, drop, take-append-drop, length-drop}
use lib.Seq.{drop-cons, drop-drop, get_or-drop, take-add, take_all, ext_get_or}
use borrow.Author.Tests.{leb-true, eqb-true, ltb-true, lt-ltb, ne_eqb}
use Rattle.refusals.proofs.Laws.{and_left, and_right, either, not-true, not-false}
use Rattle.session.specs.Session.{phase_number, NumbersPhase, among, stream_places, resting, work_at, work_of}
use Rattle.session.specs.Formed.{formed}
use Rattle.session.specs.declared.Phase.{Phase}
use Rattle.session.specs.declared.Phase.TheVariants.{Idle, Live, Blackout, Done}
use Rattle.session.specs.declared.phases.UnknownPhase.{UnknownPhase}
use Rattle.session.specs.declared.Check.{Check}
use Rattle.session.specs.declared.Session.{Session}
use Rattle.session.specs.declared.streams.Interruption.{Interruption}
use Rattle.session.specs.declared.streams.Stream.{Stream}
use Rattle.session.proofs.FormedLaws.{every-hold, hold-every, none_below, below_none, WorkFormed, Formed, formed-means, idle-is}
use Rattle.wire.specs.Bytes.{up_to, Words}
use Rattle.wire.specs.Sessions.{session_length, phase_of, own_fits, own_words, bit_of, check_fits, check_of, check_words, fits, session_of, session_words}
use Rattle.wire.specs.Sessions.{stream_place, stream_fits, streams_fit, stream_at, streams_of, five_at, work_words, five, streams_from}
use Rattle.wire.specs.declared.streams.StreamWords.{StreamWords}
use Rattle.wire.specs.Promises.{Word, WorkNumbers, Numbers}
use Rattle.wire.proofs.BytesLaws.{up-length, up_at}

-- ---- words in a row

-- n words from `at` on, one by one
abbrev from : List ℕ → ℕ → ℕ → List ℕ
from w at zero = []
from w at (suc n) = get_or w at 0 ∷ from w (suc at) n

take-from : (w : List ℕ) (at n : ℕ) → at + n ≤ length w → take n (drop at w) ≡ from w at n
take-from w at zero h = refl
take-from w at (suc n) h = rw (drop-cons w at 0 (omega arith)) (ap (λ (r : List ℕ). get_or w at 0 ∷ r) (take-from w (suc at) n (omega arith)))

-- a part and what is behind it
part_then : (w : List ℕ) (at n : ℕ) → take n (drop at w) ++ drop (at + n) w ≡ drop at w
part_then w at n = rw (← drop-drop n at w) (take-append-drop n (drop at w))

-- ---- its own numbers

phase-back : (p : Phase) → phase_of (phase_number p) ≡ p
phase-back Idle = refl
phase-back Live = refl
phase-back Blackout = refl
phase-back Done = refl

phase-fits : (p : Phase) → leb (phase_number p) 3 ≡ true
phase-fits Idle = refl
phase-fits Live = refl
phase-fits Blackout = refl
phase-fits Done = refl

phase-number : (x : ℕ) → x ≤ 3 → phase_number (phase_of x) ≡ x
phase-number zero e = refl
phase-number (suc zero) e = refl
phase-number (suc (suc zero)) e = refl
phase-number (suc (suc (suc zero))) e = refl
phase-number (suc (suc (suc (suc x)))) e = absurd (omega arith)

pub phase-read : (x : ℕ) (r : Result Phase UnknownPhase) → NumbersPhase x r → result_unwrap_or r Done ≡ phase_of x
phase-read x (Ok p) e = sym (phase-back p) ∙ ap phase_of e
phase-read x (Err u) e = rw (
  ne_eqb x 0 (λ z. omega (arith, e.1)),
  ne_eqb x 1 (λ z. omega (arith, e.1)),
  ne_eqb x 2 (λ z. omega (arith, e.1)),
)

own-again : (w : List ℕ) → 5 ≤ length w → own_fits w ≡ true → own_words (session_of w) ≡ take 5 w
unfolding session_of
own-again w h f = rw (phase-number (get_or w 0 0) (leb-true _ _ f)) (sym (take-from w 0 5 h))

-- ---- the check

bit-back : (b : Bool) → eqb (bit_of b) 1 ≡ b
bit-back true = refl
bit-back false = refl

bit-fits : (b : Bool) → leb (bit_of b) 1 ≡ true
bit-fits true = refl
bit-fits false = refl

bit-number : (x : ℕ) → x ≤ 1 → bit_of (eqb x 1) ≡ x
bit-number zero e = refl
bit-number (suc zero) e = refl
bit-number (suc (suc x)) e = absurd (omega arith)

check-back : (c : Check) → record { place = c.place; complete = eqb (bit_of c.complete) 1; failed = eqb (bit_of c.failed) 1 } ≡ c
check-back c = rw (bit-back c.complete, bit-back c.failed)

check-again : (w : List ℕ) → 8 ≤ length w → check_fits w ≡ true → check_words (check_of w) ≡ take 3 (drop 5 w)
check-again w h f =
    let flags = every-hold (leb (get_or w 6 0) 1 ∷ leb (get_or w 7 0) 1 ∷ []) f in
    rw (bit-number (get_or w 6 0) (leb-true _ _ flags.0), bit-number (get_or w 7 0) (leb-true _ _ flags.1.0)) (sym (take-from w 5 3 h))

-- ---- a stream: five words, what they mean, and whether they fit

abbrev pub five_of : List ℕ → StreamWords
five_of l = record { flag = get_or l 0 0; next = get_or l 1 0; last = get_or l 2 0; errors = get_or l 3 0; filled = get_or l 4 0 }

abbrev pub meant : StreamWords → Stream
meant x = record { work = cond (eqb x.flag 0) None (Some (record { next = x.next; last = x.last; errors = x.errors; filled = x.filled })) }

abbrev pub fit : StreamWords → Bool
fit x = eqb x.flag 1 || eqb x.flag 0 && (eqb x.next 0 && eqb x.last 0 && eqb x.errors 0 && eqb x.filled 0)

work-back : (r : Option Interruption) → meant (work_words r) ≡ record { work = r }
work-back None = refl
work-back (Some x) = refl

work-fits : (r : Option Interruption) → fit (work_words r) ≡ true
work-fits None = refl
work-fits (Some x) = refl

one_of : {P : Type 0} (a b : Bool) → (a ≡ true → P) → (b ≡ true → P) → (a || b) ≡ true → P
one_of true b f g e = f refl
one_of false b f g e = g e

work-again : (x : StreamWords) → fit x ≡ true → work_words (meant x).work ≡ x
work-again x = go x.flag x.next x.last x.errors x.filled
  where
    go :
        (f n l e p : ℕ) →
        fit (record { flag = f; next = n; last = l; errors = e; filled = p }) ≡ true →
        work_words (cond (eqb f 0) None (Some (record { next = n; last = l; errors = e; filled = p }))) ≡ record { flag = f; next = n; last = l; errors = e; filled = p }
    go f n l e p =
        let rest = eqb n 0 && eqb l 0 && eqb e 0 && eqb p 0 in
        one_of (eqb f 1) (eqb f 0 && rest) (λ one. rw (eqb-true f 1 one))
        (λ blank.
        let z = every-hold (eqb n 0 ∷ eqb l 0 ∷ eqb e 0 ∷ eqb p 0 ∷ []) (and_right (eqb f 0) rest blank) in
        rw (eqb-true f 0 (and_left (eqb f 0) rest blank), eqb-true n 0 z.0, eqb-true l 0 z.1.0, eqb-true e 0 z.1.1.0, eqb-true p 0 z.1.1.1.0))

-- ---- the streams, five words a step

pub five-more : (k : ℕ) → 5 * suc k ≡ suc (suc (suc (suc (suc (5 * k)))))
five-more k = omega arith

-- the words at a place are those of what begins there
words-at : (w : List ℕ) (at : ℕ) → five_of (drop at w) ≡ five_at w at
words-at w at = rw (get_or-drop at w 0 0, get_or-drop at w 1 0, get_or-drop at w 2 0, get_or-drop at w 3 0, get_or-drop at w 4 0, add-zero at)

five-of : (l : List ℕ) → 5 ≤ length l → five (five_of l) ≡ take 5 l
five-of l h = sym (take-from l 0 5 h)

five-in : (s : Session) (n i k : ℕ) → k < n → five_of (drop (5 * k) (streams_from s n i)) ≡ work_words (work_of s (i + k))
five-in s zero i k h = absurd (omega arith)
five-in s (suc n) i zero h = rw (add-zero i)
five-in s (suc n) i (suc k) h =
    let next : i + suc k ≡ suc i + k = omega arith in
    rw (five-more k, next) (five-in s n (suc i) k (omega arith))

-- one stream more, at the end
pub streams-next : (s : Session) (n i : ℕ) → streams_from s (suc n) i ≡ streams_from s n i ++ five (work_words (work_of s (i + n)))
streams-next s zero i = rw (add-zero i)
streams-next s (suc n) i =
    let next : i + suc n ≡ suc i + n = omega arith in
    rw next (ap (λ (r : List ℕ). five (work_words (work_of s i)) ++ r) (streams-next s n (suc i)))

pub streams-length : (s : Session) (n i : ℕ) → length (streams_from s n i) ≡ 5 * n
streams-length s zero i = refl
streams-length s (suc n) i = omega (arith, streams-length s n (suc i))

-- those of a session's words are its streams'
pub in-session : (s : Session) (k : ℕ) → k < stream_places → five_of (drop (stream_place k) (session_words s)) ≡ work_words (work_of s k)
unfolding session_words
in-session s k h = rw (← drop-drop (5 * k) 8 (session_words s)) (five-in s stream_places 0 k h ∙ ap (λ (i : ℕ). work_words (work_of s i)) (zero-add k))

streams-back : (s : Session) → length s.streams ≡ stream_places → streams_of (session_words s) ≡ s.streams
unfolding work_of
streams-back s e =
    let f : ℕ → Stream = λ i. stream_at (session_words s) (stream_place i) in
    ext_get_or resting (up_to f stream_places) s.streams (up-length f stream_places ∙ sym e)
    (λ i h.
    let k : i < stream_places = rw (up-length f stream_places) at h in
    up_at f resting stream_places i k
    ∙ ap meant (sym (words-at (session_words s) (stream_place i)) ∙ in-session s i k)
    ∙ work-back (work_of s i)
    ∙ rw (lt-ltb i stream_places k))

streams-fit : (s : Session) → streams_fit (session_words s) ≡ true
streams-fit s =
    ap not
    (below_none (λ i. not (stream_fits (session_words s) (stream_place i))) stream_places
    (λ k h. ap (λ (x : StreamWords). not (fit x)) (sym (words-at (session_words s) (stream_place k)) ∙ in-session s k h) ∙ ap not (work-fits (work_of s k))))

-- a stream is what its five words mean
pub read-work : (w : List ℕ) (i : ℕ) → i < stream_places → work_at (session_of w) i ≡ (meant (five_at w (stream_place i))).work
unfolding session_of
read-work w i h = ap (λ (x : Stream). x.work) (up_at (λ k. stream_at w (stream_place k)) resting stream_places i h)

pub work-there : (s : Session) (i : ℕ) → i < stream_places → work_of s i ≡ work_at s i
unfolding work_of
work-there s i h = rw (lt-ltb i stream_places h)

pub work-told : (w : List ℕ) (i : ℕ) (x : StreamWords) → i < stream_places → x ≡ five_at w (stream_place i) → work_of (session_of w) i ≡ (meant x).work
work-told w i x h e = work-there (session_of w) i h ∙ read-work w i h ∙ ap (λ (y : StreamWords). (meant y).work) (sym e)

streams-from : (w : List ℕ) (n i : ℕ) → i + n ≡ stream_places → stream_place stream_places ≤ length w → streams_fit w ≡ true →
    streams_from (session_of w) n i ≡ take (5 * n) (drop (stream_place i) w)
streams-from w zero i e h f = refl
streams-from w (suc n) i e h f =
    let at = stream_place i in
    let good = none_below (λ k. not (stream_fits w (stream_place k))) stream_places (not-true _ f) i (omega arith) in
    let fits = ap fit (words-at w at) ∙ not-false (stream_fits w at) good in
    let told = work-told w i (five_of (drop at w)) (omega arith) (words-at w at) in
    let more : 5 * suc n ≡ 5 + 5 * n = omega arith in
    let next : at + 5 ≡ stream_place (suc i) = omega arith in
    rw (more, take-add 5 (5 * n) (drop at w), drop-drop 5 at w, next, ← streams-from w n (suc i) (omega arith) h f)
    (ap (λ (r : List ℕ). r ++ streams_from (session_of w) n (suc i))
    (ap five (ap work_words told ∙ work-again (five_of (drop at w)) fits) ∙ five-of (drop at w) (rw (length-drop at w) (omega arith))))

-- ---- all of it

pub session-length : (s : Session) → length (session_words s) ≡ session_length
unfolding session_words
session-length s = refl

session-same :
    (s : Session) {p : Phase} {c : Check} {l : List Stream} →
    p ≡ s.phase →
    c ≡ s.check →
    l ≡ s.streams →
    record { phase = p; epoch = s.epoch; fixed = s.fixed; clock = s.clock; check = c; streams = l } ≡ s
session-same s e f g = rw (e, f, g)

pub session-back : (s : Session) → length s.streams ≡ stream_places → session_of (session_words s) ≡ s
unfolding session_of session_words
session-back s e = session-same s (phase-back s.phase) (check-back s.check) (streams-back s e)

pub session-fits : (s : Session) → fits (session_words s) ≡ true
unfolding fits session_words
session-fits s =
    let check = hold-every (leb (bit_of s.check.complete) 1 ∷ leb (bit_of s.check.failed) 1
    ∷ []) (bit-fits s.check.complete, (bit-fits s.check.failed, tt)) in
    hold-every (own_fits (session_words s) ∷ check_fits (session_words s) ∷ streams_fit (session_words s) ∷ []) (phase-fits s.phase, (check, (streams-fit s, tt)))

pub layout-back : (w : List ℕ) → length w ≡ session_length → fits w ≡ true → session_words (session_of w) ≡ w
unfolding fits session_of session_words
layout-back w e f =
    let own = every-hold (own_fits w ∷ check_fits w ∷ streams_fit w ∷ []) f in
    ap₂ (λ (a b : List ℕ). a ++ b) (own-again w (omega arith) own.0)
    (ap₂ (λ (a b : List ℕ). a ++ b) (check-again w (omega arith) own.1.0)
    (streams-from w stream_places 0 refl (omega arith) own.1.1.0 ∙ take_all 40 (drop 8 w) (rw (length-drop 8 w) (omega arith)))
    ∙ part_then w 5 3)
    ∙ part_then w 0 5

-- ---- the words are words

abbrev AllWords : List ℕ → Type 0
AllWords [] = Unit
AllWords (x ∷ l) = Word x × AllWords l

all_words : (l : List ℕ) → AllWords l → Words l
all_words [] h i = lit< tt
all_words (x ∷ l) h zero = h.0
all_words (x ∷ l) h (suc i) = all_words l h.1 i

phase-word : (p : Phase) → Word (phase_number p)
phase-word p =
    let small : phase_number p ≤ 3 = leb-true _ _ (phase-fits p) in
    omega arith

bit_word : (b : Bool) → Word (bit_of b)
bit_word b =
    let small : bit_of b ≤ 1 = leb-true _ _ (bit-fits b) in
    omega arith

work-words : (r : Option Interruption) (l : List ℕ) → WorkNumbers r → AllWords l → AllWords (five (work_words r) ++ l)
work-words None l h a = (lit< tt, (lit< tt, (lit< tt, (lit< tt, (lit< tt, a)))))
work-words (Some x) l h a = (lit< tt, (h.0, (h.1, (h.2, (h.3, a)))))

streams-words : (s : Session) (n i : ℕ) → Numbers s → AllWords (streams_from s n i)
streams-words s zero i h = tt
streams-words s (suc n) i h = work-words (work_of s i) (streams_from s n (suc i)) (h.works i) (streams-words s n (suc i) h)

pub session-words : (s : Session) → Numbers s → Words (session_words s)
unfolding session_words
session-words s h =
    all_words (session_words s) (
      phase-word s.phase,
      (
        h.pages,
        (
          h.tlb,
          (h.epoch, (h.created, (h.place, (bit_word s.check.complete, (bit_word s.check.failed, streams-words s stream_places 0 h))))),
        ),
      ),
    )

-- a well-formed session has such numbers
pub formed-numbers : (s : Session) (len : ℕ) → formed s len ≡ true → Numbers s
unfolding work_of
formed-numbers s len e =
    let f = formed-means s len e in
    let pages = f.pages.high in
    let tlb = f.tlb.high in
    let created = f.created.high in
    let place = f.place in
    record {
      pages = omega arith;
      tlb = omega arith;
      epoch = epoch f _ refl;
      created = omega arith;
      place = omega arith;
      works = λ i. either WorkNumbers (ltb i stream_places) (λ y. work _ _ i (work_at s i) (f.streams i (ltb-true _ _ y))) (λ n. tt);
    }
  where
    epoch : Formed s len → (b : Bool) → among (Idle ∷ []) s.phase ≡ b → Word s.epoch
    epoch f true q = omega (arith, f.idle (idle-is s.phase q))
    epoch f false q = omega (arith, (f.begun (λ p. true≢false (sym (ap (among (Idle ∷ [])) p) ∙ q))).high)

    work : (moves : Bool) (created i : ℕ) (r : Option Interruption) → WorkFormed moves created i r → WorkNumbers r
    work moves created i None w = tt
    work moves created i (Some x) w = (omega arith, omega arith, omega arith, omega arith)

pub formed-words : (s : Session) (len : ℕ) → formed s len ≡ true → Words (session_words s)
formed-words s len e = session-words s (formed-numbers s len e)
