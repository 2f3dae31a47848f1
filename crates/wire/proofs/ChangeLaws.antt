-- What a change writes is the session that it makes: words that are put among a session's bytes are put among its words, and there every part has its place.
use Rattle.std.specs.Prelude.{Option}
use mathlib.Core.Path.{◌≡◌, refl, sym, ap, ◌∙◌}
use mathlib.Core.Bool.{Bool, true, false, cond}
use mathlib.Core.List.{List, [], ◌∷◌, ◌++◌, append_assoc}
use Prim.Native.Nat.{ℕ, zero, suc, ◌+◌, ◌*◌, ◌≤◌, ◌<◌}
use native.Mathlib.Omega.{arith}
use native.Mathlib.Nat.{add-zero, le_of_suc-le-suc}
use lib.Dec.{ltb, lit≤}
use lib.ListN.{length, set, take, drop, replicate, length-set, length-replicate, drop_of_length-le}
use lib.Seq.{drop-cons, drop-drop, sets, sets-eq}
use borrow.Author.Tests.{ltb-true}
use Rattle.session.specs.Session.{phase_number, stream_places, resting, unchecked, work_at, work_of}
use Rattle.session.specs.Session.{begun, with_phase, with_epoch, with_clock, with_check, with_streams, with_work, changed_by}
use Rattle.session.specs.declared.Session.{Session}
use Rattle.session.specs.declared.changes.Change.{Change}
use Rattle.session.specs.declared.changes.Change.TheVariants.{Nothing, ToPhase, ToEpoch, ToClock, ToCheck, Begin, ToWork}
use Rattle.session.specs.declared.streams.Interruption.{Interruption}
use Rattle.session.specs.declared.streams.Stream.{Stream}
use Rattle.wire.specs.Bytes.{put_word, put_words, words_of, bytes_of, Bytes}
use Rattle.wire.specs.Sessions.{session_length, own_words, check_words, streams_place, stream_place, work_words, five, streams_from, fits}
use Rattle.wire.specs.Sessions.{session_of, session_words, written_by}
use Rattle.wire.proofs.BytesLaws.{bytes-length, bytes-append, put-bytes, zero-bytes}
use Rattle.wire.proofs.Promises.{reads-back}
use Rattle.wire.proofs.SessionLaws.{five-more, session-length, work-there}

-- ---- words put one behind the other

sets_then : (l xs ys : List ℕ) (at n : ℕ) → at + length xs ≡ n → sets (sets l at xs) n ys ≡ sets l at (xs ++ ys)
sets_then l [] ys at n e = ap (λ (k : ℕ). sets l k ys) (sym e ∙ add-zero at)
sets_then l (x ∷ xs) ys at n e = sets_then _ xs ys (suc at) n (omega arith)

sets-all : (l vs : List ℕ) → length l ≡ length vs → sets l 0 vs ≡ vs
sets-all l vs e =
    let whole : length l ≤ 0 + length vs = omega arith in
    sets-eq vs l 0 (omega arith) ∙ ap (λ (r : List ℕ). vs ++ r) (drop_of_length-le l whole) ∙ ends vs
  where
    ends : (r : List ℕ) → r ++ [] ≡ r
    ends [] = refl
    ends (x ∷ r) = ap (λ (q : List ℕ). x ∷ q) (ends r)

pub put_one : (b : List ℕ) (i x : ℕ) → put_word b (8 * i) x ≡ put_words b i (x ∷ [])
unfolding put_word put_words
put_one b i x = refl

pub put_then : (b xs ys : List ℕ) (i n : ℕ) → i + length xs ≡ n → put_words (put_words b i xs) n ys ≡ put_words b i (xs ++ ys)
unfolding put_words
put_then b xs ys i n e =
    sets_then b (bytes_of xs) (bytes_of ys) (8 * i) (8 * n) (omega (arith, bytes-length xs)) ∙ ap (sets b (8 * i)) (sym (bytes-append xs ys))

pub put_all : (b words : List ℕ) → length b ≡ 8 * length words → put_words b 0 words ≡ bytes_of words
unfolding put_words
put_all b words e = sets-all b (bytes_of words) (e ∙ sym (bytes-length words))

pub put_five : (b : List ℕ) (i v w x y z : ℕ) →
    put_words (put_words (put_words (put_words (put_words b i (v ∷ [])) (i + 1) (w ∷ [])) (i + 2) (x ∷ [])) (i + 3) (y ∷ [])) (i + 4) (z ∷ [])
    ≡ put_words b i (v ∷ w ∷ x ∷ y ∷ z ∷ [])
put_five b i v w x y z =
    rw (
      put_then b (v ∷ []) (w ∷ []) i (i + 1) refl,
      put_then b (v ∷ w ∷ []) (x ∷ []) i (i + 2) refl,
      put_then b (v ∷ w ∷ x ∷ []) (y ∷ []) i (i + 3) refl,
      put_then b (v ∷ w ∷ x ∷ y ∷ []) (z ∷ []) i (i + 4) refl,
    )

pub put-none : (b : List ℕ) (i : ℕ) → put_words b i [] ≡ b
unfolding put_words
put-none b i = refl

-- zeros, as a part of the bytes that is cleared
pub put-zeros : (b : List ℕ) (i n : ℕ) → 8 * i + 8 * n ≤ length b →
    take (8 * i) b ++ (replicate (8 * n) 0 ++ drop (8 * n) (drop (8 * i) b)) ≡ put_words b i (replicate n 0)
unfolding put_words
put-zeros b i n h =
    let long : length (replicate {A = ℕ} (8 * n) 0) ≡ 8 * n = length-replicate (8 * n) 0 in
    rw (zero-bytes n, sets-eq (replicate (8 * n) 0) b (8 * i) (rw long h), long, drop-drop (8 * n) (8 * i) b)
    (sym (append_assoc (take (8 * i) b) (replicate (8 * n) 0) (drop (8 * i + 8 * n) b)))

-- among the bytes of words
put-words : (w words : List ℕ) (i : ℕ) → i + length words ≤ length w → put_words (bytes_of w) i words ≡ bytes_of (sets w i words)
put-words w [] i h = put-none (bytes_of w) i
put-words w (x ∷ l) i h =
    sym (put_then (bytes_of w) (x ∷ []) l i (suc i) (omega arith))
    ∙ ap (λ (b : List ℕ). put_words b (suc i) l) (sym (put_one (bytes_of w) i x) ∙ put-bytes w i x (omega arith))
    ∙ put-words (set w i x) l (suc i) (rw (length-set w i x) (omega arith))

-- ---- a stream among a session's words

stream-place : (k : ℕ) → stream_place k ≡ suc (suc (suc (suc (suc (suc (suc (suc (5 * k))))))))
stream-place k = omega arith

-- the words of streams, one by one
abbrev words_in : List Stream → List ℕ
words_in [] = []
words_in (x ∷ l) = five (work_words x.work) ++ words_in l

words-in : (s : Session) (n i : ℕ) → i + n ≡ stream_places → length s.streams ≡ stream_places → streams_from s n i ≡ words_in (drop i s.streams)
words-in s zero i e h = ap words_in (sym (drop_of_length-le s.streams {i = i} (omega arith)))
words-in s (suc n) i e h =
    rw (drop-cons s.streams i resting (omega arith), work-there s i (omega arith))
    (ap (λ (r : List ℕ). five (work_words (work_at s i)) ++ r) (words-in s n (suc i) (omega arith) h))

set-in : (l : List Stream) (k : ℕ) (work : Option Interruption) → k < length l →
    sets (words_in l) (5 * k) (five (work_words work)) ≡ words_in (set l k (record { work = work }))
set-in [] k work h = absurd (omega arith)
set-in (x ∷ l) zero work h = refl
set-in (x ∷ l) (suc k) work h =
    rw (five-more k) (ap (λ (r : List ℕ). five (work_words x.work) ++ r) (set-in l k work (le_of_suc-le-suc h)))

abbrev with_other : Session → ℕ → Option Interruption → Session
with_other s k work = with_streams s (set s.streams k (record { work = work }))

work-written : (s : Session) (k : ℕ) (work : Option Interruption) → k < stream_places → length s.streams ≡ stream_places →
    sets (session_words s) (stream_place k) (five (work_words work)) ≡ session_words (with_other s k work)
unfolding session_words
work-written s k work h e =
    rw (stream-place k)
    (ap (λ (r : List ℕ). own_words s ++ (check_words s.check ++ r))
    (ap (λ (l : List ℕ). sets l (5 * k) (five (work_words work))) (words-in s stream_places 0 refl e)
    ∙ set-in s.streams k work (rw e h)
    ∙ sym (words-in (with_other s k work) stream_places 0 refl (length-set s.streams k (record { work = work }) ∙ e))))

-- ---- every change

-- a part that is put among a session's bytes
put_in : (s : Session) (words : List ℕ) (i : ℕ) → i + length words ≤ session_length → (after : Session) → sets (session_words s) i words ≡ session_words after →
    put_words (bytes_of (session_words s)) i words ≡ bytes_of (session_words after)
put_in s words i h after e = put-words (session_words s) words i (rw (session-length s) h) ∙ ap bytes_of e

written : (c : Change) (s : Session) → length s.streams ≡ stream_places → written_by c (bytes_of (session_words s)) ≡ bytes_of (session_words (changed_by c s))
unfolding written_by session_words work_of with_work
written Nothing s e = refl
written (ToPhase phase) s e = put_in s (phase_number phase ∷ []) 0 (lit≤ tt) (with_phase s phase) refl
written (ToEpoch epoch) s e = put_in s (epoch ∷ []) 3 (lit≤ tt) (with_epoch s epoch) refl
written (ToClock clock) s e = put_in s (clock.tlb ∷ []) 2 (lit≤ tt) (with_clock s clock) refl
written (ToCheck check) s e = put_in s (check_words check) 5 (lit≤ tt) (with_check s check) refl
written (Begin phase epoch) s e =
    let rest = replicate {A = ℕ} (5 * stream_places) 0 in
    let first = with_phase s phase in
    let second = with_epoch first epoch in
    let third = with_check second unchecked in
    ap (λ (b : List ℕ). put_words (put_words (put_words b 3 (epoch ∷ [])) 5 (check_words unchecked)) streams_place rest)
    (put_in s (phase_number phase ∷ []) 0 (lit≤ tt) first refl)
    ∙ ap (λ (b : List ℕ). put_words (put_words b 5 (check_words unchecked)) streams_place rest) (put_in first (epoch ∷ []) 3 (lit≤ tt) second refl)
    ∙ ap (λ (b : List ℕ). put_words b streams_place rest) (put_in second (check_words unchecked) 5 (lit≤ tt) third refl)
    ∙ put_in third rest streams_place (lit≤ tt) (begun s phase epoch) refl
written (ToWork stream work) s e = go (ltb stream stream_places) refl
  where
    go : (c : Bool) → ltb stream stream_places ≡ c →
        cond c (put_words (bytes_of (session_words s)) (stream_place stream) (five (work_words work))) (bytes_of (session_words s))
        ≡ bytes_of (session_words (cond c (with_other s stream work) s))
    go true q =
        let inside : stream < stream_places = ltb-true _ _ q in
        put_in s (five (work_words work)) (stream_place stream) (omega arith) (with_other s stream work) (work-written s stream work inside e)
    go false q = refl

eight-streams : (w : List ℕ) → length (session_of w).streams ≡ stream_places
unfolding session_of
eight-streams w = refl

-- what is written is the session that the change makes
pub change-written : (c : Change) (b : List ℕ) → Bytes b → length b ≡ 8 * session_length → fits (words_of b) ≡ true →
    written_by c b ≡ bytes_of (session_words (changed_by c (session_of (words_of b))))
change-written c b y e f =
    ap (written_by c) (sym (reads-back.bytes b y e f)) ∙ written c (session_of (words_of b)) (eight-streams (words_of b))
