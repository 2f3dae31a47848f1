-- A session and its bytes determine each other.
use Rattle.std.specs.Prelude.{◌≡◌, true, List, ℕ, ◌*◌, ◌<◌, length, replicate, Option, Some, None}
use Rattle.session.specs.Session.{stream_places, new_session, work_of}
use Rattle.session.specs.Formed.{formed}
use Rattle.session.specs.declared.Session.{Session}
use Rattle.session.specs.declared.streams.Interruption.{Interruption}
use Rattle.wire.specs.Bytes.{words_of, bytes_of, Bytes}
use Rattle.wire.specs.Sessions.{session_length, fits, session_of, session_words}

-- below 2^64
abbrev pub Word : ℕ → Type 0
Word x = x < 0x10000000000000000

-- the numbers of a stream's work are words
abbrev pub WorkNumbers : Option Interruption → Type 0
WorkNumbers None = Unit
WorkNumbers (Some x) = Word x.next × Word x.last × Word x.errors × Word x.filled

-- and all of a session. A session that is a value in the code has eight places for streams, and its numbers are words; `formed` bounds them further
pub record Numbers (s : Session) : Type 0 where
  pub pages : Word s.fixed.pages
  pub tlb : Word s.clock.tlb
  pub epoch : Word s.epoch
  pub created : Word s.fixed.created
  pub place : Word s.check.place
  pub works : (i : ℕ) → WorkNumbers (work_of s i)

pub record ReadsBack : Type 0 where
  -- reading the bytes that were written gives the session back
  pub session : (s : Session) → Numbers s → length s.streams ≡ stream_places → session_of (words_of (bytes_of (session_words s))) ≡ s
  -- and they are in the layout
  pub layout : (s : Session) → Numbers s → fits (words_of (bytes_of (session_words s))) ≡ true
  -- of a session that is accepted every byte is determined
  pub bytes : (b : List ℕ) → Bytes b → length b ≡ 8 * session_length → fits (words_of b) ≡ true → bytes_of (session_words (session_of (words_of b))) ≡ b
  -- a well-formed session's numbers are words
  pub formed : (s : Session) (len : ℕ) → formed s len ≡ true → Numbers s

-- each hypothesis above is met: by the session that New makes of one page, and by a session of zeros in bytes
pub record Met : Type 0 where
  pub formed : formed (new_session 1 2) 2 ≡ true
  pub numbers : Numbers (new_session 1 2)
  pub streams : length (new_session 1 2).streams ≡ stream_places
  pub bytes : Bytes (replicate (8 * session_length) 0)
  pub long : length (replicate {A = ℕ} (8 * session_length) 0) ≡ 8 * session_length
  pub fits : fits (words_of (replicate (8 * session_length) 0)) ≡ true
