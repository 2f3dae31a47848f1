-- By the laws of words in bytes and of sessions in words.
use mathlib.Core.Path.{◌≡◌, refl, ap, ◌∙◌}
use mathlib.Core.List.{List}
use Prim.Native.Nat.{ℕ, zero, suc, ◌*◌}
use native.Mathlib.Omega.{arith}
use lib.Dec.{lit<}
use lib.ListN.{length, replicate}
use Rattle.table.specs.Table.{legal}
use Rattle.session.specs.Session.{new_session}
use Rattle.session.specs.Formed.{formed, busy}
use Rattle.wire.specs.Bytes.{word_at, words_of, bytes_of, Bytes}
use Rattle.wire.specs.Sessions.{session_length, fits, session_of, session_words}
use Rattle.wire.specs.Promises.{ReadsBack, Met}
use Rattle.wire.proofs.BytesLaws.{words-length, words_back, bytes_back}
use Rattle.wire.proofs.SessionLaws.{session-back, session-fits, layout-back, session-words, formed-numbers}

whole : (b : List ℕ) → length b ≡ 8 * session_length → length (words_of b) ≡ session_length
whole b e = rw (words-length b) (omega arith)

pub reads-back : ReadsBack
reads-back = record {
  session = λ s n e. ap session_of (words_back (session_words s) (session-words s n)) ∙ session-back s e;
  layout = λ s n. ap fits (words_back (session_words s) (session-words s n)) ∙ session-fits s;
  bytes = λ b y e h. ap bytes_of (layout-back (words_of b) (whole b e) h) ∙ bytes_back b y (omega arith);
  formed = formed-numbers;
}

pub zeros-bytes : (n : ℕ) → Bytes (replicate n 0)
zeros-bytes zero i = lit< tt
zeros-bytes (suc n) zero = lit< tt
zeros-bytes (suc n) (suc i) = zeros-bytes n i

pub met : Met
unfolding formed busy legal fits words_of word_at
met = record {
  formed = refl;
  numbers = formed-numbers (new_session 1 2) 2 refl;
  streams = refl;
  bytes = zeros-bytes (8 * session_length);
  long = refl;
  fits = refl;
}
