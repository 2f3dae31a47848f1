-- Bytes that are whole words, and what runs leave in them: where the words are those of a run, the bytes are the bytes of these.
use mathlib.Core.Path.{◌≡◌, sym, ap, ◌∙◌}
use mathlib.Core.List.{List, ◌++◌}
use Prim.Native.Nat.{ℕ, ◌+◌, ◌%◌, ◌≤◌, ◌<◌}
use native.Mathlib.Omega.{arith}
use native.Mathlib.Decide.{dec_lt}
use lib.ListN.{length, get_or, get_or-append, get_or-eq_default}
use lib.Seq.{get_or-append-add}
use Rattle.wire.specs.Bytes.{words_of, bytes_of, Bytes}
use Rattle.wire.proofs.BytesLaws.{bytes_back}

pub record Whole (b : List ℕ) : Type 0 where
  pub bytes : Bytes b
  pub words : length b % 8 ≡ 0

-- other bytes in the same place
pub whole-as : (a b : List ℕ) → length a ≡ length b → Whole b → Bytes a → Whole a
whole-as a b e w y = record { bytes = y; words = rw e w.words }

-- a part of bytes, past its end zeros
pub bytes-between : (a p z : List ℕ) → Bytes (a ++ (p ++ z)) → Bytes p
bytes-between a p z h i = go (dec_lt i (length p))
  where
    go : Dec (i < length p) → get_or p i 0 < 256
    go (yes l) = rw (get_or-append-add a (p ++ z) i 0, get_or-append p z 0 i l) at (h (length a + i))
    go (no l) = let past : length p ≤ i = omega (arith, l) in rw (get_or-eq_default p 0 past) (omega arith)

pub written : (b : List ℕ) {w : List ℕ} → Whole b → words_of b ≡ w → b ≡ bytes_of w
written b o e = sym (bytes_back b o.bytes o.words) ∙ ap bytes_of e
