-- Parts of words are words, and so are words put together; a part of words is the same part of their bytes.
use mathlib.Core.Path.{◌≡◌, refl, ap}
use mathlib.Core.List.{List, [], ◌∷◌, ◌++◌}
use Prim.Native.Nat.{ℕ, zero, suc, ◌+◌, ◌*◌, ◌%◌, ◌<◌}
use native.Mathlib.Omega.{arith}
use lib.Dec.{lit<}
use lib.ListN.{take, drop, replicate}
use lib.Seq.{get_or-drop, drop-nil, take-nil}
use Rattle.wire.proofs.BytesLaws.{eight-more}
use Rattle.wire.specs.Bytes.{word_bytes, bytes_of, Bytes, Words}

pub zero-words : (n : ℕ) → Words (replicate n 0)
zero-words zero i = lit< tt
zero-words (suc n) zero = lit< tt
zero-words (suc n) (suc i) = zero-words n i

pub take_words : (n : ℕ) (l : List ℕ) → Words l → Words (take n l)
take_words zero l h i = lit< tt
take_words (suc n) [] h i = h i
take_words (suc n) (x ∷ l) h zero = h 0
take_words (suc n) (x ∷ l) h (suc i) = take_words n l (λ j. h (suc j)) i

pub drop-words : (n : ℕ) (l : List ℕ) → Words l → Words (drop n l)
drop-words n l h i = rw (get_or-drop n l i 0) (h (n + i))

pub append-words : (v w : List ℕ) → Words v → Words w → Words (v ++ w)
append-words [] w h k i = k i
append-words (x ∷ v) w h k zero = h 0
append-words (x ∷ v) w h k (suc i) = append-words v w (λ j. h (suc j)) k i

-- ---- in bytes

pub no_bytes : Bytes []
no_bytes i = lit< tt

byte-less : (x : ℕ) → x % 256 < 256
byte-less x = omega arith

pub bytes-bytes : (w : List ℕ) → Bytes (bytes_of w)
bytes-bytes [] i = lit< tt
bytes-bytes (x ∷ l) zero = byte-less _
bytes-bytes (x ∷ l) (suc zero) = byte-less _
bytes-bytes (x ∷ l) (suc (suc zero)) = byte-less _
bytes-bytes (x ∷ l) (suc (suc (suc zero))) = byte-less _
bytes-bytes (x ∷ l) (suc (suc (suc (suc zero)))) = byte-less _
bytes-bytes (x ∷ l) (suc (suc (suc (suc (suc zero))))) = byte-less _
bytes-bytes (x ∷ l) (suc (suc (suc (suc (suc (suc zero)))))) = byte-less _
bytes-bytes (x ∷ l) (suc (suc (suc (suc (suc (suc (suc zero))))))) = byte-less _
bytes-bytes (x ∷ l) (suc (suc (suc (suc (suc (suc (suc (suc i)))))))) = bytes-bytes l i

pub take-bytes : (n : ℕ) (w : List ℕ) → take (8 * n) (bytes_of w) ≡ bytes_of (take n w)
take-bytes zero w = refl
take-bytes (suc n) [] = take-nil (8 * suc n)
take-bytes (suc n) (x ∷ l) = rw (eight-more n) (ap (λ (r : List ℕ). word_bytes x ++ r) (take-bytes n l))

pub drop-bytes : (n : ℕ) (w : List ℕ) → drop (8 * n) (bytes_of w) ≡ bytes_of (drop n w)
drop-bytes zero w = refl
drop-bytes (suc n) [] = drop-nil (8 * suc n)
drop-bytes (suc n) (x ∷ l) = rw (eight-more n) (drop-bytes n l)
