-- Words in bytes, little-endian: the lowest byte first.
use Rattle.std.specs.Prelude.{List, [], ◌∷◌, ◌++◌, ℕ, zero, suc, ◌+◌, ◌*◌, ◌/◌, ◌%◌, ◌<◌, length, get_or}
use Rattle.std.proofs.lemmas.List.Edits.{sets}

-- the four bytes from at on, as a number
abbrev pub half_at : List ℕ → ℕ → ℕ
half_at b at = get_or b at 0 + get_or b (at + 1) 0 * 0x100 + get_or b (at + 2) 0 * 0x10000 + get_or b (at + 3) 0 * 0x1000000

-- the eight bytes from at on
unfoldable pub word_at : List ℕ → ℕ → ℕ
word_at b at = half_at b at + half_at b (at + 4) * 0x100000000

-- four and eight bytes of a number
abbrev pub half_bytes : ℕ → List ℕ
half_bytes x = x % 256 ∷ x / 256 % 256 ∷ x / 256 / 256 % 256 ∷ x / 256 / 256 / 256 % 256 ∷ []

abbrev pub word_bytes : ℕ → List ℕ
word_bytes x = half_bytes (x % 0x100000000) ++ half_bytes (x / 0x100000000)

-- b with the eight bytes of x stored one after the other, from at on
unfoldable pub put_word : List ℕ → ℕ → ℕ → List ℕ
put_word b at x = sets b at (word_bytes x)

-- f at 0, 1, .. below n
abbrev pub up_to : {A : Type 0} → (ℕ → A) → ℕ → List A
up_to f zero = []
up_to f (suc n) = up_to f n ++ (f n ∷ [])

-- the words that bytes are; bytes behind the last whole word are none
unfoldable pub words_of : List ℕ → List ℕ
words_of b = up_to (λ i. word_at b (8 * i)) (length b / 8)

-- the bytes that words are
abbrev pub bytes_of : List ℕ → List ℕ
bytes_of [] = []
bytes_of (x ∷ l) = word_bytes x ++ bytes_of l

-- b with words stored one after the other, from word i on
unfoldable pub put_words : List ℕ → ℕ → List ℕ → List ℕ
put_words b i words = sets b (8 * i) (bytes_of words)

-- every number is a byte, and every number a word
abbrev pub Bytes : List ℕ → Type 0
Bytes b = (i : ℕ) → get_or b i 0 < 256

abbrev pub Words : List ℕ → Type 0
Words w = (i : ℕ) → get_or w i 0 < 0x10000000000000000
