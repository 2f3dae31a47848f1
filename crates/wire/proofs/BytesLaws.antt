-- Words and bytes: how many there are of each, what is read at each place, that reading and writing undo each other, and that a word, a page or a part is
-- put among bytes as among words. A word's bytes are eight in a row, so most laws go by recursion on the words, eight bytes a step.
use Rattle.std.specs.Int.{w64, from_le_bytes, to_le_bytes}
use Rattle.std.proofs.lemmas.List.Edits.{sets, sets-eq}
use borrow.Rule.Slice.PartMut.{put_mid}
use mathlib.Core.Path.{◌≡◌, refl, sym, ap, ◌∙◌}
use mathlib.Core.Logic.{⊎_elim}
use mathlib.Core.Bool.{Bool, true, false, cond}
use mathlib.Core.List.{List, [], ◌∷◌, ◌++◌, append_assoc}
use Prim.Native.Nat.{ℕ, zero, suc, ◌+◌, ◌*◌, ◌/◌, ◌%◌, ◌^◌, ◌≤◌, ◌<◌}
use native.Mathlib.Omega.{arith}
use native.Mathlib.Numerals.{add-one}
use native.Mathlib.Nat.{eq-or-lt_of_le, le_of_suc-le-suc, add_assoc, add-zero}
use lib.Dec.{ltb}
use lib.ListN.{length, get_or, set, take, drop, replicate, length-append, length-drop, length-set, get_or-append}
use lib.Seq.{drop-drop, ext_get_or, get_or_at, get_or-drop, take-suc, take-add, take_all, length-sets, length-take-le}
use borrow.Author.Tests.{ltb-true}
use Rattle.page.specs.declared.PageWords.{PageWords}
use Rattle.table.specs.Table.{page_count, put_at}
use Rattle.wire.specs.Bytes.{half_at, word_at, half_bytes, word_bytes, put_word, up_to, words_of, bytes_of, Bytes, Words}
use Rattle.wire.specs.Tables.{put_page}

-- ---- lists by index

module _ {A : Type 0} (f : ℕ → A) where
  pub up-length : (n : ℕ) → length (up_to f n) ≡ n
  up-length zero = refl
  up-length (suc n) = simp (length-append, up-length n) (add-one n)

  pub up_at : (d : A) (n i : ℕ) → i < n → get_or (up_to f n) i d ≡ f i
  up_at d zero i h = absurd (omega arith)
  up_at d (suc n) i h =
      ⊎_elim
      (λ e. rw e (get_or_at (up_to f n) (f n) [] d n (up-length n)))
      (λ l. get_or-append (up_to f n) (f n ∷ []) d i (rw (up-length n) l) ∙ up_at d n i l)
      (eq-or-lt_of_le (le_of_suc-le-suc h))

pub words-length : (b : List ℕ) → length (words_of b) ≡ length b / 8
unfolding words_of
words-length b = up-length (λ i. word_at b (8 * i)) (length b / 8)

pub words-at : (b : List ℕ) (i : ℕ) → i < length b / 8 → get_or (words_of b) i 0 ≡ word_at b (8 * i)
unfolding words_of
words-at b i h = up_at (λ j. word_at b (8 * j)) 0 (length b / 8) i h

pub bytes-length : (w : List ℕ) → length (bytes_of w) ≡ 8 * length w
bytes-length [] = refl
bytes-length (x ∷ l) = omega (arith, bytes-length l)

pub bytes-append : (v w : List ℕ) → bytes_of (v ++ w) ≡ bytes_of v ++ bytes_of w
bytes-append [] w = refl
bytes-append (x ∷ v) w = ap (λ (r : List ℕ). word_bytes x ++ r) (bytes-append v w)

-- ---- reading what was written

-- where a word stands behind n bytes
word-drop : (n : ℕ) (b : List ℕ) (k : ℕ) → word_at (drop n b) k ≡ word_at b (n + k)
unfolding word_at
word-drop n b k = simp (get_or-drop, add_assoc)

half-digits : (x : ℕ) → x < 0x100000000 → x % 256 + x / 256 % 256 * 0x100 + x / 256 / 256 % 256 * 0x10000 + x / 256 / 256 / 256 % 256 * 0x1000000 ≡ x
half-digits x h = omega arith

word_first : (x : ℕ) (l : List ℕ) → x < 0x10000000000000000 → word_at (word_bytes x ++ l) 0 ≡ x
unfolding word_at
word_first x l h =
    rw (half-digits (x % 0x100000000) (omega arith), half-digits (x / 0x100000000) (omega arith)) (omega arith)

word_in : (w : List ℕ) (i : ℕ) → Words w → i < length w → word_at (bytes_of w) (8 * i) ≡ get_or w i 0
word_in [] i h k = absurd (omega arith)
word_in (x ∷ l) zero h k = word_first x (bytes_of l) (h 0)
word_in (x ∷ l) (suc i) h k =
    let behind : 8 * suc i ≡ 8 + 8 * i = omega arith in
    rw behind (sym (word-drop 8 (bytes_of (x ∷ l)) (8 * i)) ∙ word_in l i (λ j. h (suc j)) (le_of_suc-le-suc k))

pub words_back : (w : List ℕ) → Words w → words_of (bytes_of w) ≡ w
words_back w h =
    let long : length (bytes_of w) / 8 ≡ length w = rw (bytes-length w) (omega arith) in
    let same : length (words_of (bytes_of w)) ≡ length w = words-length (bytes_of w) ∙ long in
    ext_get_or 0 (words_of (bytes_of w)) w same (λ i k. words-at (bytes_of w) i (omega arith) ∙ word_in w i h (omega arith))

-- ---- writing what was read

take-up : (l : List ℕ) (n : ℕ) → n ≤ length l → take n l ≡ up_to (λ i. get_or l i 0) n
take-up l zero h = refl
take-up l (suc n) h = take-suc l n 0 h ∙ ap (λ (r : List ℕ). r ++ (get_or l n 0 ∷ [])) (take-up l n (omega arith))

digit : (a r : ℕ) → a < 256 → (a + 256 * r) % 256 ≡ a
digit a r h = omega arith

digits-left : (a r : ℕ) → a < 256 → (a + 256 * r) / 256 ≡ r
digits-left a r h = omega arith

half_back : (a b c d : ℕ) → a < 256 → b < 256 → c < 256 → d < 256 → half_bytes (a + b * 0x100 + c * 0x10000 + d * 0x1000000) ≡ a ∷ b ∷ c ∷ d ∷ []
half_back a b c d ha hb hc hd =
    let nested : a + b * 0x100 + c * 0x10000 + d * 0x1000000 ≡ a + 256 * (b + 256 * (c + 256 * d)) = omega arith in
    let last : d % 256 ≡ d = omega arith in
    rw (
      nested,
      digits-left a (b + 256 * (c + 256 * d)) ha,
      digits-left b (c + 256 * d) hb,
      digits-left c d hc,
      digit a (b + 256 * (c + 256 * d)) ha,
      digit b (c + 256 * d) hb,
      digit c d hc,
      last,
    )

-- the bytes of the first word are the first eight
word_back : (b : List ℕ) → Bytes b → 8 ≤ length b → word_bytes (word_at b 0) ≡ take 8 b
unfolding word_at
word_back b y h =
    let low : half_at b 0 < 0x100000000 = omega (arith, y 0, y 1, y 2, y 3) in
    let rest : (half_at b 0 + half_at b 4 * 0x100000000) % 0x100000000 ≡ half_at b 0 = omega arith in
    let part : (half_at b 0 + half_at b 4 * 0x100000000) / 0x100000000 ≡ half_at b 4 = omega arith in
    let first : half_bytes (half_at b 0) ≡ get_or b 0 0 ∷ get_or b 1 0 ∷ get_or b 2 0 ∷ get_or b 3 0 ∷ [] = half_back _ _ _ _ (y 0) (y 1) (y 2) (y 3) in
    let second : half_bytes (half_at b 4) ≡ get_or b 4 0 ∷ get_or b 5 0 ∷ get_or b 6 0 ∷ get_or b 7 0 ∷ [] = half_back _ _ _ _ (y 4) (y 5) (y 6) (y 7) in
    rw (rest, part) ((λ i. first i ++ second i) ∙ sym (take-up b 8 h))

-- the eight bytes of the word at a place
pub le_read : (b : List ℕ) (at : ℕ) →
    from_le_bytes w64 (
    get_or b at 0 ∷ get_or b (at + 1) 0 ∷ get_or b (at + 2) 0 ∷ get_or b (at + 3) 0
    ∷ get_or b (at + 4) 0 ∷ get_or b (at + 5) 0 ∷ get_or b (at + 6) 0 ∷ get_or b (at + 7) 0 ∷ []
    )
    ≡ word_at b at
unfolding word_at
le_read b at =
    let five : at + 4 + 1 ≡ at + 5 = omega arith in
    let six : at + 4 + 2 ≡ at + 6 = omega arith in
    let seven : at + 4 + 3 ≡ at + 7 = omega arith in
    rw (five, six, seven) (omega arith)

pub le_bytes : (x : ℕ) → to_le_bytes w64 x ≡ word_bytes x
le_bytes x =
    let a : x % 256 ≡ x % 0x100000000 % 256 = omega arith in
    let b : x / 256 ^ 1 % 256 ≡ x % 0x100000000 / 256 % 256 = omega arith in
    let c : x / 256 ^ 2 % 256 ≡ x % 0x100000000 / 256 / 256 % 256 = omega arith in
    let d : x / 256 ^ 3 % 256 ≡ x % 0x100000000 / 256 / 256 / 256 % 256 = omega arith in
    let e : x / 256 ^ 4 % 256 ≡ x / 0x100000000 % 256 = omega arith in
    let f : x / 256 ^ 5 % 256 ≡ x / 0x100000000 / 256 % 256 = omega arith in
    let g : x / 256 ^ 6 % 256 ≡ x / 0x100000000 / 256 / 256 % 256 = omega arith in
    let h : x / 256 ^ 7 % 256 ≡ x / 0x100000000 / 256 / 256 / 256 % 256 = omega arith in
    λ i. a i ∷ b i ∷ c i ∷ d i ∷ e i ∷ f i ∷ g i ∷ h i ∷ []

-- eight bytes that are copied into their place
pub eight_copied : (b ws : List ℕ) (at n x : ℕ) → n ≡ 8 → at + 8 ≤ length b → ws ≡ to_le_bytes w64 x → put_mid at n b ws ≡ put_word b at x
unfolding put_word
eight_copied b ws at n x e h w =
    ap (put_mid at n b) (w ∙ le_bytes x) ∙ ap (λ (k : ℕ). put_mid at k b (word_bytes x)) e
    ∙ ap (λ (r : List ℕ). take at b ++ (word_bytes x ++ r)) (drop-drop 8 at b)
    ∙ sym (append_assoc (take at b) (word_bytes x) (drop (at + 8) b))
    ∙ sym (sets-eq (word_bytes x) b at h)

words-front : (b : List ℕ) (n : ℕ) → Bytes b → 8 * n ≤ length b → bytes_of (up_to (λ i. word_at b (8 * i)) n) ≡ take (8 * n) b
words-front b zero y h = refl
words-front b (suc n) y h =
    let more : 8 * suc n ≡ 8 * n + 8 = omega arith in
    let here : word_at b (8 * n) ≡ word_at (drop (8 * n) b) 0 = sym (word-drop (8 * n) b 0 ∙ ap (word_at b) (add-zero (8 * n))) in
    let bytes : Bytes (drop (8 * n) b) = λ i. rw (get_or-drop (8 * n) b i 0) (y (8 * n + i)) in
    rw (
      bytes-append (up_to (λ i. word_at b (8 * i)) n) (word_at b (8 * n) ∷ []),
      words-front b n y (omega arith),
      more,
      take-add (8 * n) 8 b,
      here,
      word_back (drop (8 * n) b) bytes (rw (length-drop (8 * n) b) (omega arith)),
    )

pub bytes_back : (b : List ℕ) → Bytes b → length b % 8 ≡ 0 → bytes_of (words_of b) ≡ b
unfolding words_of
bytes_back b y h = words-front b (length b / 8) y (omega arith) ∙ take_all (8 * (length b / 8)) b (omega arith)

-- ---- a word put among bytes, a page put among bytes, and zeros

pub eight-more : (n : ℕ) → 8 * suc n ≡ suc (suc (suc (suc (suc (suc (suc (suc (8 * n))))))))
eight-more n = omega arith

pub put-bytes : (w : List ℕ) (i x : ℕ) → i < length w → put_word (bytes_of w) (8 * i) x ≡ bytes_of (set w i x)
unfolding put_word
put-bytes [] i x h = absurd (omega arith)
put-bytes (y ∷ l) zero x h = refl
put-bytes (y ∷ l) (suc i) x h =
    rw (eight-more i) (ap (λ (r : List ℕ). word_bytes y ++ r) (put-bytes l i x (le_of_suc-le-suc h)))

put_two : (v : List ℕ) (i x m : ℕ) → 2 * i + 1 < length v →
    put_word (put_word (bytes_of v) (16 * i) x) (16 * i + 8) m ≡ bytes_of (set (set v (2 * i) x) (2 * i + 1) m)
put_two v i x m h =
    let first : 16 * i ≡ 8 * (2 * i) = omega arith in
    let second : 16 * i + 8 ≡ 8 * (2 * i + 1) = omega arith in
    rw (second, first, put-bytes v (2 * i) x (omega arith)) (put-bytes (set v (2 * i) x) (2 * i + 1) m (simp length-set h))

pub page-bytes : (b : List ℕ) (i : ℕ) (w : PageWords) → Bytes b → length b % 8 ≡ 0 → put_page b i w ≡ bytes_of (put_at (words_of b) i w)
unfolding put_page put_at
page-bytes b i w y h =
    let same : length (words_of b) / 2 ≡ length b / 16 = rw (words-length b) (omega arith) in
    rw same (go (ltb i (length b / 16)) refl)
  where
    go : (c : Bool) → ltb i (length b / 16) ≡ c →
        cond c (put_word (put_word b (16 * i) w.word) (16 * i + 8) w.mark) b ≡ bytes_of
        (cond c (set (set (words_of b) (2 * i) w.word) (2 * i + 1) w.mark) (words_of b))
    go true q =
        let inside : i < length b / 16 = ltb-true _ _ q in
        ap (λ (r : List ℕ). put_word (put_word r (16 * i) w.word) (16 * i + 8) w.mark) (sym (bytes_back b y h))
        ∙ put_two (words_of b) i w.word w.mark (rw (words-length b) (omega arith))
    go false q = sym (bytes_back b y h)

-- ---- what is put into words stays words, so that a page that was put is read

words_more : (v : List ℕ) (x : ℕ) → Words v → x < 0x10000000000000000 → Words (v ++ (x ∷ []))
words_more [] x h k zero = k
words_more [] x h k (suc i) = h i
words_more (y ∷ l) x h k zero = h 0
words_more (y ∷ l) x h k (suc i) = words_more l x (λ j. h (suc j)) k i

pub words-set : (v : List ℕ) (i x : ℕ) → Words v → x < 0x10000000000000000 → Words (set v i x)
words-set [] i x h k j = h j
words-set (y ∷ l) zero x h k zero = k
words-set (y ∷ l) zero x h k (suc j) = h (suc j)
words-set (y ∷ l) (suc i) x h k zero = h 0
words-set (y ∷ l) (suc i) x h k (suc j) = words-set l i x (λ n. h (suc n)) k j

up-words : (f : ℕ → ℕ) (n : ℕ) → ((i : ℕ) → f i < 0x10000000000000000) → Words (up_to f n)
up-words f zero h i = omega arith
up-words f (suc n) h i = words_more (up_to f n) (f n) (up-words f n h) (h n) i

word_small : (b : List ℕ) (at : ℕ) → Bytes b → word_at b at < 0x10000000000000000
unfolding word_at
word_small b at y =
    let low : half_at b at < 0x100000000 = omega (arith, y at, y (at + 1), y (at + 2), y (at + 3)) in
    let high : half_at b (at + 4) < 0x100000000 = omega (arith, y (at + 4), y (at + 4 + 1), y (at + 4 + 2), y (at + 4 + 3)) in
    omega arith

pub words_small : (b : List ℕ) → Bytes b → Words (words_of b)
unfolding words_of
words_small b y = up-words (λ i. word_at b (8 * i)) (length b / 8) (λ i. word_small b (8 * i) y)

pub put_small : (t : List ℕ) (i : ℕ) (w : PageWords) → Words t → w.word < 0x10000000000000000 → w.mark < 0x10000000000000000 → Words (put_at t i w)
unfolding put_at
put_small t i w h k m = go (ltb i (length t / 2))
  where
    go : (c : Bool) → Words (cond c (set (set t (2 * i) w.word) (2 * i + 1) w.mark) t)
    go true = words-set (set t (2 * i) w.word) (2 * i + 1) w.mark (words-set t (2 * i) w.word h k) m
    go false = h

pub words-put : (b : List ℕ) (i : ℕ) (w : PageWords) → Bytes b → length b % 8 ≡ 0 → w.word < 0x10000000000000000 → w.mark < 0x10000000000000000 →
    words_of (put_page b i w) ≡ put_at (words_of b) i w
words-put b i w y h k m =
    ap words_of (page-bytes b i w y h) ∙ words_back (put_at (words_of b) i w) (put_small (words_of b) i w (words_small b y) k m)

-- one word among others
pub words-put-word : (b : List ℕ) (i x : ℕ) → Bytes b → length b % 8 ≡ 0 → i < length b / 8 → x < 0x10000000000000000 →
    words_of (put_word b (8 * i) x) ≡ set (words_of b) i x
words-put-word b i x y h l k =
    let inside : i < length (words_of b) = rw (words-length b) l in
    ap (λ (r : List ℕ). words_of (put_word r (8 * i) x)) (sym (bytes_back b y h)) ∙ ap words_of (put-bytes (words_of b) i x inside)
    ∙ words_back (set (words_of b) i x) (words-set (words_of b) i x (words_small b y) k)

-- ---- bytes behind the last whole word are none: a page or a word is put among the words of any bytes

take_set : (l : List ℕ) (n i x : ℕ) → take n (set l i x) ≡ set (take n l) i x
take_set [] zero i x = refl
take_set [] (suc n) i x = refl
take_set (y ∷ l) zero zero x = refl
take_set (y ∷ l) zero (suc i) x = refl
take_set (y ∷ l) (suc n) zero x = refl
take_set (y ∷ l) (suc n) (suc i) x = ap (λ (r : List ℕ). y ∷ r) (take_set l n i x)

take_sets : (vs l : List ℕ) (n i : ℕ) → take n (sets l i vs) ≡ sets (take n l) i vs
take_sets [] l n i = refl
take_sets (x ∷ vs) l n i = take_sets vs (set l i x) n (suc i) ∙ ap (λ (r : List ℕ). sets r (suc i) vs) (take_set l n i x)

take_bytes : (l : List ℕ) (n : ℕ) → Bytes l → Bytes (take n l)
take_bytes l zero h i = omega arith
take_bytes [] (suc n) h i = h i
take_bytes (x ∷ l) (suc n) h zero = h 0
take_bytes (x ∷ l) (suc n) h (suc i) = take_bytes l n (λ j. h (suc j)) i

-- the bytes of the whole words
abbrev whole : List ℕ → List ℕ
whole b = take (8 * (length b / 8)) b

whole_words : (b : List ℕ) → Bytes b → bytes_of (words_of b) ≡ whole b
unfolding words_of
whole_words b y = words-front b (length b / 8) y (omega arith)

words_whole : (b : List ℕ) → Bytes b → words_of (whole b) ≡ words_of b
words_whole b y = ap words_of (sym (whole_words b y)) ∙ words_back (words_of b) (words_small b y)

page-long : (b : List ℕ) (i : ℕ) (w : PageWords) → length (put_page b i w) ≡ length b
unfolding put_page put_word
page-long b i w = go (ltb i (length b / 16))
  where
    go : (c : Bool) → length (cond c (sets (sets b (16 * i) (word_bytes w.word)) (16 * i + 8) (word_bytes w.mark)) b) ≡ length b
    go true = length-sets (sets b (16 * i) (word_bytes w.word)) (16 * i + 8) (word_bytes w.mark) ∙ length-sets b (16 * i) (word_bytes w.word)
    go false = refl

page-whole : (b : List ℕ) (i : ℕ) (w : PageWords) → take (8 * (length b / 8)) (put_page b i w) ≡ put_page (whole b) i w
unfolding put_page put_word
page-whole b i w =
    let n = 8 * (length b / 8) in
    let same : length (take n b) / 16 ≡ length b / 16 = rw (length-take-le n b (omega arith)) (omega arith) in
    rw same (go n (ltb i (length b / 16)))
  where
    go : (n : ℕ) (c : Bool) → take n (cond c (sets (sets b (16 * i) (word_bytes w.word)) (16 * i + 8) (word_bytes w.mark)) b)
        ≡ cond c (sets (sets (take n b) (16 * i) (word_bytes w.word)) (16 * i + 8) (word_bytes w.mark)) (take n b)
    go n true =
        take_sets (word_bytes w.mark) (sets b (16 * i) (word_bytes w.word)) n (16 * i + 8)
        ∙ ap (λ (r : List ℕ). sets r (16 * i + 8) (word_bytes w.mark)) (take_sets (word_bytes w.word) b n (16 * i))
    go n false = refl

pub words-store : (b : List ℕ) (i : ℕ) (w : PageWords) → Bytes b → Bytes (put_page b i w) → w.word < 0x10000000000000000 → w.mark < 0x10000000000000000 →
    words_of (put_page b i w) ≡ put_at (words_of b) i w
words-store b i w y z k m =
    let long : length (whole b) % 8 ≡ 0 = rw (length-take-le (8 * (length b / 8)) b (omega arith)) (omega arith) in
    sym (words_whole (put_page b i w) z) ∙ ap (λ (n : ℕ). words_of (take (8 * (n / 8)) (put_page b i w))) (page-long b i w)
    ∙ ap words_of (page-whole b i w) ∙ words-put (whole b) i w (take_bytes b (8 * (length b / 8)) y) long k m
    ∙ ap (λ (r : List ℕ). put_at r i w) (words_whole b y)

-- the pages of the bytes are those of the words
pub page-count : (b : List ℕ) → page_count (words_of b) ≡ length b / 16
page-count b = rw (words-length b) (omega arith)

pub zero-bytes : (n : ℕ) → bytes_of (replicate n 0) ≡ replicate (8 * n) 0
zero-bytes zero = refl
zero-bytes (suc n) = rw (eight-more n) (ap (λ (r : List ℕ). word_bytes 0 ++ r) (zero-bytes n))

-- ---- a part of the words

-- the same of any bytes
pub word-store : (b : List ℕ) (i x : ℕ) → Bytes b → Bytes (put_word b (8 * i) x) → i < length b / 8 → x < 0x10000000000000000 →
    words_of (put_word b (8 * i) x) ≡ set (words_of b) i x
unfolding put_word
word-store b i x y z l k =
    let n = 8 * (length b / 8) in
    let eights : length (whole b) ≡ n = length-take-le n b (omega arith) in
    let inside : i < length (whole b) / 8 = rw eights (omega arith) in
    sym (words_whole (put_word b (8 * i) x) z)
    ∙ ap (λ (m : ℕ). words_of (take (8 * (m / 8)) (put_word b (8 * i) x))) (length-sets b (8 * i) (word_bytes x))
    ∙ ap words_of (take_sets (word_bytes x) b n (8 * i))
    ∙ words-put-word (whole b) i x (take_bytes b n y) (rw eights (omega arith)) inside k
    ∙ ap (λ (r : List ℕ). set r i x) (words_whole b y)

bytes_take : (w : List ℕ) (n : ℕ) → take (8 * n) (bytes_of w) ≡ bytes_of (take n w)
bytes_take w zero = refl
bytes_take [] (suc n) = rw (eight-more n)
bytes_take (x ∷ l) (suc n) = rw (eight-more n) (ap (λ (r : List ℕ). word_bytes x ++ r) (bytes_take l n))

bytes_drop : (w : List ℕ) (n : ℕ) → drop (8 * n) (bytes_of w) ≡ bytes_of (drop n w)
bytes_drop w zero = refl
bytes_drop [] (suc n) = rw (eight-more n)
bytes_drop (x ∷ l) (suc n) = rw (eight-more n) (bytes_drop l n)

words_take : (v : List ℕ) (n : ℕ) → Words v → Words (take n v)
words_take v zero h i = omega arith
words_take [] (suc n) h i = h i
words_take (x ∷ l) (suc n) h zero = h 0
words_take (x ∷ l) (suc n) h (suc i) = words_take l n (λ j. h (suc j)) i

module _ (b : List ℕ) (from n : ℕ) (y : Bytes b) (h : length b % 8 ≡ 0) where
  abbrev rest : List ℕ
  rest = drop from (words_of b)

  rest-bytes : drop (8 * from) b ≡ bytes_of rest
  rest-bytes = ap (drop (8 * from)) (sym (bytes_back b y h)) ∙ bytes_drop (words_of b) from

  -- the words of a part of the bytes are the part of the words
  pub words-part : words_of (take (8 * n) (drop (8 * from) b)) ≡ take n (drop from (words_of b))
  words-part =
      let small : Words rest = λ i. rw (get_or-drop from (words_of b) i 0) (words_small b y (from + i)) in
      rw (rest-bytes, bytes_take rest n) (words_back (take n rest) (words_take rest n small))

  -- and where other words stand there, their bytes do
  pub bytes-part : (p : List ℕ) →
      take (8 * from) b ++ (bytes_of p ++ drop (8 * n) (drop (8 * from) b)) ≡ bytes_of (take from (words_of b) ++ (p ++ drop n (drop from (words_of b))))
  bytes-part p =
      let first : take (8 * from) b ≡ bytes_of (take from (words_of b)) = ap (take (8 * from)) (sym (bytes_back b y h)) ∙ bytes_take (words_of b) from in
      rw (first, rest-bytes, bytes_drop rest n, bytes-append (take from (words_of b)) (p ++ drop n rest), bytes-append p (drop n rest))
