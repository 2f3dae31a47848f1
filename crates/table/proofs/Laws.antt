-- Pages of a table: what is read after words were put, what a sweep makes of each page, and what the search for the lowest page says of all of them.
use Rattle.std.specs.Prelude.{Option, None, Some, MatchOption}
use Rattle.std.specs.Option.{is_some}
use mathlib.Core.Path.{◌≡◌, refl, sym, ap, ◌∙◌}
use mathlib.Core.Logic.{⊎_elim}
use mathlib.Core.Bool.{Bool, true, false, cond}
use mathlib.Core.List.{List, [], ◌∷◌}
use Prim.Native.Nat.{ℕ, zero, suc, ◌+◌, ◌-◌, ◌*◌, ◌≤◌, ◌<◌}
use native.Mathlib.Omega.{arith}
use native.Mathlib.Nat.{eq-or-lt_of_le}
use native.Mathlib.Numerals.{add-one}
use lib.Dec.{ltb}
use lib.ListN.{length, get_or, set, length-set}
use lib.Seq.{get_or-set_same, get_or-set_other, set-get_or}
use borrow.Author.Tests.{lt-ltb, le-ltb, ltb-true, ltb-false}
use Rattle.page.specs.Page.{Page, page_of, strange, on_words, unless_strange}
use Rattle.page.specs.declared.PageWords.{PageWords}
use Rattle.page.proofs.Laws.{Held, Holds, read_held, page_moved}
use Rattle.table.specs.Table.{page_count, words_at, page_at, put_at, sweep_of, lowest, found, first_page, some, Lowest}

-- ---- words that were put

length-cond : (b : Bool) (x y : List ℕ) → length x ≡ length y → length (cond b x y) ≡ length y
length-cond true x y e = e
length-cond false x y e = refl

pub put-length : (t : List ℕ) (i : ℕ) (w : PageWords) → length (put_at t i w) ≡ length t
unfolding put_at
put-length t i w = length-cond (ltb i (page_count t)) (set (set t (2 * i) w.word) (2 * i + 1) w.mark) t (simp length-set)

-- past the end nothing is written
put-past : (t : List ℕ) (i : ℕ) (w : PageWords) → ltb i (page_count t) ≡ false → put_at t i w ≡ t
unfolding put_at
put-past t i w e = rw e

pub put_same : (t : List ℕ) (i : ℕ) (w : PageWords) → i < page_count t → words_at (put_at t i w) i ≡ w
unfolding words_at put_at
put_same t i w h =
    let v = set t (2 * i) w.word in
    let in-t : 2 * i < length t = omega arith in
    let in-v : 2 * i + 1 < length v = simp length-set (omega arith) in
    let apart : 2 * i ≡ 2 * i + 1 → ⊥ = λ e. omega arith in
    rw (
      lt-ltb i (page_count t) h,
      length-set,
      length-set,
      lt-ltb i (page_count t) h,
      get_or-set_other v (2 * i + 1) (2 * i) w.mark 0 apart,
      get_or-set_same t (2 * i) w.word 0 in-t,
      get_or-set_same v (2 * i + 1) w.mark 0 in-v,
    )

pub put_other : (t : List ℕ) (i k : ℕ) (w : PageWords) → (k ≡ i → ⊥) → words_at (put_at t i w) k ≡ words_at t k
unfolding words_at put_at
put_other t i k w ne = go (ltb i (page_count t))
  where
    go : (b : Bool) → words_at (cond b (set (set t (2 * i) w.word) (2 * i + 1) w.mark) t) k ≡ words_at t k
    go true =
        let v = set t (2 * i) w.word in
        let a : 2 * k ≡ 2 * i + 1 → ⊥ = λ e. omega arith in
        let b : 2 * k ≡ 2 * i → ⊥ = λ e. ne (omega arith) in
        let c : 2 * k + 1 ≡ 2 * i + 1 → ⊥ = λ e. ne (omega arith) in
        let d : 2 * k + 1 ≡ 2 * i → ⊥ = λ e. omega arith in
        rw (
          length-set,
          length-set,
          get_or-set_other v (2 * i + 1) (2 * k) w.mark 0 a,
          get_or-set_other t (2 * i) (2 * k) w.word 0 b,
          get_or-set_other v (2 * i + 1) (2 * k + 1) w.mark 0 c,
          get_or-set_other t (2 * i) (2 * k + 1) w.word 0 d,
        )
    go false = refl

-- words that are put back where they were, past the end too
pub put_back : (t : List ℕ) (i : ℕ) → words_at (put_at t i (words_at t i)) i ≡ words_at t i
put_back t i = go (ltb i (page_count t)) refl
  where
    go : (b : Bool) → ltb i (page_count t) ≡ b → words_at (put_at t i (words_at t i)) i ≡ words_at t i
    go true q = put_same t i (words_at t i) (ltb-true _ _ q)
    go false q = ap (λ (u : List ℕ). words_at u i) (put-past t i (words_at t i) q)

-- which leave the table
pub put_again : (t : List ℕ) (i : ℕ) → put_at t i (words_at t i) ≡ t
unfolding put_at words_at
put_again t i = go (ltb i (page_count t))
  where
    go : (c : Bool) →
        let w : PageWords = cond c (record { word = get_or t (2 * i) 0; mark = get_or t (2 * i + 1) 0 }) (record { word = 0; mark = 0 }) in
        cond c (set (set t (2 * i) w.word) (2 * i + 1) w.mark) t ≡ t
    go true = rw (set-get_or t (2 * i) 0, set-get_or t (2 * i + 1) 0)
    go false = refl

-- ---- a sweep, for any move of a page's words

ltb-suc : (m n : ℕ) → ltb (suc m) (suc n) ≡ ltb m n
ltb-suc m n = by (ltb m n) refl
  where
    by : (b : Bool) → ltb m n ≡ b → ltb (suc m) (suc n) ≡ b
    by true e = let h : m < n = ltb-true m n e in lt-ltb (suc m) (suc n) (omega arith)
    by false e = let h : n ≤ m = ltb-false m n e in le-ltb (suc m) (suc n) (omega arith)

-- the first page of a table, and those behind it
module _ (a b : ℕ) (t : List ℕ) where
  more : page_count (a ∷ b ∷ t) ≡ suc (page_count t)
  more = omega arith

  at_first : words_at (a ∷ b ∷ t) 0 ≡ record { word = a; mark = b }
  unfolding words_at
  at_first = let inside : 0 < page_count (a ∷ b ∷ t) = omega arith in rw (lt-ltb 0 (page_count (a ∷ b ∷ t)) inside)

  at-behind : (k : ℕ) → words_at (a ∷ b ∷ t) (suc k) ≡ words_at t k
  unfolding words_at
  at-behind k =
      let even : 2 * suc k ≡ suc (suc (2 * k)) = omega arith in
      let odd : 2 * suc k + 1 ≡ suc (suc (2 * k + 1)) = omega arith in
      rw (more, ltb-suc k (page_count t), odd, even)

  put_first : (w : PageWords) → put_at (a ∷ b ∷ t) 0 w ≡ w.word ∷ w.mark ∷ t
  unfolding put_at
  put_first w = let inside : 0 < page_count (a ∷ b ∷ t) = omega arith in rw (lt-ltb 0 (page_count (a ∷ b ∷ t)) inside)

  put-behind : (k : ℕ) (w : PageWords) → put_at (a ∷ b ∷ t) (suc k) w ≡ a ∷ b ∷ put_at t k w
  unfolding put_at
  put-behind k w =
      let even : 2 * suc k ≡ suc (suc (2 * k)) = omega arith in
      let odd : 2 * suc k + 1 ≡ suc (suc (2 * k + 1)) = omega arith in
      rw (more, ltb-suc k (page_count t), odd, even) (by (ltb k (page_count t)))
    where
      by : (c : Bool) → cond c (a ∷ b ∷ set (set t (2 * k) w.word) (2 * k + 1) w.mark) (a ∷ b
          ∷ t) ≡ a ∷ b ∷ cond c (set (set t (2 * k) w.word) (2 * k + 1) w.mark) t
      by true = refl
      by false = refl

module _ (f : PageWords → PageWords) where
  pub sweep-length : (t : List ℕ) → length (sweep_of f t) ≡ length t
  sweep-length [] = refl
  sweep-length (a ∷ []) = refl
  sweep-length (a ∷ b ∷ t) = ap (λ (n : ℕ). suc (suc n)) (sweep-length t)

  -- a page of the table, and what stands behind it
  pub sweep-at : (t : List ℕ) (k : ℕ) → k < page_count t → words_at (sweep_of f t) k ≡ f (words_at t k)
  sweep-at [] k h = absurd (omega arith)
  sweep-at (a ∷ []) k h = absurd (omega arith)
  sweep-at (a ∷ b ∷ t) zero h = at_first _ _ (sweep_of f t) ∙ ap f (sym (at_first a b t))
  sweep-at (a ∷ b ∷ t) (suc k) h = at-behind _ _ (sweep_of f t) k ∙ sweep-at t k (omega arith) ∙ ap f (sym (at-behind a b t k))

  pub sweep-past : (t : List ℕ) (k : ℕ) → page_count t ≤ k → words_at (sweep_of f t) k ≡ words_at t k
  unfolding words_at
  sweep-past t k h =
      let past : ltb k (page_count t) ≡ false = le-ltb k (page_count t) h in
      rw (sweep-length t, past)

  -- how a loop comes to it: f on each of the first n pages
  abbrev pub sweep_first : ℕ → List ℕ → List ℕ
  sweep_first zero t = t
  sweep_first (suc n) t = put_at (sweep_first n t) n (f (words_at (sweep_first n t) n))

  first-behind : (n a b : ℕ) (t : List ℕ) →
      sweep_first (suc n) (a ∷ b ∷ t) ≡ (f (record { word = a; mark = b })).word ∷ (f (record { word = a; mark = b })).mark ∷ sweep_first n t
  first-behind zero a b t = put_first a b t (f (words_at (a ∷ b ∷ t) 0)) ∙ ap (λ (w : PageWords). (f w).word ∷ (f w).mark ∷ t) (at_first a b t)
  first-behind (suc n) a b t =
      let s = sweep_first n t in
      let v = f (record { word = a; mark = b }) in
      ap (λ (u : List ℕ). put_at u (suc n) (f (words_at u (suc n)))) (first-behind n a b t)
      ∙ put-behind v.word v.mark s n (f (words_at (v.word ∷ v.mark ∷ s) (suc n)))
      ∙ ap (λ (w : PageWords). v.word ∷ v.mark ∷ put_at s n (f w)) (at-behind v.word v.mark s n)

  pub sweep-first : (t : List ℕ) → sweep_first (page_count t) t ≡ sweep_of f t
  sweep-first [] = refl
  sweep-first (a ∷ []) = refl
  sweep-first (a ∷ b ∷ t) =
      let v = f (record { word = a; mark = b }) in
      ap (λ (n : ℕ). sweep_first n (a ∷ b ∷ t)) (more a b t) ∙ first-behind (page_count t) a b t ∙ ap (λ (u : List ℕ). v.word ∷ v.mark ∷ u) (sweep-first t)

-- ---- the same for any move of a page: page k afterwards is the move of page k before

pub page-swept : (f : Page → Page) → Holds f → (t : List ℕ) (k : ℕ) → k < page_count t → page_at (sweep_of (on_words f) t) k ≡ unless_strange f (page_at t k)
page-swept f g t k h =
    ap page_of (sweep-at (on_words f) t k h) ∙ page_moved f (words_at t k) (λ e. g (page_at t k) (read_held (words_at t k) e))

pub page-put : (f : Page → Page) (t : List ℕ) (i : ℕ) → i < page_count t → (strange (page_at t i) ≡ false → Held (f (page_at t i))) →
    page_at (put_at t i (on_words f (words_at t i))) i ≡ unless_strange f (page_at t i)
page-put f t i h g = ap page_of (put_same t i (on_words f (words_at t i)) h) ∙ page_moved f (words_at t i) g

-- ---- the lowest page of a kind

-- the search from page i on, of n pages
pub lowest-found : (f : Page → Bool) (n i : ℕ) (t : List ℕ) → i < n → f (page_at t i) ≡ true → lowest f (n - i) i t ≡ i
lowest-found f n i t h e =
    let more : n - i ≡ suc (n - (i + 1)) = omega arith in
    rw (more, e)

pub lowest-next : (f : Page → Bool) (n i : ℕ) (t : List ℕ) → i < n → f (page_at t i) ≡ false → lowest f (n - i) i t ≡ lowest f (n - (i + 1)) (i + 1) t
lowest-next f n i t h e =
    let more : n - i ≡ suc (n - (i + 1)) = omega arith in
    rw (more, e, add-one i)

pub lowest-end : (f : Page → Bool) (n i : ℕ) (t : List ℕ) → n ≤ i → lowest f (n - i) i t ≡ i
lowest-end f n i t h =
    let none : n - i ≡ 0 = omega arith in
    rw none

module _ (f : Page → Bool) (t : List ℕ) where
  -- below the lowest page there is none
  pub lowest-first : (n i k : ℕ) → i ≤ k → k < lowest f n i t → f (page_at t k) ≡ false
  lowest-first zero i k a b = absurd (omega arith)
  lowest-first (suc n) i k a b = go (f (page_at t i)) refl b (λ x y. lowest-first n (suc i) k x y)
    where
      go : (c : Bool) → f (page_at t i) ≡ c → k < cond c i (lowest f n (suc i) t) → (suc i ≤ k → k < lowest f n (suc i) t → f (page_at t k) ≡ false) →
          f (page_at t k) ≡ false
      go true e x r = absurd (omega (arith, x))
      go false e x r = ⊎_elim (λ q. ap (λ (j : ℕ). f (page_at t j)) (sym q) ∙ e) (λ l. r l x) (eq-or-lt_of_le a)

  pub lowest-hit : (n i : ℕ) → lowest f n i t < i + n → f (page_at t (lowest f n i t)) ≡ true
  lowest-hit zero i h = absurd (omega (arith, h))
  lowest-hit (suc n) i h = go (f (page_at t i)) refl h (λ x. lowest-hit n (suc i) x)
    where
      go : (c : Bool) → f (page_at t i) ≡ c → cond c i (lowest f n (suc i) t) < i + suc n →
          (lowest f n (suc i) t < suc i + n → f (page_at t (lowest f n (suc i) t)) ≡ true) → f (page_at t (cond c i (lowest f n (suc i) t))) ≡ true
      go true e x r = e
      go false e x r = r (omega (arith, x))

  lowest-is : (n i k : ℕ) → i ≤ k → k < i + n → f (page_at t k) ≡ true → ((j : ℕ) → i ≤ j → j < k → f (page_at t j) ≡ false) → lowest f n i t ≡ k
  lowest-is zero i k a b e h = absurd (omega arith)
  lowest-is (suc n) i k a b e h =
      ⊎_elim (λ (q : i ≡ k). let here : f (page_at t i) ≡ true = ap (λ (j : ℕ). f (page_at t j)) q ∙ e in rw here q) (λ l. rw (h i (omega arith) l) (lowest-is n (suc i) k l (omega arith) e (λ j x y. h j (omega arith) y)))
      (eq-or-lt_of_le a)

  pub lowest-none : (n i : ℕ) → ((k : ℕ) → i ≤ k → k < i + n → f (page_at t k) ≡ false) → lowest f n i t ≡ i + n
  lowest-none zero i h = omega arith
  lowest-none (suc n) i h =
      rw (h i (omega arith) (omega arith)) (lowest-none n (suc i) (λ k a b. h k (omega arith) (omega arith)) ∙ omega arith)

  -- no page, said of every page
  pub some-none : some f t ≡ false → (k : ℕ) → k < page_count t → f (page_at t k) ≡ false
  unfolding some
  some-none e k h = lowest-first (page_count t) 0 k (omega arith) (omega (arith, h, ltb-false (lowest f (page_count t) 0 t) (page_count t) e))

  pub none-some : ((k : ℕ) → k < page_count t → f (page_at t k) ≡ false) → some f t ≡ false
  unfolding some
  none-some h =
      let end : lowest f (page_count t) 0 t ≡ 0 + page_count t = lowest-none (page_count t) 0 (λ k a b. h k (omega (arith, b))) in
      le-ltb (lowest f (page_count t) 0 t) (page_count t) (omega arith)

-- a search that stops at the first page of a kind, if there is one
pub first-told : (f : Page → Bool) (t : List ℕ) (n : ℕ) (r : Option ℕ) →
    MatchOption r ((k : ℕ) → 0 ≤ k → k < n → f (page_at t k) ≡ false)
    (λ i. (0 ≤ i) × (i < n) × (f (page_at t i) ≡ true) × ((k : ℕ) → 0 ≤ k → k < i → f (page_at t k) ≡ false)) →
    r ≡ found n (lowest f n 0 t)
first-told f t n None h = rw (lowest-none f t n 0 (λ k a b. h k a (omega arith)), le-ltb (0 + n) n (omega arith))
first-told f t n (Some i) h = rw (lowest-is f t n 0 i h.0 (omega arith) h.2 h.3, lt-ltb i n h.1)

pub first-some : (f : Page → Bool) (t : List ℕ) → is_some (first_page f t) ≡ some f t
unfolding some
first-some f t = go (ltb (lowest f (page_count t) 0 t) (page_count t))
  where
    go : (b : Bool) → is_some (cond b (Some (lowest f (page_count t) 0 t)) None) ≡ b
    go true = refl
    go false = refl

pub some-lowest : (f : Page → Bool) (t : List ℕ) → some f t ≡ true → Lowest f t (lowest f (page_count t) 0 t)
unfolding some
some-lowest f t e =
    let inside : lowest f (page_count t) 0 t < page_count t = ltb-true _ _ e in
    record { inside = inside; holds = lowest-hit f t (page_count t) 0 (omega arith); first = λ k h. lowest-first f t (page_count t) 0 k (omega arith) h }
