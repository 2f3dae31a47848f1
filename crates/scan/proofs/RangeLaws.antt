-- What a scan of a range makes of each page of the table: one outside it stays, and one in it stays or is listed.
use mathlib.Core.Path.{◌≡◌, refl, sym, subst, ◌∙◌}
use mathlib.Core.Logic.{◌⊎◌, inl, inr, ⊎_elim}
use mathlib.Core.Bool.{true, cond}
use mathlib.Core.List.{List, ◌++◌}
use Prim.Native.Nat.{ℕ, zero, suc, ◌+◌, ◌-◌, ◌*◌, ◌≤◌, ◌<◌}
use native.Mathlib.Omega.{arith}
use native.Mathlib.Decide.{dec_lt}
use native.Mathlib.Nat.{eq-or-lt_of_le}
use lib.Dec.{eqb}
use lib.ListN.{length, get_or, set, take, drop, length-take, length-drop, length-append, get_or-append}
use borrow.Author.Tests.{lt-ltb}
use lib.Seq.{get_or-take, get_or-drop, get_or-append-add, length_front}
use Rattle.refusals.proofs.Laws.{either}
use Rattle.page.specs.Page.{strange}
use Rattle.page.proofs.Laws.{words-stay}
use Rattle.page.specs.declared.PageWords.{PageWords}
use Rattle.table.specs.Table.{page_count, words_at, page_at, put_at}
use Rattle.table.proofs.Laws.{put-length, put_same, put_other}
use Rattle.scan.specs.Look.{listed_page, look_of, LookedAt}
use Rattle.scan.specs.Scan.{stop_code, ScanOut, scan_run, part_of, patched, range_run}
use Rattle.scan.specs.declared.Scan.{Scan}
use Rattle.scan.proofs.Laws.{part_length}

-- ---- a run on a part

-- the part after the visit of page i
abbrev visited : Scan → ℕ → List ℕ → List ℕ
visited scan i part =
    let f = look_of (words_at part i) (scan.first + i) scan.clock in
    cond f.listed (put_at part i f.words) part

visited-length : (scan : Scan) (i : ℕ) (part : List ℕ) → length (visited scan i part) ≡ length part
visited-length scan i part =
    let f = look_of (words_at part i) (scan.first + i) scan.clock in
    either (λ (p : List ℕ). length p ≡ length part) f.listed (λ h. put-length part i f.words) (λ h. refl)

visited-other : (scan : Scan) (i : ℕ) (part : List ℕ) (k : ℕ) → (k ≡ i → ⊥) → words_at (visited scan i part) k ≡ words_at part k
visited-other scan i part k n =
    let f = look_of (words_at part i) (scan.first + i) scan.clock in
    either (λ (p : List ℕ). words_at p k ≡ words_at part k) f.listed (λ h. put_other part i k f.words n) (λ h. refl)

visited-same : (scan : Scan) (i : ℕ) (part : List ℕ) → i < page_count part →
    LookedAt (scan.first + i) scan.clock (words_at part i) (words_at (visited scan i part) i)
visited-same scan i part b =
    let f = look_of (words_at part i) (scan.first + i) scan.clock in
    either (λ (p : List ℕ). LookedAt (scan.first + i) scan.clock (words_at part i) (words_at p i)) f.listed (λ h. inr (h, put_same part i f.words b))
    (λ h. inl refl)

pub run_length : (n : ℕ) (scan : Scan) (i put : ℕ) (part list : List ℕ) → length (scan_run n scan i put part list).part ≡ length part
unfolding scan_run
run_length zero scan i put part list = refl
run_length (suc n) scan i put part list =
    let f = look_of (words_at part i) (scan.first + i) scan.clock in
    either (λ (o : ScanOut). length o.part ≡ length part) (eqb (stop_code scan f.blocked f.listed i put (length list)) 0)
    (λ e. run_length n scan (i + 1) _ (visited scan i part) _ ∙ visited-length scan i part)
    (λ e. refl)

-- a page that the run has passed stays
run-passed : (n : ℕ) (scan : Scan) (i put : ℕ) (part list : List ℕ) (k : ℕ) → k < i → words_at (scan_run n scan i put part list).part k ≡ words_at part k
unfolding scan_run
run-passed zero scan i put part list k h = refl
run-passed (suc n) scan i put part list k h =
    let f = look_of (words_at part i) (scan.first + i) scan.clock in
    either (λ (o : ScanOut). words_at o.part k ≡ words_at part k) (eqb (stop_code scan f.blocked f.listed i put (length list)) 0)
    (λ e. run-passed n scan (i + 1) _ (visited scan i part) _ k (omega arith) ∙ visited-other scan i part k (λ q. omega arith))
    (λ e. refl)

-- a page that lies before it stays or is listed
run-page : (n : ℕ) (scan : Scan) (i put : ℕ) (part list : List ℕ) (k : ℕ) → i ≤ k → k < page_count part →
    LookedAt (scan.first + k) scan.clock (words_at part k) (words_at (scan_run n scan i put part list).part k)
unfolding scan_run
run-page zero scan i put part list k a b = inl refl
run-page (suc n) scan i put part list k a b =
    let f = look_of (words_at part i) (scan.first + i) scan.clock in
    let p = visited scan i part in
    let put' = cond f.listed (put + 1) put in
    let list' = cond f.listed (set list put f.word) list in
    let size : length p ≡ length part = visited-length scan i part in
    either (λ (o : ScanOut). LookedAt (scan.first + k) scan.clock (words_at part k) (words_at o.part k))
    (eqb (stop_code scan f.blocked f.listed i put (length list)) 0)
    (λ e.
    ⊎_elim
    (λ q.
    subst (λ (j : ℕ). LookedAt (scan.first + j) scan.clock (words_at part j) (words_at (scan_run n scan (i + 1) put' p list').part j)) q
    (subst (λ (w : PageWords). LookedAt (scan.first + i) scan.clock (words_at part i) w) (sym (run-passed n scan (i + 1) put' p list' i (omega arith)))
    (visited-same scan i part (omega arith))))
    (λ l.
    subst (λ (w : PageWords). LookedAt (scan.first + k) scan.clock w (words_at (scan_run n scan (i + 1) put' p list').part k))
    (visited-other scan i part k (λ q. omega arith))
    (run-page n scan (i + 1) put' p list' k (omega arith) (rw size b)))
    (eq-or-lt_of_le a))
    (λ e. inl refl)

-- ---- a part of the table

-- pages of equal words
words-by : (t u : List ℕ) (k j : ℕ) → k < page_count t → j < page_count u → get_or t (2 * k) 0 ≡ get_or u (2 * j) 0 → get_or t (2 * k + 1) 0 ≡ get_or u (2 * j + 1) 0 →
    words_at t k ≡ words_at u j
unfolding words_at
words-by t u k j a b x y = rw (lt-ltb k (page_count t) a, lt-ltb j (page_count u) b, x, y)

words_same : (t u : List ℕ) (k : ℕ) → length t ≡ length u → get_or t (2 * k) 0 ≡ get_or u (2 * k) 0 → get_or t (2 * k + 1) 0 ≡ get_or u (2 * k + 1) 0 →
    words_at t k ≡ words_at u k
unfolding words_at
words_same t u k e x y = rw (e, x, y)

-- a part of the same length goes back
pub patched-length : (t : List ℕ) (first count : ℕ) (p : List ℕ) → length p ≡ length (part_of t first count) → length (patched t first count p) ≡ length t
patched-length t first count p e =
    let rest = drop (2 * first) t in
    let back : length (p ++ drop (2 * count) rest) ≡ length rest = length_front rest p (2 * count) e in
    rw (length-append, back) (simp (length-take, length-drop) (omega arith))

-- the words of each page then, those of the part and those around it
module _ (t : List ℕ) (first count : ℕ) (p : List ℕ) (h : 2 * first + 2 * count ≤ length t) (e : length p ≡ 2 * count) where
  front : length (take (2 * first) t) ≡ 2 * first
  front = simp length-take (omega arith)

  below : (j : ℕ) → j < 2 * first → get_or (patched t first count p) j 0 ≡ get_or t j 0
  below j l = get_or-append (take (2 * first) t) (p ++ drop (2 * count) (drop (2 * first) t)) 0 j (rw front l) ∙ get_or-take (2 * first) t j 0 l

  rest : (m : ℕ) → get_or (patched t first count p) (2 * first + m) 0 ≡ get_or (p ++ drop (2 * count) (drop (2 * first) t)) m 0
  rest m =
      subst (λ (x : ℕ). get_or (patched t first count p) (x + m) 0 ≡ get_or (p ++ drop (2 * count) (drop (2 * first) t)) m 0) front
      (get_or-append-add (take (2 * first) t) (p ++ drop (2 * count) (drop (2 * first) t)) m 0)

  inside : (m : ℕ) → m < 2 * count → get_or (patched t first count p) (2 * first + m) 0 ≡ get_or p m 0
  inside m l = rest m ∙ get_or-append p (drop (2 * count) (drop (2 * first) t)) 0 m (rw e l)

  above : (j : ℕ) → 2 * first + 2 * count ≤ j → get_or (patched t first count p) j 0 ≡ get_or t j 0
  above j l =
      let m : ℕ = j - (2 * first + 2 * count) in
      let there : 2 * first + (2 * count + m) ≡ j = omega arith in
      let down : get_or (p ++ drop (2 * count) (drop (2 * first) t)) (2 * count + m) 0 ≡ get_or t (2 * first + (2 * count + m)) 0
      = subst (λ (x : ℕ). get_or (p ++ drop (2 * count) (drop (2 * first) t)) (x + m) 0 ≡ get_or t (2 * first + (2 * count + m)) 0) e
      (get_or-append-add p (drop (2 * count) (drop (2 * first) t)) m 0 ∙ get_or-drop (2 * count) (drop (2 * first) t) m 0
      ∙ get_or-drop (2 * first) t (2 * count + m) 0) in
      subst (λ (x : ℕ). get_or (patched t first count p) x 0 ≡ get_or t x 0) there (rest (2 * count + m) ∙ down)

  size : length (patched t first count p) ≡ length t
  size = patched-length t first count p (e ∙ sym (part_length t first count h))

  pub patched-below : (k : ℕ) → k < first → words_at (patched t first count p) k ≡ words_at t k
  patched-below k l = words_same (patched t first count p) t k size (below (2 * k) (omega arith)) (below (2 * k + 1) (omega arith))

  pub patched-above : (k : ℕ) → first + count ≤ k → words_at (patched t first count p) k ≡ words_at t k
  patched-above k l = words_same (patched t first count p) t k size (above (2 * k) (omega arith)) (above (2 * k + 1) (omega arith))

  pub patched_in : (m : ℕ) → m < count → words_at (patched t first count p) (first + m) ≡ words_at p m
  patched_in m l =
      let e₀ : 2 * (first + m) ≡ 2 * first + 2 * m = omega arith in
      let e₁ : 2 * (first + m) + 1 ≡ 2 * first + (2 * m + 1) = omega arith in
      words-by (patched t first count p) p (first + m) m (rw size (omega arith)) (rw e (omega arith))
      (rw e₀ (inside (2 * m) (omega arith)))
      (rw e₁ (inside (2 * m + 1) (omega arith)))

-- the part's pages are the table's
pub part_in : (t : List ℕ) (first count : ℕ) → 2 * first + 2 * count ≤ length t → (m : ℕ) → m < count → words_at (part_of t first count) m ≡ words_at t (first + m)
part_in t first count h m l =
    let e₀ : 2 * (first + m) ≡ 2 * first + 2 * m = omega arith in
    let e₁ : 2 * (first + m) + 1 ≡ 2 * first + (2 * m + 1) = omega arith in
    words-by (part_of t first count) t m (first + m) (rw (part_length t first count h) (omega arith)) (omega arith)
    (rw e₀ (get_or-take (2 * count) (drop (2 * first) t) (2 * m) 0 (omega arith) ∙ get_or-drop (2 * first) t (2 * m) 0))
    (rw e₁ (get_or-take (2 * count) (drop (2 * first) t) (2 * m + 1) 0 (omega arith) ∙ get_or-drop (2 * first) t (2 * m + 1) 0))

-- ---- the range

pub range_length : (count : ℕ) (scan : Scan) (t l : List ℕ) → length (range_run count scan t l).part ≡ length t
unfolding range_run
range_length count scan t l =
    patched-length t scan.first count (scan_run count scan 0 0 (part_of t scan.first count) l).part
    (run_length count scan 0 0 (part_of t scan.first count) l)

module _ (count : ℕ) (scan : Scan) (t l : List ℕ) (fits : 2 * scan.first + 2 * count ≤ length t) where
  abbrev run : List ℕ
  run = (scan_run count scan 0 0 (part_of t scan.first count) l).part

  run-size : length run ≡ 2 * count
  run-size = run_length count scan 0 0 (part_of t scan.first count) l ∙ part_length t scan.first count fits

  -- a page outside the range keeps its words
  pub range-out : (k : ℕ) → (k < scan.first) ⊎ (scan.first + count ≤ k) → words_at (range_run count scan t l).part k ≡ words_at t k
  unfolding range_run
  range-out k out = ⊎_elim (λ b. patched-below t scan.first count run fits run-size k b) (λ a. patched-above t scan.first count run fits run-size k a) out

  -- a page of the range keeps them or is listed
  range-in : (m : ℕ) → m < count → LookedAt (scan.first + m) scan.clock (words_at t (scan.first + m)) (words_at (range_run count scan t l).part
      (scan.first + m))
  unfolding range_run
  range-in m b =
      rw (patched_in t scan.first count run fits run-size m b, ← part_in t scan.first count fits m b)
      (run-page count scan 0 0 (part_of t scan.first count) l m (omega arith) (rw (part_length t scan.first count fits) (omega arith)))

  -- so every page does
  pub range-page : (k : ℕ) → LookedAt k scan.clock (words_at t k) (words_at (range_run count scan t l).part k)
  range-page k = go (dec_lt k scan.first) (dec_lt k (scan.first + count))
    where
      go : Dec (k < scan.first) → Dec (k < scan.first + count) → LookedAt k scan.clock (words_at t k) (words_at (range_run count scan t l).part k)
      go (yes b) d = inl (range-out k (inl b))
      go (no b) (yes d) =
          let there : scan.first + (k - scan.first) ≡ k = omega (arith, b) in
          subst (λ (j : ℕ). LookedAt j scan.clock (words_at t j) (words_at (range_run count scan t l).part j)) there
          (range-in (k - scan.first) (omega (arith, b, d)))
      go (no b) (no d) = inl (range-out k (inr (omega (arith, d))))

  -- a strange page keeps its words
  pub range-strange : (k : ℕ) → strange (page_at t k) ≡ true → words_at (range_run count scan t l).part k ≡ words_at t k
  unfolding look_of
  range-strange k s = ⊎_elim (λ same. same) (λ seen. seen.1 ∙ words-stay (listed_page scan.clock) (words_at t k) s) (range-page k)
