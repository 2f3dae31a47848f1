-- The table: two words a page.
use Rattle.std.specs.Prelude.{◌≡◌, Bool, true, false, cond, not, ◌&&◌, List, [], ◌∷◌, ℕ, zero, suc, ◌+◌, ◌*◌, ◌/◌, ◌%◌, ◌<◌, length, get_or, set, eqb, ltb, leb, Option, Some, None}
use Rattle.page.specs.Page.{Page, page_of}
use Rattle.page.specs.declared.PageWords.{PageWords}

-- the largest guest
abbrev pub most_pages : ℕ
most_pages = 4096

-- neither odd, nor 0, nor above 8,192
unfoldable pub legal : ℕ → Bool
legal len = eqb (len % 2) 0 && not (eqb len 0) && leb len (2 * most_pages)

abbrev pub page_count : List ℕ → ℕ
page_count t = length t / 2

-- page i's two words; past the end, zeros
unfoldable pub words_at : List ℕ → ℕ → PageWords
words_at t i = cond (ltb i (page_count t)) (record { word = get_or t (2 * i) 0; mark = get_or t (2 * i + 1) 0 }) (record { word = 0; mark = 0 })

abbrev pub page_at : List ℕ → ℕ → Page
page_at t i = page_of (words_at t i)

-- the table with two words for page i; past the end, as it was
unfoldable pub put_at : List ℕ → ℕ → PageWords → List ℕ
put_at t i w = cond (ltb i (page_count t)) (set (set t (2 * i) w.word) (2 * i + 1) w.mark) t

-- each page becomes f of that page (a last word without a second is none)
abbrev pub sweep_of : (PageWords → PageWords) → List ℕ → List ℕ
sweep_of f [] = []
sweep_of f (word ∷ []) = word ∷ []
sweep_of f (word ∷ mark ∷ t) = let w = f (record { word = word; mark = mark }) in w.word ∷ w.mark ∷ sweep_of f t

-- the lowest of n pages from i on of which f holds; i + n where there is none
abbrev pub lowest : (Page → Bool) → ℕ → ℕ → List ℕ → ℕ
lowest f zero i t = i
lowest f (suc n) i t = cond (f (page_at t i)) i (lowest f n (suc i) t)

-- a page of so many, as the end of a search; none where it is past the last
abbrev pub found : ℕ → ℕ → Option ℕ
found pages page = cond (ltb page pages) (Some page) None

-- the lowest page of which f holds, if there is one
abbrev pub first_page : (Page → Bool) → List ℕ → Option ℕ
first_page f t = found (page_count t) (lowest f (page_count t) 0 t)

-- f holds of some page
unfoldable pub some : (Page → Bool) → List ℕ → Bool
some f t = ltb (lowest f (page_count t) 0 t) (page_count t)

-- page i is the lowest of its kind
pub record Lowest (f : Page → Bool) (t : List ℕ) (i : ℕ) : Type 0 where
  pub inside : i < page_count t
  pub holds : f (page_at t i) ≡ true
  pub first : (k : ℕ) → k < i → f (page_at t k) ≡ false
