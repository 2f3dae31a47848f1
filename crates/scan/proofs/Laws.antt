-- What the proofs of the scans cite: the turns of a run, and where a scan that is not refused lies in the table.
use mathlib.Core.Path.{◌≡◌, refl, sym, ap}
use mathlib.Core.Bool.{Bool, true, false, cond, ◌&&◌}
use mathlib.Core.List.{List, [], ◌∷◌}
use Rattle.std.proofs.Common.{None, Some}
use Prim.Native.Nat.{ℕ, suc, ◌+◌, ◌-◌, ◌*◌, ◌/◌, ◌≤◌, ◌<◌}
use native.Mathlib.Omega.{arith}
use lib.ListN.{length, set, length-take, length-drop}
use lib.Dec.{leb}
use borrow.Author.Tests.{le-leb, lt-leb, leb-true, leb-false}
use Rattle.refusals.specs.Refusals.{ending_number}
use Rattle.refusals.specs.declared.Ending.{Ending}
use Rattle.refusals.proofs.Laws.{passed, and_right, not-false}
use Rattle.page.specs.Page.{page_of, blocked, on_words}
use Rattle.page.specs.declared.PageWords.{PageWords}
use Rattle.table.specs.Table.{most_pages, words_at, put_at}
use Rattle.session.specs.Formed.{gated, behind}
use Rattle.session.specs.declared.Phase.TheVariants.{Live, Blackout}
use Rattle.session.specs.declared.Session.{Session}
use Rattle.session.proofs.Laws.{gate-first, gate-open}
use Rattle.session.proofs.FormedLaws.{formed-means}
use Rattle.scan.specs.Look.{listed, listed_word, listed_page, look_of}
use Rattle.scan.specs.Scan.{stop_tests, stop_code, Stops, end_code, ScanOut, stop, scan_run, part_of, within_table, dscan_tests, dscan_code}
use Rattle.scan.specs.Scan.{dcheck_tests, dcheck_code}
use Rattle.scan.specs.declared.Scan.{Scan}

-- ---- a turn of the run

-- where the page is visited, the list has room for it
pub stop-room : (scan : Scan) (b l : Bool) (i put room : ℕ) → stop_code scan b l i put room ≡ 0 → l ≡ true → put < room
unfolding stop_code
stop-room scan b l i put room e h = leb-false room put (rw h at (passed (stop_tests scan b l i put room) refl e).1.1.0)

-- a page that is left is one more than those left after it
more : (n i : ℕ) → i < n → n - i ≡ suc (n - (i + 1))
more n i h = omega arith

module _ (n : ℕ) (scan : Scan) (i put : ℕ) (part list : List ℕ) (w : PageWords) (b l : Bool) (inside : i < n) (loaded : w ≡ words_at part i)
    (shut : b ≡ blocked (page_of w)) (found : l ≡ listed (page_of w)) where
  -- what stops a scan ends the run
  pub scan-stops : (e : Ending) → Stops (stop_code scan b l i put (length list)) (Some e) →
      scan_run (n - i) scan i put part list ≡ stop (ending_number e) (scan.first + i) put part list
  unfolding scan_run look_of
  scan-stops e s = rw (more n i inside, ← loaded, ← shut, ← found, s.1, s.0)

  -- where nothing does it goes on to the next page
  pub scan-visits : Stops (stop_code scan b l i put (length list)) None →
      scan_run (n - i) scan i put part list ≡ scan_run (n - (i + 1)) scan (i + 1) (cond l (put + 1) put) (cond l
      (put_at part i (on_words (listed_page scan.clock) w)) part) (cond l (set list put (listed_word (page_of w).state (scan.first + i))) list)
  unfolding scan_run look_of
  scan-visits s = rw (more n i inside, ← loaded, ← shut, ← found, s)

-- past the last page
pub scan-ends : (n : ℕ) (scan : Scan) (i put : ℕ) (part list : List ℕ) (code : ℕ) → i ≤ n → n ≤ i → code ≡ end_code scan.checking →
    scan_run (n - i) scan i put part list ≡ stop code (scan.first + n) put part list
unfolding scan_run
scan-ends n scan i put part list code h k e =
    let none : n - i ≡ 0 = omega arith in
    let last : i ≡ n = omega arith in
    rw (none, last, e)

-- what a run leaves, one by one
pub parts : {o o' : ScanOut} → o ≡ o' → (o.scanned ≡ o'.scanned) × ((o.part ≡ o'.part) × (o.list ≡ o'.list))
parts e = (ap (λ (x : ScanOut). x.scanned) e, (ap (λ (x : ScanOut). x.part) e, ap (λ (x : ScanOut). x.list) e))

-- ---- the code, told that of the gate

pub dscan-told : (s : Session) (len room first count gate : ℕ) → gate ≡ gated s len (Live ∷ []) [] →
    behind gate (dscan_tests s room first count) ≡ dscan_code s len room first count
unfolding dscan_code
dscan-told s len room first count gate e = rw (e, ← gate-first s len (Live ∷ []) (dscan_tests s room first count))

pub dcheck-told : (s : Session) (len room gate : ℕ) → gate ≡ gated s len (Blackout ∷ []) [] → behind gate (dcheck_tests s room) ≡ dcheck_code s len room
unfolding dcheck_code
dcheck-told s len room gate e = rw (e, ← gate-first s len (Blackout ∷ []) (dcheck_tests s room))

-- ---- where a scan lies in the table

-- a part of `count` pages has two words for each
pub part_length : (t : List ℕ) (first count : ℕ) → 2 * first + 2 * count ≤ length t → length (part_of t first count) ≡ 2 * count
part_length t first count h = simp (length-take, length-drop) (omega arith)

pub part-pages : (t : List ℕ) (first count : ℕ) → 2 * first + 2 * count ≤ length t → length (part_of t first count) / 2 ≡ count
part-pages t first count h = rw (part_length t first count h) (omega arith)

-- the code's test, which no sum overflows, is the definition's
pub leb-past : (first count pages : ℕ) → first ≤ pages → leb count (pages - first) ≡ leb (first + count) pages
leb-past first count pages h = go (leb count (pages - first)) refl
  where
    go : (b : Bool) → leb count (pages - first) ≡ b → b ≡ leb (first + count) pages
    go true e = let k : count ≤ pages - first = leb-true _ _ e in sym (le-leb (first + count) pages (omega arith))
    go false e = let k : pages - first < count = leb-false _ _ e in sym (lt-leb (first + count) pages (omega arith))

-- a test that fails, after any other
pub and-false : (b : Bool) → (b && false) ≡ false
and-false true = refl
and-false false = refl

-- `count` pages from `first` on are the table's, which is not too long: what `scan_range` requires
abbrev pub Fits : ℕ → ℕ → ℕ → Type 0
Fits len first count = (2 * first + 2 * count ≤ len) × (len ≤ 2 * most_pages)

-- so are those of a DSCAN that is not refused
pub dscan-fits : (s : Session) (len room first count : ℕ) → dscan_code s len room first count ≡ 0 → Fits len first count
unfolding dscan_code within_table
dscan-fits s len room first count e =
    let o = gate-open s len (Live ∷ []) (dscan_tests s room first count) refl e in
    let f = formed-means s len o.formed in
    let w = not-false (within_table first count s.fixed.pages) o.passed.0 in
    let inside : first + count ≤ s.fixed.pages = leb-true _ _ (and_right (leb 1 count) (leb (first + count) s.fixed.pages) w) in
    let ours : len / 2 ≡ s.fixed.pages = f.ours in
    (omega arith, f.most)

-- and those from the session's place to the end, in a DCHECK that is not refused
pub dcheck-fits : (s : Session) (len room : ℕ) → dcheck_code s len room ≡ 0 →
    (s.check.place ≤ s.fixed.pages) × Fits len s.check.place (s.fixed.pages - s.check.place)
unfolding dcheck_code
dcheck-fits s len room e =
    let o = gate-open s len (Blackout ∷ []) (dcheck_tests s room) refl e in
    let f = formed-means s len o.formed in
    let place : s.check.place ≤ s.fixed.pages = f.place in
    let ours : len / 2 ≡ s.fixed.pages = f.ours in
    (place, (omega arith, f.most))
