-- A scan, page by page: it writes entries' words into the list and records' words into the table, and comes no further than its end.
use mathlib.Core.Path.{◌≡◌, refl, ◌∙◌}
use mathlib.Core.List.{List, ◌++◌}
use Prim.Native.Nat.{ℕ, zero, suc, ◌+◌, ◌*◌, ◌≤◌}
use native.Mathlib.Omega.{arith}
use lib.Dec.{eqb}
use lib.ListN.{length, set, take, drop, length-set}
use Rattle.words.proofs.EntryLaws.{entry_lt}
use Rattle.refusals.proofs.Laws.{either}
use Rattle.page.specs.declared.Clock.{Clock}
use Rattle.page.specs.declared.PageWords.{PageWords}
use Rattle.table.specs.Table.{words_at, put_at}
use Rattle.scan.specs.Look.{listed_word, listed_page, look_of}
use Rattle.scan.specs.Scan.{stop_code, ScanOut, scan_run, part_of, range_run}
use Rattle.scan.specs.declared.Scan.{Scan}
use Rattle.wire.specs.Bytes.{Words}
use Rattle.wire.specs.Promises.{Word}
use Rattle.wire.proofs.BytesLaws.{words-set, put_small}
use Rattle.rehearsal.proofs.Words.{take_words, drop-words, append-words}
use Rattle.rehearsal.proofs.Pages.{TwoWords, words-at, on-words, listed-keeps}

pub record Scans (end most room : ℕ) (o : ScanOut) : Type 0 where
  pub next : o.scanned.next ≤ end
  pub put : o.scanned.put ≤ most
  pub part : Words o.part
  pub list : Words o.list
  pub long : length o.list ≡ room

look-word : (w : PageWords) (number : ℕ) (clock : Clock) → Word (look_of w number clock).word
unfolding look_of listed_word
look-word w number clock = entry_lt _

look-words : (w : PageWords) (number : ℕ) (clock : Clock) → TwoWords w → TwoWords (look_of w number clock).words
unfolding look_of
look-words w number clock h = on-words (listed_page clock) (listed-keeps clock) w h

-- a run of n pages, from page i of its part and word `put` of the list on
run_small : (n : ℕ) (scan : Scan) (i put : ℕ) (part list : List ℕ) → Words part → Words list →
    Scans (scan.first + i + n) (put + n) (length list) (scan_run n scan i put part list)
unfolding scan_run
run_small zero scan i put part list p l = record { next = omega arith; put = omega arith; part = p; list = l; long = refl }
run_small (suc n) scan i put part list p l =
    let f = look_of (words_at part i) (scan.first + i) scan.clock in
    let two = look-words (words_at part i) (scan.first + i) scan.clock (words-at part i p) in
    either (Scans (scan.first + i + suc n) (put + suc n) (length list)) (eqb (stop_code scan f.blocked f.listed i put (length list)) 0)
    (λ e.
    let more = either (λ (k : ℕ). k ≤ put + 1) f.listed {x = put + 1} {y = put} (λ q. omega arith) (λ q. omega arith) in
    let part' = either Words f.listed {x = put_at part i f.words} {y = part} (λ q. put_small part i f.words p two.word two.mark) (λ q. p) in
    let list' = either Words f.listed {x = set list put f.word} {y = list}
    (λ q. words-set list put f.word l (look-word (words_at part i) (scan.first + i) scan.clock)) (λ q. l) in
    let long = either (λ (r : List ℕ). length r ≡ length list) f.listed {x = set list put f.word} {y = list} (λ q. length-set list put f.word)
    (λ q. refl) in
    let r = run_small n scan (i + 1) _ _ _ part' list' in
    record { next = omega (arith, r.next); put = omega (arith, r.put, more); part = r.part; list = r.list; long = r.long ∙ long })
    (λ e. record { next = omega arith; put = omega arith; part = p; list = l; long = refl })

-- a run over a range of the table
pub range_small : (count : ℕ) (scan : Scan) (t l : List ℕ) → Words t → Words l → Scans (scan.first + count) count (length l) (range_run count scan t l)
unfolding range_run
range_small count scan t l h k =
    let first = scan.first in
    let part = take_words (2 * count) (drop (2 * first) t) (drop-words (2 * first) t h) in
    let r = run_small count scan 0 0 (part_of t first count) l part k in
    let behind = drop (2 * count) (drop (2 * first) t) in
    record {
      next = omega (arith, r.next);
      put = omega (arith, r.put);
      part =
          append-words (take (2 * first) t) ((scan_run count scan 0 0 (part_of t first count) l).part ++ behind) (take_words (2 * first) t h)
          (append-words (scan_run count scan 0 0 (part_of t first count) l).part behind r.part
          (drop-words (2 * count) (drop (2 * first) t) (drop-words (2 * first) t h)));
      list = r.list;
      long = r.long;
    }
