-- The part of the bytes is the bytes of the definition's part of the words, which has `count` pages; and what becomes of it goes back to its place.
use borrow.Author.Rules.{rules}
use mathlib.Core.Path.{◌≡◌, refl, ◌∙◌}
use mathlib.Core.List.{List, ◌++◌}
use Prim.Native.Nat.{ℕ, ◌+◌, ◌-◌, ◌*◌, ◌≤◌}
use native.Mathlib.Omega.{arith}
use lib.ListN.{length, take, drop, length-take, length-drop}
use Rattle.table.specs.Table.{most_pages, page_count}
use Rattle.scan.specs.Scan.{Scanned, scan_run, part_of, range_run}
use Rattle.scan.specs.declared.Scan.{Scan}
use Rattle.wire.specs.Bytes.{words_of, bytes_of, Bytes}
use Rattle.wire.proofs.BytesLaws.{page-count, words-part, bytes-part}
use Rattle.in_place.proofs.Laws.{Whole, whole-as, written, bytes-between}
use Rattle.in_place.proofs.scans.scan_range.Goals as goal

back : (a b : ℕ) → a + b - a ≡ b
back a b = omega arith

-- a page is sixteen bytes, and two words of eight
sixteen : (n : ℕ) → 16 * n ≡ 8 * (2 * n)
sixteen n = omega arith

few : (t : List ℕ) (from n count : ℕ) (scan : Scan) → n ≡ 16 * count → 16 * scan.first + 16 * count ≤ length t → length t ≤ 16 * most_pages →
    scan.first + page_count (words_of (take n (drop from t))) ≤ most_pages
few t from n count scan pages inside most =
    let short : length (take n (drop from t)) ≤ n = simp length-take (omega arith) in
    rw (page-count (take n (drop from t))) (omega arith)

-- what a run leaves of the part is what the definition leaves of the whole
part-run : (t : List ℕ) (from n count : ℕ) (scan : Scan) → n ≡ 16 * count → 16 * scan.first + 16 * count ≤ length t → from ≡ 16 * scan.first → Whole t →
    (s : Scanned) (p l m : List ℕ) → let part = take n (drop from t) in
    length p ≡ length part → Bytes (take from t ++ (p ++ drop n (drop from t))) → Whole m →
    let o = scan_run (page_count (words_of part)) scan 0 0 (words_of part) l in
    let r = range_run count scan (words_of t) l in
    s ≡ o.scanned → words_of p ≡ o.part → words_of m ≡ o.list →
    (s ≡ r.scanned) × ((take from t ++ (p ++ drop n (drop from t)) ≡ bytes_of r.part) × (m ≡ bytes_of r.list))
unfolding range_run
part-run t from n count scan pages inside first whole s p l m size bytes list e₀ e₁ e₂ =
    let part = take n (drop from t) in
    let long : length part ≡ 16 * count = rw (first, pages) (simp (length-take, length-drop) (omega arith)) in
    let all : page_count (words_of part) ≡ count = page-count part ∙ rw long (omega arith) in
    let words : words_of part ≡ part_of (words_of t) scan.first count =
    rw (first, pages, sixteen count, sixteen scan.first) (words-part t (2 * scan.first) (2 * count) whole.bytes whole.words) in
    let part-whole : Whole p = record { bytes = bytes-between (take from t) p (drop n (drop from t)) bytes; words = rw (size, long) (omega arith) } in
    let q = (scan_run count scan 0 0 (part_of (words_of t) scan.first count) l).part in (
      rw (all, words) at e₀,
      (
        rw (written p part-whole (rw (all, words) at e₁))
            (rw (first, pages, sixteen count, sixteen scan.first) (bytes-part t (2 * scan.first) (2 * count) whole.bytes whole.words q)),
        written m list (rw (all, words) at e₂),
      ),
    )

pub scan_part-requires : goal.scan_part-requires
scan_part-requires c = few c.args.table.now _ _ c.args.count c.args.scan (back _ _) c.requires.count_in_bounds.0 c.requires.count_in_bounds.1

pub returns : goal.returns
returns c =
    let a = c.args in
    let did = c.scan_part.ensures in
    let whole : Whole a.table.now = record { bytes = search rules; words = c.requires.table_len.0 } in
    let list = whole-as _ _ c.scan_part.auto.list (record { bytes = search rules; words = c.requires.table_len.1 }) (λ i. (c.type_inv.list i).fits) in
    let all =
    part-run a.table.now _ _ a.count a.scan (back _ _) c.requires.count_in_bounds.0 refl whole _ c.scan_part.new.part (words_of a.list.now) _ c.scan_part.auto.part
    (λ i. (c.type_inv.table i).fits) list did.value did.part_after did.list_after in
    record {
      value = all.0;
      table_after = all.1.0;
      list_after = all.1.1;
    }
