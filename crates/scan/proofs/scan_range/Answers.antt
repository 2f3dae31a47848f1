-- The part has `count` pages, and its run is that of the definition.
use Rattle.scan.specs.Scan.{patched, range_run}
use Rattle.scan.proofs.Laws.{part-pages}
use native.Mathlib.Omega.{arith}
use mathlib.Core.Path.{◌≡◌, ap}
use Prim.Native.Nat.{ℕ, ◌+◌, ◌-◌, ◌*◌}
use Rattle.scan.proofs.scan_range.Goals as goal

back : (a b : ℕ) → a + b - a ≡ b
back a b = omega arith

pub returns : goal.returns
unfolding range_run
returns c =
    let a = c.args in
    let k = back (2 * a.scan.first) (2 * a.count) in
    let half = part-pages a.table.now a.scan.first a.count c.requires.0 in
    record {
      value = rw (k, half) at c.scan_part.ensures.value;
      table_after = rw k (ap (patched a.table.now a.scan.first a.count) (rw (k, half) at c.scan_part.ensures.part_after));
      list_after = rw (k, half) at c.scan_part.ensures.list_after;
    }
