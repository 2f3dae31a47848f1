use mathlib.Core.Path.{◌≡◌}
use Prim.Native.Nat.{◌-◌}
use Rattle.table.specs.Table.{page_count}
use Rattle.scan.specs.Scan.{scan_run}
use Rattle.scan.proofs.scan_part.Given as goal

abbrev pub invariant-loop-i : goal.invariant-loop-i
invariant-loop-i g l = let words = g.T.Form.words in
    scan_run (l.n - l.i) l.scan l.i l.put (words l.part) (words l.list) ≡ scan_run (page_count (words l.initial.part)) l.scan 0 0 (words l.initial.part) (words l.initial.list)
