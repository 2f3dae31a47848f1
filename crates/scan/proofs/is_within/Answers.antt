-- Past the table the sum is too large; else the difference stands for the sum.
use borrow.Author.Tests.{lt-leb}
use native.Mathlib.Omega.{arith}
use Prim.Native.Nat.{◌+◌}
use Rattle.scan.specs.Scan.{within_table}
use Rattle.scan.proofs.Laws.{leb-past, and-false}
use Rattle.scan.proofs.is_within.Goals as goal

pub returns-in-Some : goal.returns-in-Some
unfolding within_table
returns-in-Some c =
    let h = c.in-Some.ensures in
    let e = leb-past c.args.first c.args.count c.args.pages h.0 in
    cc

pub returns-in-None : goal.returns-in-None
unfolding within_table
returns-in-None c = rw (lt-leb (c.args.first + c.args.count) c.args.pages (omega (arith, c.in-None.ensures)), and-false)
