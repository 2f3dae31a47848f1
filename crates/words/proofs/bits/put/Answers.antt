-- The run cleared by a mask, and a number that fits put there.
use Prim.Native.Nat.{◌%◌}
use native.Mathlib.Omega.{arith}
use Rattle.words.proofs.RunCode.{put-code}
use Rattle.words.proofs.bits.put.Goals as goal

pub returns : goal.returns
returns g c =
    let hi = g.row.HI % 64 in
    let lo = g.row.LO % 64 in
    rw c.placed-2.ensures
    (put-code c.args.w hi lo c.placed.result c.args.v (omega arith) (omega arith) c.ranges.w.fits c.placed.ensures)
