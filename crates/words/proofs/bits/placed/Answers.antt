-- The number masked has no bit that the shift could lose.
use Prim.Native.Nat.{◌%◌}
use native.Mathlib.Omega.{arith}
use Rattle.words.proofs.RunCode.{placed-exact}
use Rattle.words.proofs.bits.placed.Goals as goal

pub returns : goal.returns
returns g c = placed-exact c.args.v (g.row.HI % 64) (g.row.LO % 64) (omega arith) (omega arith) c.ones.ensures
