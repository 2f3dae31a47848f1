-- The 64 ones, shifted down to those of bits HI:0, and then to those of bits HI:LO.
use Prim.Native.Nat.{◌%◌}
use native.Mathlib.Omega.{arith}
use Rattle.words.proofs.RunCode.{ones-code}
use Rattle.words.proofs.bits.ones.Goals as goal

pub returns : goal.returns
returns g c = ones-code (g.row.HI % 64) (g.row.LO % 64) (omega arith)
