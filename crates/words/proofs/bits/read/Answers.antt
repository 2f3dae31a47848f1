-- A mask of ones keeps the low bits.
use Prim.Native.Nat.{◌+◌, ◌-◌, ◌/◌, ◌%◌, ◌^◌}
use Rattle.words.proofs.RunCode.{mask-low}
use Rattle.words.proofs.bits.read.Goals as goal

pub returns : goal.returns
returns g c = mask-low (c.args.w / 2 ^ (g.row.LO % 64)) (g.row.HI % 64 + 1 - g.row.LO % 64) c.ones.ensures
