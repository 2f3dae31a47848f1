-- A flag adds 1 at most.
use native.Mathlib.Omega.{arith}
use Rattle.words.proofs.Runs.{bit-lt}
use Rattle.lists.proofs.runs.count_if.Goals as goal

pub overflow_add-result : goal.overflow_add-result
overflow_add-result c = omega (arith, bit-lt c.args.flag, c.requires)
