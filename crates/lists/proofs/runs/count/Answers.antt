-- No count passes the next index, so each has room for one more.
use native.Mathlib.Omega.{arith}
use Rattle.lists.specs.Run.{counted}
use Rattle.lists.proofs.runs.count.Goals as goal

pub count_if-errors-requires : goal.count_if-errors-requires
count_if-errors-requires c = omega (arith, c.requires.0, c.requires.1)

pub count_if-filled-requires : goal.count_if-filled-requires
count_if-filled-requires c = omega (arith, c.requires.0, c.requires.2)

pub overflow_add-result : goal.overflow_add-result
overflow_add-result c = omega (arith, c.requires.0)

pub returns : goal.returns
unfolding counted
returns c = rw (c.count_if-errors.ensures, c.count_if-filled.ensures)
