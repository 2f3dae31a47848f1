-- What is summed so far, with what is left added to it, is the whole sum.
use Rattle.std.proofs.Common.{◌≡◌, drop}
use Rattle.measured.specs.Measured.{summed, classes_sum}
use Rattle.measured.proofs.measured_classes.Given as goal

abbrev pub invariant-loop-s : goal.invariant-loop-s
invariant-loop-s l = summed l.sum (drop l.s-index l.states) ≡ classes_sum l.states
