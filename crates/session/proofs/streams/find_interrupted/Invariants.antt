use mathlib.Core.Path.{◌≡◌}
use Prim.Native.Nat.{ℕ}
use Rattle.session.specs.Formed.{some_below, interrupted, out_of_range, out_of_place}
use Rattle.session.specs.declared.Session.{Session}
use Rattle.session.specs.declared.streams.Found.{Found}
use Rattle.session.proofs.streams.find_interrupted.Given as goal

abbrev pub found_below : Session → ℕ → Found
found_below s n = record { any = some_below (interrupted s) n; outside = some_below (out_of_range s) n; unusable = some_below (out_of_place s) n }

abbrev pub invariant-loop-i : goal.invariant-loop-i
invariant-loop-i l = ◌≡◌ {A = Found} (record { any = l.any; outside = l.outside; unusable = l.unusable }) (found_below l.fn.s l.i)
