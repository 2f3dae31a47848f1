use mathlib.Core.Path.{◌≡◌}
use Prim.Native.Nat.{◌+◌, ◌-◌, ◌≤◌}
use Rattle.lists.specs.Kinds.{taken_by}
use Rattle.lists.specs.Run.{standing, list_run}
use Rattle.lists.proofs.Laws.{Counts}
use Rattle.lists.proofs.runs.run_entries.Given as goal

abbrev pub invariant-loop : goal.invariant-loop
invariant-loop g l =
    let words = g.T.Form.words in
    let was = l.initial in
    (l.at.next ≤ l.last + 1) × Counts l.at
    × (list_run (taken_by l.kind l.g) l.last (l.budget - l.counter) (standing l.at (words l.table) (words l.list) (words l.buffer))
    ≡ list_run (taken_by l.kind l.g) l.last l.budget (standing was.at (words was.table) (words was.list) (words was.buffer)))
