use Rattle.page.specs.Page.{on_words}
use Rattle.page.specs.Sweeps.{swept_by}
use Rattle.table.proofs.Laws.{sweep_first}
use mathlib.Core.Path.{◌≡◌}
use Rattle.table.proofs.sweep_all.Given as goal

abbrev pub invariant-loop-i : goal.invariant-loop-i
invariant-loop-i g l = g.T.Form.words l.table ≡ sweep_first (on_words (swept_by l.k)) l.i (g.T.Form.words l.initial.table)
