-- Each way is the definition at the test of the last entry.
use mathlib.Core.Path.{sym, ◌∙◌}
use native.Mathlib.Omega.{arith}
use Rattle.export.specs.Export.{ended_by}
use Rattle.export.proofs.Laws.{macs-few}
use Rattle.export.proofs.end.Goals as goal

pub overflow_add-result : goal.overflow_add-result
overflow_add-result c = omega (arith, macs-few _ _ c.mac_pages-macs.ensures)

pub overflow_add-result-then-is_over : goal.overflow_add-result-then-is_over
overflow_add-result-then-is_over c = omega (arith, macs-few _ _ c.mac_pages-macs.ensures, c.requires.0, c.requires.1, c.requires.2)

pub returns-then-is_over : goal.returns-then-is_over
unfolding ended_by
returns-then-is_over c = rw (sym c.is_over.ensures ∙ c.if-is_over.true, ← c.mac_pages-macs.ensures, c.info_back-info.ensures)

pub returns : goal.returns
unfolding ended_by
returns c = rw (sym c.is_over.ensures ∙ c.if-is_over.false, c.info_back-info.ensures)
