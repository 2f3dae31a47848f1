-- Each way is the definition at the test of the last entry.
use mathlib.Core.Path.{sym, ◌∙◌}
use Rattle.restore.specs.Restore.{ended_at}
use Rattle.restore.proofs.end.Goals as goal

pub returns-then-is_over : goal.returns-then-is_over
unfolding ended_at
returns-then-is_over c = rw (sym c.is_over.ensures ∙ c.if-is_over.true, c.info_back-info.ensures)

pub returns-else-is_over : goal.returns-else-is_over
unfolding ended_at
returns-else-is_over c = rw (sym c.is_over.ensures ∙ c.if-is_over.false, c.info_back-info.ensures)
