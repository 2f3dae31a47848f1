-- Past the end `set` leaves the words.
use mathlib.Core.Path.{sym}
use lib.Seq.{set_out}
use Rattle.table.proofs.InWordsForm.put.Goals as goal

pub returns-else-at-list : goal.returns-else-at-list
returns-else-at-list c = sym (set_out _ _ _ c.if-at-list.false)
