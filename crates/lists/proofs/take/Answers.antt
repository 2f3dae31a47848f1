-- Each arm is its clause of the definition.
use Rattle.lists.proofs.take.Goals as goal

pub returns-in-Export : goal.returns-in-Export
returns-in-Export c = rw c.in-Export.is c.take_entry.ensures

pub returns-in-Restore : goal.returns-in-Restore
returns-in-Restore c = rw c.in-Restore.is c.take_entry-in-Restore.ensures
