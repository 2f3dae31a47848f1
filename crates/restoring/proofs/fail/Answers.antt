-- Each field is the definition's.
use Rattle.restoring.specs.Restoring.{left_entry}
use Rattle.restoring.proofs.fail.Goals as goal

pub returns : goal.returns
unfolding left_entry
returns c = rw (c.told_word-told.ensures, c.from-status.ensures)
