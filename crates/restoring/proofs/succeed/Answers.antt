-- Each field is the definition's.
use Rattle.restoring.specs.Restoring.{restored_entry}
use Rattle.restoring.proofs.succeed.Goals as goal

pub returns : goal.returns
unfolding restored_entry
returns c = rw (c.told_word-told.ensures, c.restore_words-words.ensures)
