-- Each field is the definition's.
use Rattle.entry.specs.Entry.{failed_entry}
use Rattle.entry.proofs.fail.Goals as goal

pub returns : goal.returns
unfolding failed_entry
returns c = rw (c.answer_word-word.ensures, c.from-status.ensures)
