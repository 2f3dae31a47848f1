-- The entry is written with the fields that are told.
use Rattle.entry.specs.Entry.{answer_word}
use Rattle.entry.proofs.answer_word.Goals as goal

pub returns : goal.returns
unfolding answer_word
returns c = c.from.ensures
