-- Each number is placed, and joined to those below it.
use Rattle.words.specs.Entry.{entry_of}
use Rattle.words.proofs.EntryLaws.{entry}
use Rattle.words.proofs.Words.{write-code}
use Rattle.words.proofs.entries.U64FromEntry.from.Goals as goal

pub returns : goal.returns
unfolding entry_of
returns c = let law = write-code entry c.args.e in cc
