-- Each number is placed, and joined to those below it.
use Rattle.records.specs.Record.{record_of}
use Rattle.records.proofs.RecordLaws.{word_zero}
use Rattle.words.proofs.Words.{write-code}
use Rattle.records.proofs.U64FromRecord.from.Goals as goal

pub returns : goal.returns
unfolding record_of
returns c = let law = write-code word_zero c.args.p in cc
