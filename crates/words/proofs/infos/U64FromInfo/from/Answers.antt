-- Each number is placed, and joined to those below it.
use Rattle.words.specs.Info.{info_of}
use Rattle.words.proofs.InfoLaws.{info}
use Rattle.words.proofs.Words.{write-code}
use Rattle.words.proofs.infos.U64FromInfo.from.Goals as goal

pub returns : goal.returns
unfolding info_of
returns c = let law = write-code info c.args.x in cc
