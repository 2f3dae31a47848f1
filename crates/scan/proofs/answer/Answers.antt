-- The definition, with the entries that the function gives.
use Rattle.scan.specs.Scan.{answer_of}
use Rattle.scan.proofs.answer.Goals as goal

pub returns : goal.returns
unfolding answer_of
returns c = rw (← c.written_of-w.ensures)
