-- The word is written of what the number's state gives.
use Rattle.scan.specs.Look.{listed_word}
use Rattle.scan.proofs.looks.listed_word.Goals as goal

pub returns : goal.returns
unfolding listed_word
returns c = rw (
  ← c.state_of-n.ensures.result_value,
  ← c.hint_of-hint.ensures,
  ← c.is_pending-pending.ensures,
) c.from.ensures
