-- The eight bytes from the place on, lowest first.
use mathlib.Core.Path.{◌∙◌}
use Rattle.wire.proofs.BytesLaws.{le_read}
use Rattle.wire.proofs.bytes.word_at.Goals as goal

pub returns : goal.returns
returns c = c.from_le_bytes.ensures ∙ le_read c.args.b.now c.args.at
