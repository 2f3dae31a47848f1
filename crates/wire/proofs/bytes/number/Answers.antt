-- The words of the bytes are read in place.
use native.Mathlib.Omega.{arith}
use mathlib.Core.Path.{◌∙◌, sym}
use Rattle.wire.proofs.BytesLaws.{words-at}
use Rattle.wire.proofs.bytes.number.Goals as goal

pub returns : goal.returns
returns c = c.word_at.ensures ∙ sym (words-at c.args.b.now c.args.i (omega arith))
