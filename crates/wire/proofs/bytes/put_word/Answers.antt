-- The eight bytes are copied into their place.
use native.Mathlib.Omega.{arith}
use mathlib.Core.Path.{◌∙◌}
use Rattle.wire.proofs.BytesLaws.{eight_copied}
use Rattle.wire.proofs.bytes.put_word.Goals as goal

pub returns : goal.returns
returns c = eight_copied c.args.b.now c.copy_from_slice.new.self c.args.at _ c.args.x (omega arith) c.requires (c.copy_from_slice.ensures.after ∙ c.to_le_bytes.ensures)
