-- One word is put.
use mathlib.Core.Path.{◌∙◌}
use Rattle.wire.proofs.ChangeLaws.{put_one}
use Rattle.wire.proofs.bytes.put_number.Goals as goal

pub returns : goal.returns
returns c = c.put_word.ensures ∙ put_one _ c.args.i c.args.x
