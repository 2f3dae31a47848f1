-- Eight bytes are a word.
use mathlib.Core.Path.{sym}
use Rattle.wire.proofs.BytesLaws.{words-length}
use Rattle.wire.proofs.tables.InBytesForm.len.Goals as goal

pub returns : goal.returns
returns c = sym (words-length c.args.list.now)
