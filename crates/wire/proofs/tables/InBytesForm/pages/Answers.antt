-- The pages of the bytes are those of the words.
use mathlib.Core.Path.{sym}
use Rattle.wire.proofs.BytesLaws.{page-count}
use Rattle.wire.proofs.tables.InBytesForm.pages.Goals as goal

pub returns : goal.returns
returns c = sym (page-count c.args.table.now)
