-- What was read is written: the law of `records`.
use mathlib.Core.Path.{ap, ◌∙◌}
use Rattle.records.specs.Record.{record_word}
use Rattle.records.proofs.RecordLaws.{word-record}
use Rattle.word_vectors.proofs.shown.joined_record.Goals as goal

pub returns : goal.returns
returns c = c.from-2.ensures ∙ ap record_word c.from.ensures.0 ∙ word-record c.args.w c.ranges.w.fits
