-- What was read is written: the law of `words`.
use mathlib.Core.Path.{ap, ◌∙◌}
use Rattle.words.specs.Entry.{entry_word}
use Rattle.words.proofs.EntryLaws.{word-entry}
use Rattle.word_vectors.proofs.shown.joined_entry.Goals as goal

pub returns : goal.returns
returns c = c.from-2.ensures ∙ ap entry_word c.from.ensures.0 ∙ word-entry c.args.w c.ranges.w.fits
