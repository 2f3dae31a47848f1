-- What was read is written: the law of `words`.
use mathlib.Core.Path.{ap, ◌∙◌}
use Rattle.words.specs.Info.{info_word}
use Rattle.words.proofs.InfoLaws.{word-info}
use Rattle.word_vectors.proofs.shown.joined_info.Goals as goal

pub returns : goal.returns
returns c = c.from-2.ensures ∙ ap info_word c.from.ensures.0 ∙ word-info c.args.w c.ranges.w.fits
