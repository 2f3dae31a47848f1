-- A word is determined by its reading; the fields that are not set are as they were read, and so fit.
use borrow.Author.Rules.{rules}
use mathlib.Core.Path.{sym, ap, ◌∙◌}
use Rattle.words.specs.Entry.{entry_of, with_operation, with_status}
use Rattle.words.specs.Runs.{low}
use Rattle.words.specs.declared.entries.Entry.{Entry}
use Rattle.words.proofs.EntryLaws.{entry-fits, entry-word, entry-low, entry-same, entry_lt}
use Rattle.restoring.specs.Restoring.{told_word}
use Rattle.restoring.proofs.told_word.Goals as goal

pub returns : goal.returns
unfolding told_word
returns c = let a = c.args in
    let e = entry_of a.word in
    let told = with_status (with_operation e a.operation) a.status in
    entry-same _ _ (search rules) (entry_lt told)
    (c.set_status.ensures
    ∙ ap (λ (x : Entry). with_status x (low 5 a.status))
    (c.set_operation-done.ensures ∙ ap (λ (x : Entry). with_operation x (low 2 a.operation)) (sym (entry-word e (entry-fits a.word)) ∙ entry-low e))
    ∙ sym (entry-low told))
