-- The step of one entry, for each call that takes a list.
use Rattle.std.specs.Prelude.{ℕ}
use Rattle.page.specs.declared.PageWords.{PageWords}
use Rattle.entry.specs.Entry.{taken_of}
use Rattle.entry.specs.declared.Ground.{Ground}
use Rattle.entry.specs.declared.Taken.{Taken}
use Rattle.restoring.specs.Restoring.{restored_of}
use Rattle.lists.specs.declared.Kind.{Kind}
use Rattle.lists.specs.declared.Kind.TheVariants.{Export, Restore}

-- an entry's word, its buffer's word and the words of the page that it names
abbrev pub Step : Type 0
Step = ℕ → ℕ → PageWords → Taken

-- on the ground that the call stands on; an export reads no buffer, and RESTORE has none
abbrev pub taken_by : Kind → Ground → Step
taken_by Export g word held w = taken_of word w g
taken_by Restore g word held w = restored_of word held w g
