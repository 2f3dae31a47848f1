-- The entries of a list in turn.
use Rattle.std.specs.Prelude.{cond, not, ◌&&◌, List, ℕ, zero, suc, ◌+◌, get_or, set, eqb, leb}
use Rattle.words.specs.Entry.{entry_of}
use Rattle.words.specs.Runs.{bit}
use Rattle.words.specs.Statuses as statuses
use Rattle.table.specs.Table.{words_at, put_at}
use Rattle.entry.specs.declared.Taken.{Taken}
use Rattle.lists.specs.Kinds.{Step}
use Rattle.lists.specs.declared.runs.Progress.{Progress}

-- all that a list's entries change
pub record Standing : Type 0 where
  pub at : Progress
  pub table : List ℕ
  pub list : List ℕ
  pub buffer : List ℕ

abbrev pub standing : Progress → List ℕ → List ℕ → List ℕ → Standing
standing at t l b = record { at = at; table = t; list = l; buffer = b }

-- the next entry's word, and the page that it names
abbrev pub word_of : Standing → ℕ
word_of s = get_or s.list s.at.next 0

abbrev pub gpa_of : Standing → ℕ
gpa_of s = (entry_of (word_of s)).gpa

-- its word in the buffer; 0 where the buffer has none
abbrev pub held_of : Standing → ℕ
held_of s = get_or s.buffer s.at.next 0

-- what becomes of the next entry
abbrev pub taking : Step → Standing → Taken
taking f s = f (word_of s) (held_of s) (words_at s.table (gpa_of s))

-- errors: status neither 0 nor 1
unfoldable pub counted : Progress → Taken → Progress
counted at got =
    record {
      next = at.next + 1;
      errors = at.errors + bit (not (eqb got.status statuses.success) && not (eqb got.status statuses.skipped));
      filled = at.filled + bit got.contents;
    }

-- one entry, by the step of its call; where the buffer has no word for it none is written
unfoldable pub stepped : Step → Standing → Standing
stepped f s =
    standing (counted s.at (taking f s))
    (put_at s.table (gpa_of s) (taking f s).words)
    (set s.list s.at.next (taking f s).word)
    (set s.buffer s.at.next (taking f s).buffer)

-- entries in turn up to the last one, no more than the budget
unfoldable pub list_run : Step → ℕ → ℕ → Standing → Standing
list_run f last zero s = s
list_run f last (suc budget) s = cond (leb s.at.next last) (list_run f last budget (stepped f s)) s
