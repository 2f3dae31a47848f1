-- A list's entries in turn: words of entries go into the list, marks, 0 or what was there into the buffer, words of records into the table.
use Prim.Native.Nat.{ℕ}
use lib.Dec.{eqb, lit<}
use Rattle.words.specs.Entry.{entry_of}
use Rattle.words.proofs.EntryLaws.{entry_lt}
use Rattle.refusals.proofs.Laws.{either}
use Rattle.page.specs.Page.{page_of}
use Rattle.page.specs.Sweeps.{restored}
use Rattle.page.specs.declared.PageWords.{PageWords}
use Rattle.table.specs.Table.{words_at}
use Rattle.entry.specs.Entry.{status_of, answer_word, contents, exported_page, sent_entry, failed_entry, taken_of}
use Rattle.entry.specs.declared.Ground.{Ground}
use Rattle.entry.specs.declared.Taken.{Taken}
use Rattle.restoring.specs.Restoring.{restore_status, told_word, restored_entry, left_entry, restored_of}
use Rattle.lists.specs.Kinds.{taken_by}
use Rattle.lists.specs.Run.{Standing, word_of, held_of, gpa_of, stepped, list_run}
use Rattle.lists.specs.declared.Kind.{Kind}
use Rattle.lists.specs.declared.Kind.TheVariants.{Export, Restore}
use Rattle.lists.proofs.Laws.{run-keeps}
use Rattle.wire.specs.Bytes.{Words}
use Rattle.wire.specs.Promises.{Word}
use Rattle.wire.proofs.BytesLaws.{words-set, put_small}
use Rattle.rehearsal.proofs.Pages.{TwoWords, words-at, on-words, exported-keeps, restored-keeps}

-- what becomes of one entry
record TakenWords (x : Taken) : Type 0 where
  word : Word x.word
  buffer : Word x.buffer
  words : TwoWords x.words

taken-small : (kind : Kind) (g : Ground) (word held : ℕ) (w : PageWords) → Word held → TwoWords w → TakenWords (taken_by kind g word held w)
unfolding taken_of sent_entry failed_entry answer_word restored_of restored_entry left_entry told_word page_of
taken-small Export g word held w k h =
    either TakenWords (eqb (status_of (entry_of word) (page_of w) g) 0)
    (λ e. record {
      word = entry_lt _;
      buffer = either Word (contents (page_of w)) (λ q. h.mark) (λ q. lit< tt);
      words = on-words (exported_page g.epoch) (exported-keeps g.epoch) w h;
    })
    (λ e. record { word = entry_lt _; buffer = lit< tt; words = h })
taken-small Restore g word held w k h =
    either TakenWords (eqb (restore_status (entry_of word) (page_of w) g) 0)
    (λ e. record { word = entry_lt _; buffer = k; words = on-words restored restored-keeps w h })
    (λ e. record { word = entry_lt _; buffer = k; words = h })

-- all that the entries change
pub record StandingWords (s : Standing) : Type 0 where
  pub table : Words s.table
  pub list : Words s.list
  pub buffer : Words s.buffer

step_small : (kind : Kind) (g : Ground) (s : Standing) → StandingWords s → StandingWords (stepped (taken_by kind g) s)
unfolding stepped
step_small kind g s h =
    let x = taken-small kind g (word_of s) (held_of s) (words_at s.table (gpa_of s)) (h.buffer s.at.next) (words-at s.table (gpa_of s) h.table) in
    record {
      table = put_small s.table (gpa_of s) _ h.table x.words.word x.words.mark;
      list = words-set s.list s.at.next _ h.list x.word;
      buffer = words-set s.buffer s.at.next _ h.buffer x.buffer;
    }

pub run_small : (kind : Kind) (g : Ground) (last budget : ℕ) (s : Standing) → StandingWords s → StandingWords (list_run (taken_by kind g) last budget s)
run_small kind g last = run-keeps StandingWords (taken_by kind g) last (λ s q. step_small kind g s)
