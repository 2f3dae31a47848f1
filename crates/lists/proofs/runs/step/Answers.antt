-- What is read are the words of the definition, and what is written is set among them; a page that is not written has what it would be given.
use mathlib.Core.Path.{◌≡◌, sym, ap, ◌∙◌}
use mathlib.Core.List.{List}
use mathlib.Core.Bool.{Bool, false, not, ◌&&◌}
use Prim.Native.Nat.{ℕ}
use lib.Dec.{eqb}
use lib.ListN.{set}
use borrow.Author.Tests.{eqb-true}
use Rattle.words.specs.Entry.{entry_of}
use Rattle.words.specs.declared.entries.Entry.{Entry}
use Rattle.refusals.proofs.Laws.{and_left, and_right, not-false}
use Rattle.page.specs.declared.PageWords.{PageWords}
use Rattle.table.specs.Table.{words_at, put_at}
use Rattle.table.proofs.Laws.{put_again}
use Rattle.entry.specs.declared.Taken.{Taken}
use Rattle.lists.specs.Kinds.{Step, taken_by}
use Rattle.lists.specs.Run.{Standing, standing, word_of, gpa_of, held_of, taking, counted, stepped}
use Rattle.lists.proofs.Laws.{returned}
use Rattle.lists.proofs.runs.step.Goals as goal
use Rattle.lists.proofs.runs.step.Goals.{then-ne, else-ne}

-- a step from what it reads and what it makes of that
stepped_by : (f : Step) (s : Standing) (word held k : ℕ) (w : PageWords) (got : Taken) → word ≡ word_of s → held ≡ held_of s → k ≡ (entry_of word).gpa →
    w ≡ words_at s.table k → got ≡ f word held w → stepped f s ≡ standing (counted s.at got) (put_at s.table k got.words)
    (set s.list s.at.next got.word) (set s.buffer s.at.next got.buffer)
unfolding stepped
stepped_by f s word held k w got a b c d e =
    let named : gpa_of s ≡ k = sym (c ∙ ap (λ (x : ℕ). (entry_of x).gpa) a) in
    let takes : taking f s ≡ got = cc in
    rw (takes, named)

-- a page whose words do not differ from those that it has
unwritten : (t : List ℕ) (k : ℕ) (v w : PageWords) (differ : Bool) → differ ≡ not (eqb v.word w.word && eqb v.mark w.mark) → differ ≡ false →
    w ≡ words_at t k → t ≡ put_at t k v
unwritten t k v w differ told e was =
    let both = not-false (eqb v.word w.word && eqb v.mark w.mark) (sym told ∙ e) in
    let alike : v ≡ w = λ i. record { word = eqb-true v.word w.word (and_left _ _ both) i; mark = eqb-true v.mark w.mark (and_right _ _ both) i } in
    rw (alike, was) (sym (put_again t k))

pub returns : goal.returns
returns g c =
    let x = c.args in
    let words = g.T.Form.words in
    let t = words x.table.now in
    let k = c.from-e.result.gpa in
    let before = c.load-before.result in
    let got = c.take-got.result in
    let page : words c.if-ne.table ≡ put_at t k got.words = elim c.if-ne.branch [
      | then-ne w ↦ rw w.table-is w.store.ensures
      | else-ne w ↦ rw w.table-is (unwritten t k got.words before c.ne.result c.ne.ensures w.if-ne.false c.load-before.ensures)
    ] in
    let by =
    returned
    (sym
    (stepped_by (taken_by x.kind x.g) (standing x.at t (words x.list.now) (words x.buffer.now)) _ _ _ _ got
    c.word-word.ensures
    c.word-held.ensures
    (ap (λ (e : Entry). e.gpa) c.from-e.ensures.0)
    c.load-before.ensures
    c.take-got.ensures)) in
    record {
      value = c.count-next.ensures ∙ by.0;
      table_after = page ∙ by.1.0;
      list_after = c.put.ensures ∙ by.1.1.0;
      buffer_after = c.put-2.ensures ∙ by.1.1.1;
    }
