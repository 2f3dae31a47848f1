-- The step takes the line's input on the page that it names, 5 or, where the line leaves the page open, any; then every line computes: a test that does not
-- hold at once stands behind one that does, or is not for the line's state.
use mathlib.Core.Path.{◌≡◌, refl, ap, ◌∙◌}
use mathlib.Core.List.{List, [], ◌∷◌}
use Prim.Native.Nat.{ℕ}
use lib.Dec.{lit<}
use lib.Seq.{get_or-set_same}
use Rattle.words.specs.Entry.{entry_of, entry_word}
use Rattle.records.specs.Record.{record_of, record_word, plain}
use Rattle.states.specs.States.{state_of, is_strange, is_in, number_in}
use Rattle.page.specs.Page.{page_of, tracked}
use Rattle.page.specs.declared.PageWords.{PageWords}
use Rattle.table.specs.Table.{words_at, page_at}
use Rattle.entry.specs.Entry.{invalid, unexportable, status_of, answer_word, sent_entry, failed_entry, taken_of}
use Rattle.session.specs.declared.Phase.TheVariants.{Live}
use Rattle.lists.specs.Run.{stepped}
use Rattle.export.specs.Marked.{Line, second, marked_lines, Leaves, Every, MarkedTable, table_of, Found, some_page, Met}

-- what an entry makes of the words of the page that the line names
abbrev Takes : Line → Type 0
Takes x = (w : PageWords) → ((entry_of x.input).gpa ≡ 5 → page_of w ≡ x.page) → (taken_of x.input w x.ground).word ≡ x.output

step_line : (x : Line) → Takes x → Leaves x
unfolding stepped
step_line x f at t l b g =
    get_or-set_same l at.next _ 0 g.inside
    ∙ ap (λ (n : ℕ). (taken_of n (words_at t (entry_of n).gpa) x.ground).word) g.input
    ∙ f (words_at t (entry_of x.input).gpa) (λ q. ap (page_at t) q ∙ g.page)

step_lines : (l : List Line) → Every Takes l → Every Leaves l
step_lines [] f = tt
step_lines (x ∷ l) f = (step_line x f.0, step_lines l f.1)

pub marked-table : MarkedTable
unfolding entry_of entry_word is_strange is_in number_in tracked invalid unexportable status_of answer_word sent_entry failed_entry taken_of
marked-table =
    record {
      lines = λ p phase clock.
          step_lines (marked_lines p phase clock) (
            λ w q. rw (q refl),
            (
              λ w q. rw (q refl),
              (
                λ w q. rw (q refl),
                (
                  λ w q. rw (q refl),
                  (
                    λ w q. rw (q refl),
                    (λ w q. rw (q refl), (λ w q. rw (q refl), (λ w q. refl, (λ w q. refl, (λ w q. refl, tt))))),
                  ),
                ),
              ),
            ),
          );
    }

-- ---- each line is met: its page is what its words say

abbrev ReadBack : Line → Type 0
ReadBack x = page_at (table_of x) 5 ≡ x.page

found : (l : List Line) → Every ReadBack l → Every Found l
found [] f = tt
found (x ∷ l) f = (record { inside = lit< tt; input = refl; page = f.0 }, found l f.1)

pub met : Met
unfolding record_of record_word plain state_of page_of words_at
met = record { found = found (marked_lines some_page Live second) (refl, (refl, (refl, (refl, (refl, (refl, (refl, (refl, (refl, (refl, tt)))))))))) }
