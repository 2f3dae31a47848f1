-- A page's two words stay words under every move that keeps its mark one: word 0 is written as a record, which is a word whatever it holds.
use mathlib.Core.List.{List, [], ◌∷◌}
use Prim.Native.Nat.{ℕ, zero, suc, ◌+◌, ◌*◌}
use lib.Dec.{ltb, lit<}
use Rattle.records.proofs.RecordLaws.{record-lt}
use Rattle.refusals.proofs.Laws.{either}
use Rattle.states.specs.States.{is_in}
use Rattle.states.specs.Lists.{renewed_states}
use Rattle.page.specs.Page.{Page, page_of, record_for, strange, on_words}
use Rattle.page.specs.Moves.{moved_by}
use Rattle.page.specs.Sweeps.{restored, swept_by}
use Rattle.page.specs.declared.Clock.{Clock}
use Rattle.page.specs.declared.PageWords.{PageWords}
use Rattle.page.specs.declared.moves.Move.{Move}
use Rattle.page.specs.declared.moves.Move.TheVariants.{Write, Add, Accept, Block, Unblock, Remove}
use Rattle.page.specs.declared.sweeps.Sweep.{Sweep}
use Rattle.page.specs.declared.sweeps.Sweep.TheVariants.{Track, Start, Pause}
use Rattle.table.specs.Table.{page_count, words_at, sweep_of}
use Rattle.scan.specs.Look.{looked, renewed, listed_page}
use Rattle.entry.specs.Entry.{exported_page}
use Rattle.wire.specs.Bytes.{Words}
use Rattle.wire.specs.Promises.{Word}
use Rattle.rehearsal.specs.Small.{MoveWords}

-- both words of a page
pub record TwoWords (w : PageWords) : Type 0 where
  pub word : Word w.word
  pub mark : Word w.mark

pub words-at : (t : List ℕ) (i : ℕ) → Words t → TwoWords (words_at t i)
unfolding words_at
words-at t i h =
    either TwoWords (ltb i (page_count t)) (λ e. record { word = h (2 * i); mark = h (2 * i + 1) }) (λ e. record { word = lit< tt; mark = lit< tt })

-- a move that keeps the mark a word
abbrev pub KeepsWord : (Page → Page) → Type 0
KeepsWord f = (p : Page) → Word p.mark → Word (f p).mark

pub on-words : (f : Page → Page) → KeepsWord f → (w : PageWords) → TwoWords w → TwoWords (on_words f w)
unfolding on_words page_of
on-words f k w h =
    either TwoWords (strange (page_of w)) (λ e. h) (λ e. record { word = record-lt (record_for (f (page_of w))); mark = k (page_of w) h.mark })

-- ---- the moves

pub move-keeps : (m : Move) (clock : Clock) → MoveWords m → KeepsWord (moved_by m clock)
move-keeps (Write mark) clock h p w = h
move-keeps Add clock h p w = lit< tt
move-keeps Accept clock h p w = lit< tt
move-keeps Block clock h p w = w
move-keeps Unblock clock h p w = w
move-keeps Remove clock h p w = lit< tt

pub sweep-keeps : (k : Sweep) → KeepsWord (swept_by k)
sweep-keeps Track p w = w
sweep-keeps Start p w = w
sweep-keeps Pause p w = w

pub listed-keeps : (clock : Clock) → KeepsWord (listed_page clock)
unfolding renewed
listed-keeps clock p w = either (λ (q : Page). Word q.mark) (is_in (looked p).state renewed_states) (λ e. w) (λ e. w)

pub exported-keeps : (epoch : ℕ) → KeepsWord (exported_page epoch)
exported-keeps epoch p w = w

pub restored-keeps : KeepsWord restored
restored-keeps p w = w

-- ---- a sweep

pub swept-words : (f : PageWords → PageWords) → ((w : PageWords) → TwoWords w → TwoWords (f w)) → (t : List ℕ) → Words t → Words (sweep_of f t)
swept-words f k [] h i = h i
swept-words f k (x ∷ []) h i = h i
swept-words f k (x ∷ y ∷ t) h zero = (k (record { word = x; mark = y }) (record { word = h 0; mark = h 1 })).word
swept-words f k (x ∷ y ∷ t) h (suc zero) = (k (record { word = x; mark = y }) (record { word = h 0; mark = h 1 })).mark
swept-words f k (x ∷ y ∷ t) h (suc (suc i)) = swept-words f k t (λ j. h (suc (suc j))) i
