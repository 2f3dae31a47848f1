-- The record is written from what is left of the page.
use mathlib.Core.Path.{ap, ap₂, ◌∙◌}
use mathlib.Core.Bool.{false}
use Prim.Native.Nat.{ℕ}
use Rattle.records.specs.Record.{record_word}
use Rattle.records.specs.declared.Record.{Record}
use Rattle.page.specs.Page.{page_of}
use Rattle.page.proofs.moves.empty.Goals as goal

pub returns : goal.returns
unfolding page_of
returns c = λ s e q.
    ap (λ (v : ℕ). record { word = v; mark = 0 })
    (c.from-word.ensures ∙ ap₂ (λ (n m : ℕ). record_word
    (record { state = n; dirty = false; cached = false; spare10 = 0; stamp = 0; migrated = m; spare48 = 0 })) q
    (ap (λ (r : Record). r.migrated) c.from-p.ensures.0))
