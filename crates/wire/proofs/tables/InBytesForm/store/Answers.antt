-- A page is put among the bytes as among their words.
use Rattle.std.proofs.Common.{rules, ℕ, get_or, Fits, w8, w64}
use mathlib.Core.Path.{ap, ◌∙◌}
use Rattle.wire.specs.Bytes.{words_of, Bytes}
use Rattle.wire.proofs.BytesLaws.{words-store}
use Rattle.wire.proofs.tables.InBytesForm.store.Goals as goal

pub returns : goal.returns
returns c =
    let a = c.args in
    let before : (i : ℕ) → Fits w8 (get_or a.table.now i 0) = search rules in
    let word : Fits w64 a.w.word = search rules in
    let mark : Fits w64 a.w.mark = search rules in
    let after : Bytes c.store.new.b = λ i. (c.type_inv.table i).fits in
    ap words_of c.store.ensures
    ∙ words-store a.table.now a.at a.w (λ i. (before i).fits) (rw c.store.ensures at after) word.fits mark.fits
