-- A word that is put is set among the words; past the end `set` leaves them.
use Rattle.std.proofs.Common.{rules, ℕ, get_or, Fits, w8, w64}
use mathlib.Core.Path.{◌≡◌, sym, ap, ◌∙◌}
use Prim.Native.Nat.{◌/◌, ◌<◌}
use native.Mathlib.Omega.{arith}
use lib.ListN.{length}
use lib.Seq.{set_out}
use Rattle.wire.specs.Bytes.{words_of, Bytes}
use Rattle.wire.proofs.BytesLaws.{words-length, word-store}
use Rattle.wire.proofs.tables.InBytesForm.put.Goals as goal

pub overflow_mul-at : goal.overflow_mul-at
overflow_mul-at c =
    let eight : c.len.result ≡ length c.args.list.now / 8 = c.len.ensures ∙ words-length c.args.list.now in
    search rules

pub put_word-requires : goal.put_word-requires
put_word-requires c =
    let eight : c.len.result ≡ length c.args.list.now / 8 = c.len.ensures ∙ words-length c.args.list.now in
    omega (arith, c.if-at-len.true)

pub returns-then-at-len : goal.returns-then-at-len
returns-then-at-len c =
    let a = c.args in
    let inside : a.at < length a.list.now / 8 = rw (c.len.ensures ∙ words-length a.list.now) at c.if-at-len.true in
    let before : (i : ℕ) → Fits w8 (get_or a.list.now i 0) = search rules in
    let word : Fits w64 a.x = search rules in
    let after : Bytes c.put_word.new.b = λ i. (c.type_inv.list i).fits in
    ap words_of c.put_word.ensures
    ∙ word-store a.list.now a.at a.x (λ i. (before i).fits) (rw c.put_word.ensures at after) inside word.fits

pub returns-else-at-len : goal.returns-else-at-len
returns-else-at-len c = sym (set_out (words_of c.args.list.now) _ _ (rw c.len.ensures at c.if-at-len.false))
