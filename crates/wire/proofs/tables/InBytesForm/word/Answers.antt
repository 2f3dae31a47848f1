-- Past the end of the words there is 0.
use mathlib.Core.Path.{◌≡◌, sym, ◌∙◌}
use Prim.Native.Nat.{◌/◌}
use native.Mathlib.Omega.{arith}
use lib.ListN.{length, get_or-eq_default}
use Rattle.wire.specs.Bytes.{words_of}
use Rattle.wire.proofs.BytesLaws.{words-length}
use Rattle.wire.proofs.tables.InBytesForm.word.Goals as goal

pub number-requires : goal.number-requires
number-requires c =
    let eight : c.len.result ≡ length c.args.list.now / 8 = c.len.ensures ∙ words-length c.args.list.now in
    omega (arith, c.if-at-len.true)

pub returns-else-at-len : goal.returns-else-at-len
returns-else-at-len c = sym (get_or-eq_default (words_of c.args.list.now) 0 (rw c.len.ensures at c.if-at-len.false))
