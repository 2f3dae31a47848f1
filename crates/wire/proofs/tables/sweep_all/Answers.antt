-- The bytes are those of the words that the sweep leaves.
use mathlib.Core.Path.{sym, ap, ◌∙◌}
use native.Mathlib.Omega.{arith}
use Rattle.wire.specs.Bytes.{bytes_of}
use Rattle.wire.proofs.BytesLaws.{bytes_back}
use Rattle.wire.proofs.tables.sweep_all.Goals as goal

pub returns : goal.returns
returns c = sym (bytes_back c.sweep_all.new.table (λ i. (c.type_inv.b i).fits) (omega arith)) ∙ ap bytes_of c.sweep_all.ensures
