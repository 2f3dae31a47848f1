-- Of another length than a session's nothing is read; else the test in its bytes is the definition's.
use borrow.Author.Tests.{eq-eqb, ne_eqb}
use Rattle.host.specs.Inside.{sound}
use Rattle.host.proofs.reads.is_sound.Goals as goal

pub returns-in_default : goal.returns-in_default
unfolding sound
returns-in_default c = rw (ne_eqb _ _ c.in_default.ensures.cases)

pub returns : goal.returns
unfolding sound
returns c = let chunk = c.in-Some.ensures.cases in
    rw (eq-eqb _ _ chunk.long, c.is_table-table.ensures, c.is_formed-formed.ensures, chunk.same)
