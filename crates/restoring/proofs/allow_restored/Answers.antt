-- Each way out is the first of the definition's tests that holds, at the tests which led there.
use borrow.Author.Tests.{eq-eqb, ne_eqb, le-leb, lt-leb}
use Rattle.restoring.specs.Restoring.{restore_status}
use Rattle.restoring.proofs.allow_restored.Goals as goal

pub returns-then-is_faulty : goal.returns-then-is_faulty
unfolding restore_status
returns-then-is_faulty c = rw (← c.is_faulty.ensures, c.if-is_faulty.true)

pub returns-then-nop : goal.returns-then-nop
unfolding restore_status
returns-then-nop c = rw (← c.is_faulty.ensures, c.if-is_faulty.false, ne_eqb _ _ c.if-nop.true)

pub returns-then-g-e : goal.returns-then-g-e
unfolding restore_status
returns-then-g-e c = rw (← c.is_faulty.ensures, c.if-is_faulty.false, eq-eqb _ _ c.if-nop.false, le-leb _ _ c.if-g-e.true)

pub returns-then-not-is_left : goal.returns-then-not-is_left
unfolding restore_status
returns-then-not-is_left c = rw (
  ← c.is_faulty.ensures,
  c.if-is_faulty.false,
  eq-eqb _ _ c.if-nop.false,
  lt-leb _ _ c.if-g-e.false,
  ← c.is_left.ensures,
  c.if-not-is_left.true,
)

pub returns : goal.returns
unfolding restore_status
returns c = rw (
  ← c.is_faulty.ensures,
  c.if-is_faulty.false,
  eq-eqb _ _ c.if-nop.false,
  lt-leb _ _ c.if-g-e.false,
  ← c.is_left.ensures,
  c.if-not-is_left.false,
)
