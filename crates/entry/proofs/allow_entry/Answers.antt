-- Each way out is the first of the definition's tests that holds, at the tests which led there.
use mathlib.Core.Path.{ap}
use borrow.Author.Tests.{eq-eqb, ne_eqb, le-leb, lt-leb}
use Rattle.records.specs.declared.Record.{Record}
use Rattle.page.specs.Page.{page_of}
use Rattle.session.specs.declared.Comes.{Comes}
use Rattle.entry.specs.Entry.{status_of}
use Rattle.entry.proofs.allow_entry.Goals as goal

pub returns-then-is_invalid : goal.returns-then-is_invalid
unfolding status_of
returns-then-is_invalid c = rw (← c.is_invalid.ensures, c.if-is_invalid.true)

pub returns-then-e-eq-NOP : goal.returns-then-e-eq-NOP
unfolding status_of
returns-then-e-eq-NOP c = rw (← c.is_invalid.ensures, c.if-is_invalid.false, eq-eqb _ _ c.if-e-eq-NOP.true)

pub returns-then-beyond : goal.returns-then-beyond
unfolding status_of
returns-then-beyond c = rw (← c.is_invalid.ensures, c.if-is_invalid.false, ne_eqb _ _ c.if-e-eq-NOP.false, le-leb _ _ c.if-beyond.true)

pub returns-then-is_unexportable : goal.returns-then-is_unexportable
unfolding status_of
returns-then-is_unexportable c = rw (
  ← c.is_invalid.ensures,
  c.if-is_invalid.false,
  ne_eqb _ _ c.if-e-eq-NOP.false,
  lt-leb _ _ c.if-beyond.false,
  ← c.is_unexportable.ensures,
  c.if-is_unexportable.true,
)

pub returns-then-again : goal.returns-then-again
unfolding status_of page_of
returns-then-again c = rw (
  ← c.is_invalid.ensures,
  c.if-is_invalid.false,
  ne_eqb _ _ c.if-e-eq-NOP.false,
  lt-leb _ _ c.if-beyond.false,
  ← c.is_unexportable.ensures,
  c.if-is_unexportable.false,
  ← ap (λ (x : Record). x.migrated) c.from-p.ensures.0,
  eq-eqb _ _ c.if-again.true,
)

pub returns-then-dirty : goal.returns-then-dirty
unfolding status_of page_of
returns-then-dirty c = rw (
  ← c.is_invalid.ensures,
  c.if-is_invalid.false,
  ne_eqb _ _ c.if-e-eq-NOP.false,
  lt-leb _ _ c.if-beyond.false,
  ← c.is_unexportable.ensures,
  c.if-is_unexportable.false,
  ← c.state_of.ensures.result_value,
  ← c.is_cancelled-cancelled.ensures,
  ← ap (λ (x : Record). x.migrated) c.from-p.ensures.0,
  ne_eqb _ _ c.if-again.false,
  ← ap (λ (x : Record). x.dirty) c.from-p.ensures.0,
  c.if-dirty.true,
)

pub returns-then-early : goal.returns-then-early
unfolding status_of page_of
returns-then-early c = rw (
  ← c.is_invalid.ensures,
  c.if-is_invalid.false,
  ne_eqb _ _ c.if-e-eq-NOP.false,
  lt-leb _ _ c.if-beyond.false,
  ← c.is_unexportable.ensures,
  c.if-is_unexportable.false,
  ← c.state_of.ensures.result_value,
  ← c.is_cancelled-cancelled.ensures,
  ← ap (λ (x : Record). x.migrated) c.from-p.ensures.0,
  ne_eqb _ _ c.if-again.false,
  ← ap (λ (x : Record). x.dirty) c.from-p.ensures.0,
  c.if-dirty.false,
  ← ap (λ (x : Comes). x.live) c.comes_in-comes.ensures,
  ← ap (λ (x : Record). x.stamp) c.from-p.ensures.0,
  ← c.is_tracked-tracked.ensures,
  c.if-early.true,
)

pub returns : goal.returns
unfolding status_of page_of
returns c = rw (
  ← c.is_invalid.ensures,
  c.if-is_invalid.false,
  ne_eqb _ _ c.if-e-eq-NOP.false,
  lt-leb _ _ c.if-beyond.false,
  ← c.is_unexportable.ensures,
  c.if-is_unexportable.false,
  ← c.state_of.ensures.result_value,
  ← c.is_cancelled-cancelled.ensures,
  ← ap (λ (x : Record). x.migrated) c.from-p.ensures.0,
  ne_eqb _ _ c.if-again.false,
  ← ap (λ (x : Record). x.dirty) c.from-p.ensures.0,
  c.if-dirty.false,
  ← ap (λ (x : Comes). x.live) c.comes_in-comes.ensures,
  ← ap (λ (x : Record). x.stamp) c.from-p.ensures.0,
  ← c.is_tracked-tracked.ensures,
  c.if-early.false,
)
