-- Each way out is the definition at the test that led there.
use Rattle.table.specs.Table.{put_at}
use native.Mathlib.Omega.{arith}
use lib.ListN.{length-set}
use borrow.Author.Tests.{lt-ltb, le-ltb}
use Rattle.table.proofs.store.Goals as goal

pub bounds-table-at-then-at-table : goal.bounds-table-at-then-at-table
bounds-table-at-then-at-table c = simp length-set (omega arith)

pub returns-then-at-table : goal.returns-then-at-table
unfolding put_at
returns-then-at-table c = rw (lt-ltb _ _ c.if-at-table.true)

pub returns-else-at-table : goal.returns-else-at-table
unfolding put_at
returns-else-at-table c = rw (le-ltb _ _ c.if-at-table.false)
