-- Each way out is the definition at the test that led there.
use Rattle.table.specs.Table.{words_at}
use borrow.Author.Tests.{lt-ltb, le-ltb}
use Rattle.table.proofs.load.Goals as goal

pub returns-then-at-table : goal.returns-then-at-table
unfolding words_at
returns-then-at-table c = rw (lt-ltb _ _ c.if-at-table.true)

pub returns : goal.returns
unfolding words_at
returns c = rw (le-ltb _ _ c.if-at-table.false)
