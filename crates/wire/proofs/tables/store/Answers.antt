-- Each way out is the definition at the test that led there.
use borrow.Author.Tests.{lt-ltb, le-ltb}
use Rattle.wire.specs.Tables.{put_page}
use Rattle.wire.proofs.tables.store.Goals as goal

pub returns-then-at-b : goal.returns-then-at-b
unfolding put_page
returns-then-at-b c = rw (lt-ltb _ _ c.if-at-b.true, c.put_word-then-at-b.ensures, c.put_word.ensures)

pub returns-else-at-b : goal.returns-else-at-b
unfolding put_page
returns-else-at-b c = rw (le-ltb _ _ c.if-at-b.false)
