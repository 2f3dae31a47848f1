-- The definition at the test.
use borrow.Author.Tests.{le-leb, lt-leb}
use Rattle.export.specs.Export.{mac_pages}
use Rattle.export.proofs.mac_pages.Goals as goal

pub returns-then-last-ge-ENTRIES_A_MAC_PAGE : goal.returns-then-last-ge-ENTRIES_A_MAC_PAGE
unfolding mac_pages
returns-then-last-ge-ENTRIES_A_MAC_PAGE c = rw (le-leb _ _ c.if-last-ge-ENTRIES_A_MAC_PAGE.true)

pub returns-else-last-ge-ENTRIES_A_MAC_PAGE : goal.returns-else-last-ge-ENTRIES_A_MAC_PAGE
unfolding mac_pages
returns-else-last-ge-ENTRIES_A_MAC_PAGE c = rw (lt-leb _ _ c.if-last-ge-ENTRIES_A_MAC_PAGE.false)
