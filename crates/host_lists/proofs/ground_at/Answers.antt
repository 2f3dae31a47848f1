-- The definition's fields, each read in its place.
use Rattle.entry.specs.Entry.{ground_of}
use Rattle.host_lists.proofs.ground_at.Goals as goal

pub returns : goal.returns
unfolding ground_of
returns c = rw (← c.pages_at.ensures, ← c.epoch_at.ensures, ← c.clock_at.ensures, ← c.phase_at.ensures)
