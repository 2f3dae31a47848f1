-- The three words of the check, in their places.
use Rattle.wire.specs.Sessions.{session_of}
use Rattle.wire.proofs.sessions.check_at.Goals as goal

pub returns : goal.returns
unfolding session_of
returns c = rw (c.number.ensures, c.number-2.ensures, c.number-3.ensures)
