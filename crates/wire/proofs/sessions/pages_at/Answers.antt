-- A number of the session, in its place.
use Rattle.wire.specs.Sessions.{session_of}
use Rattle.wire.proofs.sessions.pages_at.Goals as goal

pub returns : goal.returns
unfolding session_of
returns c = c.number.ensures
