-- The phase of the first word; Done for a number that is no phase's.
use mathlib.Core.Path.{ap, ◌∙◌}
use Rattle.wire.specs.Sessions.{phase_of, session_of}
use Rattle.wire.proofs.SessionLaws.{phase-read}
use Rattle.wire.proofs.sessions.phase_at.Goals as goal

pub returns : goal.returns
unfolding session_of
returns c = c.unwrap_or.ensures ∙ phase-read c.number.result c.try_from.result c.try_from.ensures ∙ ap phase_of c.number.ensures
