use mathlib.Core.Path.{◌≡◌}
use Rattle.session.specs.Formed.{some_below, interrupted}
use Rattle.wire.specs.Bytes.{words_of}
use Rattle.wire.specs.Sessions.{session_of}
use Rattle.wire.proofs.sessions.is_busy.Given as goal

abbrev pub invariant-loop-i : goal.invariant-loop-i
invariant-loop-i l = l.any ≡ some_below (interrupted (session_of (words_of l.b))) l.i
