use mathlib.Core.Path.{◌≡◌}
use Rattle.wire.specs.Bytes.{put_words}
use Rattle.wire.specs.Sessions.{streams_place, streams_from}
use Rattle.wire.proofs.streams.put_streams.Given as goal

abbrev pub invariant-loop-i : goal.invariant-loop-i
invariant-loop-i l = l.b ≡ put_words l.initial.b streams_place (streams_from l.s l.i 0)
