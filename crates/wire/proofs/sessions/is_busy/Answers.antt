-- After i rounds the flag says whether one of the first i streams is interrupted.
use native.Mathlib.Omega.{arith}
use native.Mathlib.Numerals.{add-one}
use mathlib.Core.Path.{◌≡◌, ap, ◌∙◌}
use Rattle.session.specs.Session.{stream_places}
use Rattle.session.specs.Formed.{some_below, interrupted, busy}
use Rattle.wire.specs.Bytes.{words_of}
use Rattle.wire.specs.Sessions.{session_of}
use Rattle.wire.proofs.FormedInPlace.{flag-tells}
use Rattle.wire.proofs.sessions.is_busy.Goals as goal

pub loop-i-preserved : goal.loop-i-preserved
loop-i-preserved c = let at-loop = c.loop-i in
    let w = words_of c.args.b.now in
    rw (add-one at-loop.i, at-loop.invariant, c.number.ensures, c.stream_place.ensures, flag-tells w at-loop.i (omega arith))

pub returns : goal.returns
unfolding busy
returns c = let end : c.loop-i.i ≡ stream_places = omega arith in
    c.loop-i.invariant ∙ ap (some_below (interrupted (session_of (words_of c.args.b.now)))) end
