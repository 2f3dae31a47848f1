-- The parts' words, put one behind the other into as many places as there are words.
use Rattle.std.proofs.Common.{rules}
use Prim.Native.Nat.{◌*◌}
use lib.ListN.{length}
use mathlib.Core.Path.{◌≡◌, refl, ◌∙◌}
use mathlib.Core.List.{◌++◌}
use Rattle.session.specs.Session.{stream_places}
use Rattle.wire.specs.Sessions.{session_length, own_words, check_words, streams_from, session_words}
use Rattle.wire.proofs.ChangeLaws.{put_then, put_all}
use Rattle.wire.proofs.sessions.put_session.Goals as goal

pub returns : goal.returns
unfolding session_words
returns c = let s = c.args.s in
    let b = c.args.b.now in
    let long : length b ≡ 8 * session_length = search rules in
    rw (
      c.put_streams.ensures,
      c.put_check.ensures,
      c.put_own.ensures,
      put_then b (own_words s) (check_words s.check) 0 5 refl,
    )
    (put_then b (own_words s ++ check_words s.check) (streams_from s stream_places 0) 0 8 refl ∙ put_all b (session_words s) long)
