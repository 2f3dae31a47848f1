-- A part of the bytes, cleared.
use native.Mathlib.Omega.{arith}
use mathlib.Core.Path.{◌≡◌}
use Rattle.std.proofs.Common.{rules}
use lib.ListN.{length, take, drop, replicate, length-drop}
use lib.Seq.{length-take-le}
use Rattle.wire.proofs.ChangeLaws.{put-zeros}
use Rattle.wire.proofs.streams.rest_streams.Goals as goal

pub returns : goal.returns
returns c = let b = c.args.b.now in
    let long : length (take 320 (drop 64 b)) ≡ 320 = length-take-le 320 (drop 64 b) (rw (length-drop 64 b) (omega arith)) in
    let zeros : c.fill.new.self ≡ replicate (length (take 320 (drop 64 b))) 0 = search rules in
    rw (zeros, long) (put-zeros b 8 40 (omega arith))
