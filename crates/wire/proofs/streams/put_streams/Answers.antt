-- After i rounds the words of the first i streams are in their places.
use mathlib.Core.Path.{◌≡◌, sym, ap, ◌∙◌}
use mathlib.Core.List.{List, ◌++◌}
use Prim.Native.Nat.{ℕ, ◌+◌}
use native.Mathlib.Omega.{arith}
use native.Mathlib.Numerals.{add-one}
use native.Mathlib.Nat.{zero-add}
use lib.ListN.{length}
use Rattle.session.specs.Session.{stream_places, work_of}
use Rattle.session.specs.declared.Session.{Session}
use Rattle.wire.specs.Bytes.{put_words}
use Rattle.wire.specs.Sessions.{streams_place, stream_place, work_words, five, streams_from}
use Rattle.wire.proofs.SessionLaws.{streams-next, streams-length}
use Rattle.wire.proofs.ChangeLaws.{put-none, put_then}
use Rattle.wire.proofs.streams.put_streams.Goals as goal

-- a turn
next : (b₀ b : List ℕ) (s : Session) (i : ℕ) → b ≡ put_words b₀ streams_place (streams_from s i 0) →
    put_words b (stream_place i) (five (work_words (work_of s i))) ≡ put_words b₀ streams_place (streams_from s (i + 1) 0)
next b₀ b s i e =
    let more : streams_place + length (streams_from s i 0) ≡ stream_place i = omega (arith, streams-length s i 0) in
    ap (λ (l : List ℕ). put_words l (stream_place i) (five (work_words (work_of s i)))) e
    ∙ put_then b₀ (streams_from s i 0) (five (work_words (work_of s i))) streams_place (stream_place i) more
    ∙ ap (put_words b₀ streams_place) (ap (λ (k : ℕ). streams_from s i 0 ++ five (work_words (work_of s k))) (sym (zero-add i)) ∙ sym (streams-next s i 0)
    ∙ ap (λ (k : ℕ). streams_from s k 0) (sym (add-one i)))

pub loop-i-init : goal.loop-i-init
loop-i-init c = sym (put-none _ streams_place)

pub loop-i-preserved : goal.loop-i-preserved
loop-i-preserved c = let at-loop = c.loop-i in
    let s = c.args.s in
    rw (c.put_work.ensures, c.work_of.ensures) (next _ at-loop.b s at-loop.i at-loop.invariant)

pub returns : goal.returns
returns c = let end : c.loop-i.i ≡ stream_places = omega arith in
    rw (c.loop-i.invariant, end)
