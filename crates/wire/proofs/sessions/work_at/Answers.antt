-- Each way out is the definition at the tests that led there.
use borrow.Author.Tests.{le-ltb, eq-eqb, ne_eqb}
use mathlib.Core.Path.{ap, ◌∙◌}
use Rattle.session.specs.Session.{work_of}
use Rattle.wire.specs.Bytes.{words_of}
use Rattle.wire.specs.Sessions.{five_at}
use Rattle.wire.proofs.SessionLaws.{work-told}
use Rattle.wire.proofs.sessions.work_at.Goals as goal

pub returns-then-x-ne0 : goal.returns-then-x-ne0
returns-then-x-ne0 c = let w = words_of c.args.b.now in
    let i = c.args.stream in
    let words = c.five_at-x.ensures ∙ ap (five_at w) c.stream_place.ensures in
    rw (work-told w i c.five_at-x.result c.if-stream.true words, ne_eqb _ _ c.if-x-ne0.true)

pub returns-else-x-ne0 : goal.returns-else-x-ne0
returns-else-x-ne0 c = let w = words_of c.args.b.now in
    let i = c.args.stream in
    let words = c.five_at-x.ensures ∙ ap (five_at w) c.stream_place.ensures in
    rw (work-told w i c.five_at-x.result c.if-stream.true words, eq-eqb _ _ c.if-x-ne0.false)

pub returns-else-stream : goal.returns-else-stream
unfolding work_of
returns-else-stream c = rw (le-ltb _ _ c.if-stream.false)
