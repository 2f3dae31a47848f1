-- The words' tests are the cases of the definition, with the streams' apart.
use Rattle.wire.specs.Bytes.{words_of}
use Rattle.wire.specs.Sessions.{session_of}
use Rattle.wire.proofs.FormedInPlace.{moving-number, formed-in-place}
use Rattle.wire.proofs.sessions.is_formed.Goals as goal

pub returns : goal.returns
unfolding session_of
returns c = rw (
  c.are_streams-streams.ensures,
  c.is_epoch_in-epoch_in.ensures,
  c.is_legal-legal.ensures,
  c.number-failed.ensures,
  c.number-complete.ensures,
  c.number-place.ensures,
  c.number-created.ensures,
  c.number-epoch.ensures,
  c.number-tlb.ensures,
  c.number-pages.ensures,
  c.number-phase.ensures,
  moving-number _,
)
    (formed-in-place (words_of c.args.b.now) c.args.len)
