-- The words of the work, in its stream's place.
use Rattle.wire.proofs.streams.put_work.Goals as goal

pub returns : goal.returns
returns c = rw (c.put_five.ensures, c.stream_words.ensures, c.stream_place.ensures)
