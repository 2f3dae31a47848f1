-- Five words, one behind the other.
use Rattle.wire.proofs.ChangeLaws.{put_five}
use Rattle.wire.proofs.sessions.put_own.Goals as goal

pub returns : goal.returns
returns c = rw (
  c.put_number-5.ensures,
  c.put_number-4.ensures,
  c.put_number-3.ensures,
  c.put_number-2.ensures,
  c.put_number.ensures,
  c.from.ensures,
)
    (put_five _ 0 _ _ _ _ _)
