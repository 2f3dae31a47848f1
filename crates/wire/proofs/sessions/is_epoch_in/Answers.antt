-- By the phase's number.
use Rattle.wire.proofs.FormedInPlace.{epoch-number}
use Rattle.wire.proofs.sessions.is_epoch_in.Goals as goal

pub returns : goal.returns
returns c = epoch-number c.args.phase c.args.epoch
