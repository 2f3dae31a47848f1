-- The tests are the cases of the definition, in its order.
use Rattle.session.proofs.FormedLaws.{formed-from}
use Rattle.session.proofs.is_formed.Goals as goal

pub returns : goal.returns
returns c = rw (c.is_epoch_in-epoch.ensures, c.is_legal-legal.ensures, c.comes_in-comes.ensures, c.find_interrupted-found.ensures) (formed-from _ _)
