-- The definition's fields, with the check and the streams that the two functions give.
use Rattle.session.proofs.new_session.Goals as goal

pub returns : goal.returns
returns c = rw (c.no_check-check.ensures, c.at_rest-streams.ensures)
