-- Refused, everything stays as it came; else there are a new session and a cleared table.
use borrow.Author.Rules.{rules}
use Rattle.refusals.proofs.Laws.{number-pos}
use Rattle.session.specs.Outcome.{answered}
use Rattle.memory.specs.Memory.{new_out}
use Rattle.memory.proofs.new.Goals as goal

pub returns-in_err-allow_new-clause-value : goal.returns-in_err-allow_new-clause-value
unfolding new_out answered
returns-in_err-allow_new-clause-value c = rw (← c.in_err-allow_new.ensures, number-pos c.in_err-allow_new.field-0.0) (search rules)

pub returns-in_err-allow_new-clause-table_after : goal.returns-in_err-allow_new-clause-table_after
unfolding new_out answered
returns-in_err-allow_new-clause-table_after c = rw (← c.in_err-allow_new.ensures, number-pos c.in_err-allow_new.field-0.0)

pub returns-clause-value : goal.returns-clause-value
unfolding new_out answered
returns-clause-value c = rw (← c.in_ok-allow_new.ensures, c.new_session-session.ensures)

pub returns-clause-table_after : goal.returns-clause-table_after
unfolding new_out answered
returns-clause-table_after c = rw (← c.in_ok-allow_new.ensures) (search rules)
