-- The gate's refusal is the call's; behind a gate that is passed the answer is what the call comes to.
use Rattle.std.proofs.Common.{rules, arith}
use Rattle.migration.proofs.Laws.{alone-gate, alone-told}
use Rattle.migration.proofs.on_session.Goals as goal

pub returns-in_err-gate : goal.returns-in_err-gate
returns-in_err-gate c = search (rules, alone-gate)

pub returns-in_err-change : goal.returns-in_err-change
returns-in_err-change c = grind (arith, alone-told)

pub returns : goal.returns
returns c = grind (arith, alone-told)
