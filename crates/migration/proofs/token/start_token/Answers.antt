-- A refusal before the look at the table is by the session alone; past it, the case is by what is found.
use mathlib.Core.Path.{◌≡◌, sym, ◌∙◌}
use mathlib.Core.List.{List}
use Prim.Native.Nat.{ℕ}
use Rattle.std.proofs.Common.{Result, Ok, arith}
use Rattle.std.proofs.lemmas.Result.{err_from_is_err_and}
use Rattle.session.specs.declared.Session.{Session}
use Rattle.session.proofs.Laws.{gate-refused, gate-passed}
use Rattle.migration.specs.Token.{token_gate, token_answer_of, token_out}
use Rattle.migration.specs.declared.token.Obstacle.{Obstacle}
use Rattle.migration.proofs.Laws.{token-refused, token-passed, token-says, refused-nothing}
use Rattle.migration.proofs.token.start_token.Goals as goal

abbrev Answered : Session → List ℕ → Result Session Obstacle → Type 0
Answered s t r = token_answer_of s r ≡ token_out s t

pub returns-in_err-gate : goal.returns-in_err-gate
returns-in_err-gate c =
    let value : Answered c.args.s c.args.table.now c.from_residual.result = grind (arith, token-refused, gate-refused) in
    record { value = value; token_value = token-says c.args.s c.args.table.now _ value }

pub returns-in_err-allow_token : goal.returns-in_err-allow_token
returns-in_err-allow_token c =
    let value : Answered c.args.s c.args.table.now c.from_residual-in_err-allow_token.result = grind (arith, token-refused, gate-passed) in
    record { value = value; token_value = token-says c.args.s c.args.table.now _ value }

pub returns-in_err-look : goal.returns-in_err-look
returns-in_err-look c =
    let p = err_from_is_err_and c.from_residual-in_err-look.result c.from_residual-in_err-look.ensures.1 in
    let e = (rw c.is_busy.ensures at c.in_ok-allow_token.ensures) ∙ sym (gate-passed _ _ _ (token_gate c.args.s) c.in_ok-gate.ensures) in
    let value : Answered c.args.s c.args.table.now c.from_residual-in_err-look.result =
    rw (p.1, p.2, ← token-passed c.args.s c.args.table.now e, ← c.in_err-look.ensures, refused-nothing) in
    record { value = value; token_value = token-says c.args.s c.args.table.now _ value }

pub returns : goal.returns
returns c =
    let e = (rw c.is_busy.ensures at c.in_ok-allow_token.ensures) ∙ sym (gate-passed _ _ _ (token_gate c.args.s) c.in_ok-gate.ensures) in
    let value : Answered c.args.s c.args.table.now (Ok c.changed.result) =
    rw (← token-passed c.args.s c.args.table.now e, ← c.in_ok-look.ensures, c.changed.ensures, c.granted.ensures) in
    record { value = value; token_value = token-says c.args.s c.args.table.now (Ok c.changed.result) value }
