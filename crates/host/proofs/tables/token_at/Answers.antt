-- Past 40 the gate asks for the phase alone, and what is looked for is what the token asks for.
use mathlib.Core.Path.{sym, ◌∙◌}
use mathlib.Core.List.{[]}
use lib.ListN.{length}
use Rattle.std.proofs.lemmas.Result.{err_from_is_err_and}
use Rattle.session.specs.Session.{phases_of}
use Rattle.session.specs.declared.When.TheVariants.{Blackout}
use Rattle.session.proofs.Laws.{gate-formed, gate-refused, gate-passed}
use Rattle.migration.specs.Token.{token_gate}
use Rattle.migration.proofs.Laws.{token-refused, token-passed}
use Rattle.wire.specs.Bytes.{words_of}
use Rattle.wire.specs.Sessions.{session_of}
use Rattle.host.proofs.LayoutLaws.{sound-means, table-formed}
use Rattle.host.proofs.tables.token_at.Goals as goal

pub returns-in_err-allow_phase : goal.returns-in_err-allow_phase
returns-in_err-allow_phase c = λ e.
    let a = c.args in
    let t = words_of a.table.now in
    let s = session_of (words_of a.session.now) in
    let p = err_from_is_err_and c.from_residual.result c.from_residual.ensures.1 in
    let comes = rw c.phase_at.ensures at c.in_err-allow_phase.ensures
    ∙ sym (gate-formed s (length t) (phases_of Blackout) [] (table-formed a.session.now a.table.now (sound-means _ _ e))) in
    rw (p.1, p.2) (token-refused s t _ (sym (gate-refused s (length t) (phases_of Blackout) (token_gate s) _ comes)))

pub returns-in_err-allow_token : goal.returns-in_err-allow_token
returns-in_err-allow_token c = λ e.
    let a = c.args in
    let t = words_of a.table.now in
    let s = session_of (words_of a.session.now) in
    let p = err_from_is_err_and c.from_residual-in_err-allow_token.result c.from_residual-in_err-allow_token.ensures.1 in
    let comes = rw c.phase_at.ensures at c.in_ok-allow_phase.ensures
    ∙ sym (gate-formed s (length t) (phases_of Blackout) [] (table-formed a.session.now a.table.now (sound-means _ _ e))) in
    let asked = rw (c.is_busy.ensures, c.check_at.ensures) at c.in_err-allow_token.ensures in
    rw (p.1, p.2) (token-refused s t _ (asked ∙ sym (gate-passed s (length t) (phases_of Blackout) (token_gate s) comes)))

pub returns : goal.returns
returns c = λ e.
    let a = c.args in
    let t = words_of a.table.now in
    let s = session_of (words_of a.session.now) in
    let comes = rw c.phase_at.ensures at c.in_ok-allow_phase.ensures
    ∙ sym (gate-formed s (length t) (phases_of Blackout) [] (table-formed a.session.now a.table.now (sound-means _ _ e))) in
    let asked = rw (c.is_busy.ensures, c.check_at.ensures) at c.in_ok-allow_token.ensures in
    rw c.look.ensures (token-passed s t (asked ∙ sym (gate-passed s (length t) (phases_of Blackout) (token_gate s) comes)))
