-- Past 40 what is left is by the token (`token-left`), and else 40.
use Rattle.std.proofs.Common.{rules, ℕ, get_or, Fits, w8}
use mathlib.Core.Path.{refl, ◌∙◌}
use native.Mathlib.Omega.{arith}
use Rattle.migration.proofs.Laws.{refused-nothing}
use Rattle.calls.specs.declared.Call.TheVariants.{StartToken}
use Rattle.wire.specs.Bytes.{Bytes}
use Rattle.wire.specs.Sessions.{written_by}
use Rattle.host.specs.Host.{lent}
use Rattle.host.proofs.LayoutLaws.{sound-means, lent-sound, host-unsound, host-unlent}
use Rattle.host.proofs.TablesLaws.{token-left}
use Rattle.host.proofs.tables.start_token.Goals as goal

pub returns-in_err-session : goal.returns-in_err-session
returns-in_err-session c =
    let none = rw c.in_err-session.ensures.ok_part at c.as_mut_array.ensures.cases in
    let e = host-unlent StartToken (lent c.args.session.now c.args.table.now) none in
    record { value = rw e (search rules); session_after = rw e; table_value = rw e }

pub returns-in_err-allow_lent : goal.returns-in_err-allow_lent
returns-in_err-allow_lent c =
    let chunk = rw c.in_ok-session.ensures.ok_part at c.as_mut_array.ensures.cases in
    let e = host-unsound StartToken (lent c.args.session.now c.args.table.now) refl _ (rw chunk.same at c.in_err-allow_lent.ensures) in
    record { value = rw e (search rules); session_after = rw e chunk.same; table_value = rw e }

pub returns-in_err-token_at : goal.returns-in_err-token_at
unfolding written_by
returns-in_err-token_at c =
    let a = c.args in
    let chunk = rw c.in_ok-session.ensures.ok_part at c.as_mut_array.ensures.cases in
    let fits : (i : ℕ) → Fits w8 (get_or a.session.now i 0) = search rules in
    let x : Bytes a.session.now = λ i. (fits i).fits in
    let y : Bytes a.table.now = λ i. omega (arith, c.type_inv.table i) in
    let sounds = lent-sound _ _ c.in_ok-allow_lent.ensures in
    let left = token-left a.session.now a.table.now _ x y (sound-means _ _ (rw chunk.same at sounds)) (rw chunk.same at (c.in_err-token_at.ensures sounds)) in
    let kept = rw refused-nothing at left in
    record { value = rw (← kept.0) (search rules); session_after = chunk.same ∙ kept.1.0; table_value = kept.1.1 }

pub returns : goal.returns
returns c =
    let a = c.args in
    let chunk = rw c.in_ok-session.ensures.ok_part at c.as_mut_array.ensures.cases in
    let fits : (i : ℕ) → Fits w8 (get_or a.session.now i 0) = search rules in
    let x : Bytes a.session.now = λ i. (fits i).fits in
    let y : Bytes a.table.now = λ i. omega (arith, c.type_inv.table i) in
    let sounds = lent-sound _ _ c.in_ok-allow_lent.ensures in
    let done = token-left a.session.now a.table.now _ x y (sound-means _ _ (rw chunk.same at sounds)) (rw chunk.same at (c.in_ok-token_at.ensures sounds)) in
    record { value = done.0; session_after = rw (chunk.same, c.granted.ensures) at c.put_change.ensures ∙ done.1.0; table_value = done.1.1 }
