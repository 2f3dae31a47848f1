-- Past 40 what is left is by the verdict (`alone-left`), and else 40.
use Rattle.std.proofs.Common.{rules, ℕ, get_or, Fits, w8}
use mathlib.Core.Path.{refl, ◌∙◌}
use native.Mathlib.Omega.{arith}
use Rattle.refusals.proofs.Laws.{number-pos}
use Rattle.migration.specs.Migration.{alone_verdict}
use Rattle.calls.specs.declared.Call.TheVariants.{OnSession}
use Rattle.wire.specs.Bytes.{Bytes}
use Rattle.wire.specs.Sessions.{written_by}
use Rattle.host.specs.Host.{lent}
use Rattle.host.proofs.LayoutLaws.{sound-means, lent-sound, host-unsound, host-unlent}
use Rattle.host.proofs.TablesLaws.{alone-left}
use Rattle.host.proofs.tables.on_session.Goals as goal

pub returns-in_err-session : goal.returns-in_err-session
returns-in_err-session c =
    let none = rw c.in_err-session.ensures.ok_part at c.as_mut_array.ensures.cases in
    let e = host-unlent (OnSession c.args.k) (lent c.args.session.now c.args.table.now) none in
    record { value = rw e (search rules); session_after = rw e; table_value = rw e }

pub returns-in_err-allow_lent : goal.returns-in_err-allow_lent
returns-in_err-allow_lent c =
    let chunk = rw c.in_ok-session.ensures.ok_part at c.as_mut_array.ensures.cases in
    let e = host-unsound (OnSession c.args.k) (lent c.args.session.now c.args.table.now) refl _ (rw chunk.same at c.in_err-allow_lent.ensures) in
    record { value = rw e (search rules); session_after = rw e chunk.same; table_value = rw e }

pub returns-in_err-allow_phase : goal.returns-in_err-allow_phase
unfolding alone_verdict written_by
returns-in_err-allow_phase c =
    let a = c.args in
    let chunk = rw c.in_ok-session.ensures.ok_part at c.as_mut_array.ensures.cases in
    let fits : (i : ℕ) → Fits w8 (get_or a.session.now i 0) = search rules in
    let x : Bytes a.session.now = λ i. (fits i).fits in
    let y : Bytes a.table.now = λ i. omega (arith, c.type_inv.table i) in
    let gate = rw (c.phase_at.ensures, c.alone_when.ensures, chunk.same) at c.in_err-allow_phase.ensures in
    let left = alone-left a.k a.session.now a.table.now _ x y (sound-means _ _ (rw chunk.same at (lent-sound _ _ c.in_ok-allow_lent.ensures))) gate in
    let refuses = number-pos c.in_err-allow_phase.field-0.0 in
    let kept = rw (refuses, refuses) at left in
    record { value = rw (← kept.0) (search rules); session_after = chunk.same ∙ kept.1.0; table_value = kept.1.1 }

pub returns-in_err-change : goal.returns-in_err-change
unfolding written_by
returns-in_err-change c =
    let a = c.args in
    let chunk = rw c.in_ok-session.ensures.ok_part at c.as_mut_array.ensures.cases in
    let fits : (i : ℕ) → Fits w8 (get_or a.session.now i 0) = search rules in
    let x : Bytes a.session.now = λ i. (fits i).fits in
    let y : Bytes a.table.now = λ i. omega (arith, c.type_inv.table i) in
    let gate = rw (c.phase_at.ensures, c.alone_when.ensures, chunk.same) at c.in_ok-allow_phase.ensures in
    let left = alone-left a.k a.session.now a.table.now _ x y (sound-means _ _ (rw chunk.same at (lent-sound _ _ c.in_ok-allow_lent.ensures))) gate in
    let made = rw (c.is_busy.ensures, c.epoch_at.ensures, chunk.same) at c.in_err-change.ensures in
    let kept = rw (← made) at left in
    record { value = rw (← kept.0) (search rules); session_after = chunk.same ∙ kept.1.0; table_value = kept.1.1 }

pub returns : goal.returns
returns c =
    let a = c.args in
    let chunk = rw c.in_ok-session.ensures.ok_part at c.as_mut_array.ensures.cases in
    let fits : (i : ℕ) → Fits w8 (get_or a.session.now i 0) = search rules in
    let x : Bytes a.session.now = λ i. (fits i).fits in
    let y : Bytes a.table.now = λ i. omega (arith, c.type_inv.table i) in
    let gate = rw (c.phase_at.ensures, c.alone_when.ensures, chunk.same) at c.in_ok-allow_phase.ensures in
    let left = alone-left a.k a.session.now a.table.now _ x y (sound-means _ _ (rw chunk.same at (lent-sound _ _ c.in_ok-allow_lent.ensures))) gate in
    let made = rw (c.is_busy.ensures, c.epoch_at.ensures, chunk.same) at c.in_ok-change.ensures in
    let done = rw (← made) at left in
    record { value = done.0; session_after = rw chunk.same at c.put_change.ensures ∙ done.1.0; table_value = done.1.1 }
