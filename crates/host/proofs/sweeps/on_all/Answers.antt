-- Past 40 what is left is by the verdict (`sweep-left`), and else 40.
use Rattle.std.proofs.Common.{rules, ℕ, get_or, Fits, w8}
use mathlib.Core.Path.{refl, ◌∙◌}
use Rattle.refusals.specs.Refusals.{number_of}
use Rattle.refusals.proofs.Laws.{number-pos}
use Rattle.session.specs.declared.changes.Change.TheVariants.{Nothing}
use Rattle.calls.specs.declared.Call.TheVariants.{OnAll}
use Rattle.wire.specs.Sessions.{written_by}
use Rattle.host.specs.Host.{lent}
use Rattle.host.proofs.LayoutLaws.{sound-means, lent-sound, table-whole, host-unsound, host-unlent}
use Rattle.host.proofs.SweepLaws.{sweep-left}
use Rattle.host.proofs.sweeps.on_all.Goals as goal

pub returns-in_err-session : goal.returns-in_err-session
returns-in_err-session c =
    let none = rw c.in_err-session.ensures.ok_part at c.as_mut_array.ensures.cases in
    let e = host-unlent (OnAll c.args.k) (lent c.args.session.now c.args.table.now) none in
    record { value = rw e (search rules); session_after = rw e; table_after = rw e }

pub returns-in_err-allow_lent : goal.returns-in_err-allow_lent
returns-in_err-allow_lent c =
    let chunk = rw c.in_ok-session.ensures.ok_part at c.as_mut_array.ensures.cases in
    let e = host-unsound (OnAll c.args.k) (lent c.args.session.now c.args.table.now) refl _ (rw chunk.same at c.in_err-allow_lent.ensures) in
    record { value = rw e (search rules); session_after = rw e chunk.same; table_after = rw e }

pub sweep_all-requires : goal.sweep_all-requires
sweep_all-requires c = table-whole _ (sound-means _ _ (lent-sound _ _ c.in_ok-allow_lent.ensures)).table

pub returns-in_err-change : goal.returns-in_err-change
unfolding written_by
returns-in_err-change c =
    let a = c.args in
    let chunk = rw c.in_ok-session.ensures.ok_part at c.as_mut_array.ensures.cases in
    let x : (i : ℕ) → Fits w8 (get_or a.session.now i 0) = search rules in
    let y : (i : ℕ) → Fits w8 (get_or a.table.now i 0) = search rules in
    let holds = lent-sound _ _ c.in_ok-allow_lent.ensures in
    let refusal = c.in_err-change.field-0.0 in
    let left = sweep-left a.k a.session.now a.table.now (record { code = number_of refusal; change = Nothing }) (λ i. (x i).fits) (λ i. (y i).fits) (sound-means _ _ (rw chunk.same at holds)) (rw chunk.same at (c.in_err-change.ensures holds)) in
    let kept = rw (number-pos refusal) at left in
    record { value = rw (← kept.0) (search rules); session_after = chunk.same ∙ kept.1.0; table_after = kept.1.1 }

pub returns : goal.returns
returns c =
    let a = c.args in
    let chunk = rw c.in_ok-session.ensures.ok_part at c.as_mut_array.ensures.cases in
    let x : (i : ℕ) → Fits w8 (get_or a.session.now i 0) = search rules in
    let y : (i : ℕ) → Fits w8 (get_or a.table.now i 0) = search rules in
    let holds = lent-sound _ _ c.in_ok-allow_lent.ensures in
    let done = sweep-left a.k a.session.now a.table.now _ (λ i. (x i).fits) (λ i. (y i).fits) (sound-means _ _ (rw chunk.same at holds)) (rw chunk.same at (c.in_ok-change.ensures holds)) in
    record { value = done.0; session_after = rw chunk.same at c.put_change.ensures ∙ done.1.0; table_after = c.sweep_all.ensures ∙ done.1.1 }
