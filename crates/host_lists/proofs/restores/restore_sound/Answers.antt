-- A refusal is that of the tests (`coded`); past them there is the run in its place (`restore-ran`).
use Rattle.std.proofs.Common.{rules, ℕ, get_or, Fits, w8}
use mathlib.Core.Path.{◌≡◌, refl, sym, ap, ◌∙◌}
use mathlib.Core.Bool.{Bool, true, not}
use mathlib.Core.List.{List, [], ◌∷◌}
use Prim.Native.Nat.{◌/◌}
use lib.ListN.{length}
use Rattle.words.specs.Codes as codes
use Rattle.words.specs.Info.{info_of}
use Rattle.words.specs.declared.infos.Info.{Info}
use Rattle.refusals.specs.Refusals.{◌gives◌, first_of, number_of}
use Rattle.refusals.specs.declared.Refusal.{Refusal}
use Rattle.session.specs.Formed.{phase_tests, gated, behind}
use Rattle.session.specs.declared.Phase.{Phase}
use Rattle.session.specs.declared.Phase.TheVariants.{Idle}
use Rattle.session.proofs.Laws.{below_next}
use Rattle.restore.specs.Restore.{restore_asks, restore_code}
use Rattle.restore.proofs.Laws.{restore-ready, begun-counts}
use Rattle.calls.specs.declared.Call.TheVariants.{Restore}
use Rattle.wire.specs.Bytes.{words_of, Bytes}
use Rattle.wire.specs.Sessions.{session_of}
use Rattle.wire.proofs.BytesLaws.{words-length}
use Rattle.host.specs.Host.{lent_list, is_list, refused, in_words, host_of}
use Rattle.host.proofs.LayoutLaws.{Sound, sound-means, table-whole}
use Rattle.host.proofs.ListLaws.{list-whole, restore-comes}
use Rattle.host_lists.proofs.Gates.{gate_for, behind-refusal, listed-passed, listed-refused}
use Rattle.host_lists.proofs.Runs.{no_words, restored_numbers, list-words, restore-refuses, restore-ran}
use Rattle.host_lists.proofs.restores.restore_sound.Goals as goal

module _ (s t l : List ℕ) (x : Info) where
  -- the call's own tests, behind those of the C side
  abbrev told : ℕ
  told = behind (gate_for (Idle ∷ []) (lent_list s t l)) (restore_asks (length (words_of l)) x)

  -- the code is theirs
  coded : (phase : Phase) (whole : Bool) (gate code : ℕ) → phase ≡ (session_of (words_of s)).phase → whole ≡ is_list (length l) →
      gate ≡ first_of (phase_tests phase (Idle ∷ []) (not whole gives codes.operand_invalid ∷ [])) →
      code ≡ behind gate (restore_asks (length l / 8) x) → told ≡ code
  coded phase whole gate code p w g e = sym (rw (list-words s t l, words-length l, ← w, ← p, ← g) e)

  module _ (info budget : ℕ) (h : Sound s (length t)) where
    -- a refusal
    refuses : x ≡ info_of info → (r : Refusal) → told ≡ number_of r →
        host_of (Restore info budget) (lent_list s t l) ≡ refused (number_of r) (lent_list s t l)
    refuses is =
        listed-refused (Restore info budget) (Idle ∷ []) (restore-comes info budget) (lent_list s t l) h (restore_asks (length (words_of l)) x) refl
        (restore-refuses (session_of (words_of s)) (words_of t) (words_of l) (words_of []) info budget x is)

    -- or past them
    passes : told ≡ 0 →
        (in_words (lent_list s t l) ≡ true)
        × (gated (session_of (words_of s)) (length (words_of t)) (Idle ∷ []) (restore_asks (length (words_of l)) x) ≡ 0)
    passes = listed-passed (Restore info budget) (Idle ∷ []) (restore-comes info budget) (lent_list s t l) h _

pub returns-in_err-gate : goal.returns-in_err-gate
returns-in_err-gate c =
    let a = c.args in
    let r = c.in_err-gate.field-0.0 in
    let told = coded a.session.now a.table.now a.list.now (info_of a.info) _ _ _ _ c.phase_at-phase.ensures c.is_list.ensures c.in_err-gate.ensures
    (behind-refusal r (restore_asks (length a.list.now / 8) (info_of a.info))) in
    let left = refuses a.session.now a.table.now a.list.now (info_of a.info) a.info a.budget (sound-means _ _ c.requires) refl r told in
    record { value = rw left (search rules); session_value = rw left; table_after = rw left; list_after = rw left }

pub returns-in_err-allow_restore : goal.returns-in_err-allow_restore
returns-in_err-allow_restore c =
    let a = c.args in
    let told = coded a.session.now a.table.now a.list.now c.from-x.result _ _ _ _ c.phase_at-phase.ensures c.is_list.ensures c.in_ok-gate.ensures
    c.in_err-allow_restore.ensures in
    let left = refuses a.session.now a.table.now a.list.now c.from-x.result a.info a.budget (sound-means _ _ c.requires) c.from-x.ensures.0
    c.in_err-allow_restore.field-0.0 told in
    record { value = rw left (search rules); session_value = rw left; table_after = rw left; list_after = rw left }

pub run_entries-at-requires : goal.run_entries-at-requires
unfolding restore_code
run_entries-at-requires c =
    let a = c.args in
    let x = c.from-x.result in
    let h = sound-means _ _ c.requires in
    let told = coded a.session.now a.table.now a.list.now x _ _ _ 0 c.phase_at-phase.ensures c.is_list.ensures c.in_ok-gate.ensures
    c.in_ok-allow_restore.ensures in
    let p = passes a.session.now a.table.now a.list.now x a.info a.budget h told in
    let ready = restore-ready _ _ (length (words_of a.list.now)) x p.1 in
    let from = c.begin-from.ensures in
    record {
      table_len = (table-whole _ h.table, list-whole _ (sym (list-words a.session.now a.table.now a.list.now) ∙ p.0), refl);
      last_in_bounds = (
        rw (words-length a.list.now) at ready.within,
        ready.short,
        rw from (below_next _ _ ready.ordered),
        rw from (begun-counts x).errors,
        rw from (begun-counts x).filled,
      );
    }

pub returns : goal.returns
returns c =
    let a = c.args in
    let x = c.from-x.result in
    let h = sound-means _ _ c.requires in
    let told = coded a.session.now a.table.now a.list.now x _ _ _ 0 c.phase_at-phase.ensures c.is_list.ensures c.in_ok-gate.ensures
    c.in_ok-allow_restore.ensures in
    let p = passes a.session.now a.table.now a.list.now x a.info a.budget h told in
    let fits : (i : ℕ) → Fits w8 (get_or a.session.now i 0) = search rules in
    let bytes : Bytes a.session.now = λ i. (fits i).fits in
    let left = restore-ran a.session.now a.table.now a.list.now bytes h a.info a.budget x c.from-x.ensures.0 p.0 p.1 in
    let ran = rw (c.ground_at-g.ensures, c.begin-from.ensures, no_words) at c.run_entries-at.ensures in
    record {
      value = rw (left, ← ran.value) (ap restored_numbers c.end.ensures);
      session_value = rw left;
      table_after = rw left ran.table_after;
      list_after = rw left ran.list_after;
    }
