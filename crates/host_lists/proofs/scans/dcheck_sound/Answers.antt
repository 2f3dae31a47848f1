-- A refusal is that of the tests (`coded`); past them there is the run in its place (`dcheck-ran`).
use Rattle.std.proofs.Common.{rules, get_or, w8}
use Rattle.std.proofs.Common as std
use mathlib.Core.Path.{◌≡◌, refl, sym, ap, ◌∙◌}
use mathlib.Core.Bool.{Bool, true, not}
use mathlib.Core.List.{List, [], ◌∷◌}
use Prim.Native.Nat.{ℕ, ◌-◌, ◌≤◌, ◌/◌}
use native.Mathlib.Omega.{arith}
use lib.ListN.{length}
use Rattle.words.specs.Codes as codes
use Rattle.refusals.specs.Refusals.{◌gives◌, first_of, number_of}
use Rattle.refusals.specs.declared.Refusal.{Refusal}
use Rattle.session.specs.Formed.{phase_tests, gated, behind}
use Rattle.session.specs.declared.Phase.{Phase}
use Rattle.session.specs.declared.Phase.TheVariants.{Blackout}
use Rattle.session.specs.declared.Check.{Check}
use Rattle.session.specs.declared.Session.{Session}
use Rattle.scan.specs.Scan.{dcheck_code, dcheck_asks, dcheck_tests}
use Rattle.scan.proofs.Laws.{Fits, dcheck-fits}
use Rattle.calls.specs.declared.Call.TheVariants.{Dcheck}
use Rattle.wire.specs.Bytes.{words_of}
use Rattle.wire.specs.Sessions.{session_of}
use Rattle.wire.proofs.BytesLaws.{words-length}
use Rattle.host.specs.Host.{lent_list, is_list, refused, in_words, host_of}
use Rattle.host.proofs.LayoutLaws.{Sound, sound-means, table-whole}
use Rattle.host.proofs.ListLaws.{list-whole, dcheck-comes}
use Rattle.host_lists.specs.Inside.{scanned_numbers}
use Rattle.host_lists.proofs.Gates.{gate_for, behind-refusal, listed-passed, listed-refused}
use Rattle.host_lists.proofs.Runs.{list-words, dcheck-refuses, dcheck-ran}
use Rattle.host_lists.proofs.scans.dcheck_sound.Goals as goal

module _ (s t l : List ℕ) where
  abbrev read : Session
  read = session_of (words_of s)

  -- the call's own tests, behind those of the C side
  abbrev told : ℕ
  told = behind (gate_for (Blackout ∷ []) (lent_list s t l)) (dcheck_tests read (length (words_of l)))

  -- the code is theirs
  coded : (phase : Phase) (check : Check) (whole : Bool) (gate code : ℕ) → phase ≡ read.phase → check ≡ read.check → whole ≡ is_list (length l) →
      gate ≡ first_of (phase_tests phase (Blackout ∷ []) (not whole gives codes.operand_invalid ∷ [])) →
      code ≡ behind gate (dcheck_asks check (length l / 8)) → told ≡ code
  coded phase check whole gate code p k w g e = sym (rw (list-words s t l, words-length l, ← w, ← p, ← g, ← k) e)

  module _ (h : Sound s (length t)) (budget : ℕ) where
    -- a refusal
    refuses : (r : Refusal) → told ≡ number_of r → host_of (Dcheck budget) (lent_list s t l) ≡ refused (number_of r) (lent_list s t l)
    refuses =
        listed-refused (Dcheck budget) (Blackout ∷ []) (dcheck-comes budget) (lent_list s t l) h (dcheck_tests read (length (words_of l))) refl
        (dcheck-refuses read (words_of t) (words_of l) (words_of []) budget)

    -- or past them
    passes : told ≡ 0 →
        (in_words (lent_list s t l) ≡ true) × (gated read (length (words_of t)) (Blackout ∷ []) (dcheck_tests read (length (words_of l))) ≡ 0)
    passes = listed-passed (Dcheck budget) (Blackout ∷ []) (dcheck-comes budget) (lent_list s t l) h _

    -- where the range lies
    lies : told ≡ 0 → (read.check.place ≤ read.fixed.pages) × Fits (length (words_of t)) read.check.place (read.fixed.pages - read.check.place)
    unfolding dcheck_code
    lies z = dcheck-fits read (length (words_of t)) (length (words_of l)) (passes z).1

pub returns-in_err-gate : goal.returns-in_err-gate
returns-in_err-gate c =
    let a = c.args in
    let r = c.in_err-gate.field-0.0 in
    let told = coded a.session.now a.table.now a.list.now _ _ _ _ _ c.phase_at-phase.ensures refl c.is_list.ensures c.in_err-gate.ensures
    (behind-refusal r (dcheck_asks (session_of (words_of a.session.now)).check (length a.list.now / 8))) in
    let left = refuses a.session.now a.table.now a.list.now (sound-means _ _ c.requires) a.budget r told in
    record { value = rw left (search rules); session_after = rw left; table_after = rw left; list_after = rw left }

pub returns-in_err-allow_dcheck : goal.returns-in_err-allow_dcheck
returns-in_err-allow_dcheck c =
    let a = c.args in
    let told = coded a.session.now a.table.now a.list.now _ _ _ _ _ c.phase_at-phase.ensures c.check_at-check.ensures c.is_list.ensures
    c.in_ok-gate.ensures c.in_err-allow_dcheck.ensures in
    let left = refuses a.session.now a.table.now a.list.now (sound-means _ _ c.requires) a.budget c.in_err-allow_dcheck.field-0.0 told in
    record { value = rw left (search rules); session_after = rw left; table_after = rw left; list_after = rw left }

pub overflow_sub-pages_at : goal.overflow_sub-pages_at
overflow_sub-pages_at c =
    let a = c.args in
    let told = coded a.session.now a.table.now a.list.now _ _ _ _ 0 c.phase_at-phase.ensures c.check_at-check.ensures c.is_list.ensures
    c.in_ok-gate.ensures c.in_ok-allow_dcheck.ensures in
    rw (c.check_at-check.ensures, c.pages_at.ensures) (lies a.session.now a.table.now a.list.now (sound-means _ _ c.requires) a.budget told).0

pub scan_range-got-requires : goal.scan_range-got-requires
scan_range-got-requires c =
    let a = c.args in
    let h = sound-means _ _ c.requires in
    let told = coded a.session.now a.table.now a.list.now _ _ _ _ 0 c.phase_at-phase.ensures c.check_at-check.ensures c.is_list.ensures
    c.in_ok-gate.ensures c.in_ok-allow_dcheck.ensures in
    let p = passes a.session.now a.table.now a.list.now h a.budget told in
    let fits = (lies a.session.now a.table.now a.list.now h a.budget told).1 in
    let table = table-whole _ h.table in
    record {
      table_len = (table, list-whole _ (sym (list-words a.session.now a.table.now a.list.now) ∙ p.0));
      count_in_bounds = rw (c.check_at-check.ensures, c.pages_at.ensures) (
        omega (arith, table, words-length a.table.now, fits.0),
        omega (arith, table, words-length a.table.now, fits.1),
      );
    }

pub returns : goal.returns
returns c =
    let a = c.args in
    let h = sound-means _ _ c.requires in
    let x : (i : ℕ) → std.Fits w8 (get_or a.session.now i 0) = search rules in
    let told = coded a.session.now a.table.now a.list.now _ _ _ _ 0 c.phase_at-phase.ensures c.check_at-check.ensures c.is_list.ensures
    c.in_ok-gate.ensures c.in_ok-allow_dcheck.ensures in
    let p = passes a.session.now a.table.now a.list.now h a.budget told in
    let left = dcheck-ran a.session.now a.table.now a.list.now (λ i. (x i).fits) h a.budget p.0 p.1 in
    let got = rw (c.clock_at-clock.ensures, c.pages_at.ensures, c.check_at-check.ensures) at c.scan_range-got.ensures.value in
    record {
      value = rw left (ap scanned_numbers got);
      session_after = rw (left, ← got, ← c.check_after-after.ensures) c.put_change.ensures;
      table_after = rw left (rw (c.clock_at-clock.ensures, c.pages_at.ensures, c.check_at-check.ensures) at c.scan_range-got.ensures.table_after);
      list_after = rw left (rw (c.clock_at-clock.ensures, c.pages_at.ensures, c.check_at-check.ensures) at c.scan_range-got.ensures.list_after);
    }
