-- A refusal is that of the tests (`coded`); past them there is the run in its place (`dscan-ran`).
use Rattle.std.proofs.Common.{rules, get_or, Fits, w8}
use mathlib.Core.Path.{◌≡◌, refl, sym, ap, ◌∙◌}
use mathlib.Core.Bool.{Bool, true, not}
use mathlib.Core.List.{List, [], ◌∷◌}
use Prim.Native.Nat.{ℕ, ◌/◌}
use native.Mathlib.Omega.{arith}
use lib.ListN.{length}
use Rattle.words.specs.Codes as codes
use Rattle.refusals.specs.Refusals.{◌gives◌, first_of, number_of}
use Rattle.refusals.specs.declared.Refusal.{Refusal}
use Rattle.session.specs.Formed.{phase_tests, gated, behind}
use Rattle.session.specs.declared.Phase.{Phase}
use Rattle.session.specs.declared.Phase.TheVariants.{Live}
use Rattle.session.specs.declared.Session.{Session}
use Rattle.scan.specs.Scan.{dscan_code, dscan_asks, dscan_tests}
use Rattle.scan.proofs.Laws.{dscan-fits}
use Rattle.calls.specs.declared.Call.TheVariants.{Dscan}
use Rattle.wire.specs.Bytes.{words_of}
use Rattle.wire.specs.Sessions.{session_of}
use Rattle.wire.proofs.BytesLaws.{words-length}
use Rattle.host.specs.Host.{lent_list, is_list, refused, in_words, host_of}
use Rattle.host.proofs.LayoutLaws.{Sound, sound-means, table-whole}
use Rattle.host.proofs.ListLaws.{list-whole, dscan-comes}
use Rattle.host_lists.specs.Inside.{scanned_numbers}
use Rattle.host_lists.proofs.Gates.{gate_for, behind-refusal, listed-passed, listed-refused}
use Rattle.host_lists.proofs.Runs.{list-words, dscan-refuses, dscan-ran}
use Rattle.host_lists.proofs.scans.dscan_sound.Goals as goal

module _ (s t l : List ℕ) (first count : ℕ) where
  abbrev read : Session
  read = session_of (words_of s)

  -- the call's own tests, behind those of the C side
  abbrev told : ℕ
  told = behind (gate_for (Live ∷ []) (lent_list s t l)) (dscan_tests read (length (words_of l)) first count)

  -- the code is theirs
  coded : (phase : Phase) (pages : ℕ) (whole : Bool) (gate code : ℕ) →
      phase ≡ read.phase → pages ≡ read.fixed.pages → whole ≡ is_list (length l) →
      gate ≡ first_of (phase_tests phase (Live ∷ []) (not whole gives codes.operand_invalid ∷ [])) →
      code ≡ behind gate (dscan_asks pages (length l / 8) first count) → told ≡ code
  coded phase pages whole gate code p k w g e = sym (rw (list-words s t l, words-length l, ← w, ← p, ← g, ← k) e)

  module _ (h : Sound s (length t)) (budget : ℕ) where
    -- a refusal
    refuses : (r : Refusal) → told ≡ number_of r → host_of (Dscan first count budget) (lent_list s t l) ≡ refused (number_of r) (lent_list s t l)
    refuses =
        listed-refused (Dscan first count budget) (Live ∷ []) (dscan-comes first count budget) (lent_list s t l) h
        (dscan_tests read (length (words_of l)) first count) refl (dscan-refuses read (words_of t) (words_of l) (words_of []) first count budget)

    -- or past them
    passes : told ≡ 0 →
        (in_words (lent_list s t l) ≡ true)
        × (gated read (length (words_of t)) (Live ∷ []) (dscan_tests read (length (words_of l)) first count) ≡ 0)
    passes = listed-passed (Dscan first count budget) (Live ∷ []) (dscan-comes first count budget) (lent_list s t l) h _

pub returns-in_err-gate : goal.returns-in_err-gate
returns-in_err-gate c =
    let a = c.args in
    let r = c.in_err-gate.field-0.0 in
    let told = coded a.session.now a.table.now a.list.now a.first a.count _ _ _ _ _ c.phase_at-phase.ensures refl c.is_list.ensures c.in_err-gate.ensures
    (behind-refusal r (dscan_asks (session_of (words_of a.session.now)).fixed.pages (length a.list.now / 8) a.first a.count)) in
    let left = refuses a.session.now a.table.now a.list.now a.first a.count (sound-means _ _ c.requires) a.budget r told in
    record { value = rw left (search rules); session_value = rw left; table_after = rw left; list_after = rw left }

pub returns-in_err-allow_dscan : goal.returns-in_err-allow_dscan
returns-in_err-allow_dscan c =
    let a = c.args in
    let told = coded a.session.now a.table.now a.list.now a.first a.count _ _ _ _ _ c.phase_at-phase.ensures c.pages_at.ensures c.is_list.ensures
    c.in_ok-gate.ensures c.in_err-allow_dscan.ensures in
    let left = refuses a.session.now a.table.now a.list.now a.first a.count (sound-means _ _ c.requires) a.budget c.in_err-allow_dscan.field-0.0 told in
    record { value = rw left (search rules); session_value = rw left; table_after = rw left; list_after = rw left }

pub scan_range-requires : goal.scan_range-requires
unfolding dscan_code
scan_range-requires c =
    let a = c.args in
    let h = sound-means _ _ c.requires in
    let told = coded a.session.now a.table.now a.list.now a.first a.count _ _ _ _ 0 c.phase_at-phase.ensures c.pages_at.ensures c.is_list.ensures
    c.in_ok-gate.ensures c.in_ok-allow_dscan.ensures in
    let p = passes a.session.now a.table.now a.list.now a.first a.count h a.budget told in
    let table = table-whole _ h.table in
    let fits = dscan-fits (session_of (words_of a.session.now)) (length (words_of a.table.now)) (length (words_of a.list.now)) a.first a.count p.1 in
    record {
      table_len = (table, list-whole _ (sym (list-words a.session.now a.table.now a.list.now) ∙ p.0));
      count_in_bounds = (omega (arith, table, words-length a.table.now, fits.0), omega (arith, table, words-length a.table.now, fits.1));
    }

pub returns : goal.returns
returns c =
    let a = c.args in
    let h = sound-means _ _ c.requires in
    let told = coded a.session.now a.table.now a.list.now a.first a.count _ _ _ _ 0 c.phase_at-phase.ensures c.pages_at.ensures c.is_list.ensures
    c.in_ok-gate.ensures c.in_ok-allow_dscan.ensures in
    let p = passes a.session.now a.table.now a.list.now a.first a.count h a.budget told in
    let x : (i : ℕ) → Fits w8 (get_or a.session.now i 0) = search rules in
    let ran = dscan-ran a.session.now a.table.now a.list.now (λ i. (x i).fits) h a.first a.count a.budget p.0 p.1 in
    record {
      value = rw ran (ap scanned_numbers (rw c.clock_at-clock.ensures at c.scan_range.ensures.value));
      session_value = rw ran;
      table_after = rw ran (rw c.clock_at-clock.ensures at c.scan_range.ensures.table_after);
      list_after = rw ran (rw c.clock_at-clock.ensures at c.scan_range.ensures.list_after);
    }
