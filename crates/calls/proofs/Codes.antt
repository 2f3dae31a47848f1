-- Every code is one of a list of tests, or one that a scan or an export which ran gives, and all of these are document 01's. The first of the tests is 40.
use mathlib.Core.Path.{◌≡◌, refl, ap, ◌∙◌}
use mathlib.Core.Bool.{true, false, not, or-true, true≢false}
use mathlib.Core.List.{List, [], ◌∷◌}
use Prim.Native.Nat.{ℕ, ◌-◌}
use lib.ListN.{length, replicate}
use Rattle.words.specs.Codes as codes
use Rattle.words.specs.Info.{info_of}
use Rattle.refusals.specs.Refusals.{Test, ◌gives◌}
use Rattle.refusals.proofs.Laws.{all_codes, first-all, all_then, refuses}
use Rattle.page.specs.Moves.{move_tests}
use Rattle.page.specs.declared.moves.Move.{Move}
use Rattle.page.proofs.MoveLaws.{move-refuses}
use Rattle.page.specs.declared.sweeps.Sweep.{Sweep}
use Rattle.table.specs.Table.{legal, page_count, page_at}
use Rattle.session.specs.Session.{moving, phases_of, new_session}
use Rattle.session.specs.Formed.{within, fewest_created, most_created, formed, gate_tests, gated}
use Rattle.session.specs.Outcome.{Outcome, answered}
use Rattle.session.proofs.Laws.{answered-either}
use Rattle.session.specs.declared.Session.{Session}
use Rattle.session.specs.declared.Phase.{Phase}
use Rattle.session.specs.declared.Phase.TheVariants as phase
use Rattle.memory.specs.Memory.{new_code, new_out, page_tests, on_page}
use Rattle.memory.proofs.Laws.{page-code}
use Rattle.migration.specs.Migration.{sweep_when, sweep_tests, sweep_code, on_all, alone_when, alone_tests, alone_code, on_session}
use Rattle.migration.specs.declared.Alone.{Alone}
use Rattle.migration.specs.Token.{token_tests, token_code, token_out}
use Rattle.migration.proofs.Laws.{token-number, sweep-refuses, alone-refuses}
use Rattle.scan.specs.Scan.{ScanOutcome, dscan_tests, dscan_code, dscan_of, dscan_out, dcheck_tests, dcheck_code, dcheck_of, checked_by, dcheck_out}
use Rattle.scan.proofs.Outcomes.{OfScans, range-code, dscan-either, dchecked, dcheck-either}
use Rattle.export.specs.Export.{export_tests, export_code, ExportOutcome, export_out}
use Rattle.export.proofs.Moves.{exported, export-either, finished-code}
use Rattle.restore.specs.Restore.{restore_asks, restore_code, RestoreOutcome, restore_run, restore_out}
use Rattle.restore.proofs.Moves.{restore-either, ended-code}
use Rattle.calls.specs.Calls.{effect_of}
use Rattle.calls.specs.Promises.{named, AnswersNamed, is_new}
use Rattle.calls.specs.declared.Call.{Call}
use Rattle.calls.specs.declared.Call.TheVariants.{New, OnPage, OnAll, OnSession, StartToken, Dscan, Dcheck, Export, Restore}

-- a refusal's code is one of them
refusals-named : (l : List Test) → all_codes refuses l ≡ true → all_codes named l ≡ true
refusals-named l e = all_then refuses named (λ n h. rw h (or-true (within 0 3 n))) l e

-- behind the gate, the codes of a call's own tests
gated-named : (s : Session) (len : ℕ) (phases : List Phase) (l : List Test) → all_codes named l ≡ true → named (gated s len phases l) ≡ true
unfolding gated
gated-named s len phases l e = first-all named (gate_tests s len phases l) refl e

answered-named : (code : ℕ) (s : Session) (t : List ℕ) (s' : Session) (t' : List ℕ) → named code ≡ true → named (answered code s t s' t').answer.code ≡ true
answered-named code s t s' t' h =
    answered-either (λ (o : Outcome). named o.answer.code ≡ true) code s t s' t' (λ e. h) (λ e. h)

page-named : (m : Move) (s : Session) (t : List ℕ) (at : ℕ) → named (on_page m s t at).answer.code ≡ true
page-named m s t at =
    let p = page_at t at in
    rw (page-code m s t at)
    (first-all named (page_tests m s (length t) at p) refl (refusals-named (move_tests m p s.clock) (move-refuses m p s.clock)))

all_named : (k : Sweep) (s : Session) (t : List ℕ) → named (on_all k s t).answer.code ≡ true
unfolding on_all sweep_code
all_named k s t =
    answered-named (sweep_code k s t) s t _ _
    (gated-named s (length t) (phases_of (sweep_when k)) (sweep_tests k s _) (refusals-named (sweep_tests k s _) (sweep-refuses k s _)))

session-named : (k : Alone) (s : Session) (t : List ℕ) → named (on_session k s t).answer.code ≡ true
unfolding on_session alone_code
session-named k s t =
    answered-named (alone_code k s (length t)) s t _ t
    (gated-named s (length t) (phases_of (alone_when k)) (alone_tests k s) (refusals-named (alone_tests k s) (alone-refuses k s)))

scans-named : OfScans named
scans-named = record { done = refl; interrupted = refl; full = refl; complete = refl; blocked = refl }

module _ (s : Session) (t l b : List ℕ) where
  code-named : (c : Call) → named (effect_of c s t l b).returned.code ≡ true
  unfolding new_out new_code token_out token_code dscan_code dcheck_code export_code restore_code
  code-named (New created) =
      answered-named (new_code (length t) created) s t (new_session (page_count t) created) (replicate (length t) 0)
      (first-all named (not (legal (length t)) gives codes.malformed ∷ not (within fewest_created most_created created) gives codes.operand_invalid
      ∷ []) refl refl)
  code-named (OnPage page m) = page-named m s t page
  code-named (OnAll k) = all_named k s t
  code-named (OnSession k) = session-named k s t
  code-named StartToken = ap named (token-number (token_code s t) t) ∙ gated-named s (length t) (phase.Blackout ∷ []) (token_tests s t) refl
  code-named (Dscan first count budget) =
      dscan-either s t l first count budget (λ (o : ScanOutcome). named o.answer.code ≡ true)
      (λ e. range-code named scans-named count (dscan_of s first budget) t l s)
      (gated-named s (length t) (phase.Live ∷ []) (dscan_tests s (length l) first count) refl)
  code-named (Dcheck budget) =
      dcheck-either s t l budget (λ (o : ScanOutcome). named o.answer.code ≡ true)
      (λ e. range-code named scans-named (s.fixed.pages - s.check.place) (dcheck_of s budget) t l (checked_by s (dchecked s t l budget).scanned))
      (gated-named s (length t) (phase.Blackout ∷ []) (dcheck_tests s (length l)) refl)
  code-named (Export stream resume info budget) =
      export-either (λ (o : ExportOutcome). named o.answer.code ≡ true) s t l b stream resume info budget
      (finished-code named s stream (info_of info) (exported s t l b stream info budget).at refl refl)
      (gated-named s (length t) moving (export_tests s (length l) (length b) stream resume (info_of info)) refl)
  code-named (Restore info budget) =
      restore-either (λ (o : RestoreOutcome). named o.answer.code ≡ true) s t l info budget
      (λ e. ended-code named (info_of info) (restore_run s t l (info_of info) budget).at.next refl refl)
      (λ e. gated-named s (length t) (phase.Idle ∷ []) (restore_asks (length l) (info_of info)) refl)

pub answers-named : AnswersNamed
answers-named = record { code = λ c s t l b. code-named s t l b c }

-- 40 comes first in every call that reads its session
module _ (s : Session) (t l b : List ℕ) (f : formed s (length t) ≡ false) where
  gated-first : (phases : List Phase) (tests : List Test) → gated s (length t) phases tests ≡ codes.malformed
  unfolding gated
  gated-first phases tests = rw f

  answered-first : (code : ℕ) (s' : Session) (t' : List ℕ) → code ≡ codes.malformed → (answered code s t s' t').answer.code ≡ codes.malformed
  answered-first code s' t' e = answered-either (λ (o : Outcome). o.answer.code ≡ codes.malformed) code s t s' t' (λ q. e) (λ q. e)

  pub unformed-code : (c : Call) → is_new c ≡ false → (effect_of c s t l b).returned.code ≡ codes.malformed
  unfolding on_all sweep_code on_session alone_code token_out token_code dscan_out dscan_code dcheck_out dcheck_code export_out export_code restore_out restore_code
  unformed-code (New created) e = absurd (true≢false e)
  unformed-code (OnPage page m) e = page-code m s t page ∙ rw f
  unformed-code (OnAll k) e = answered-first _ _ _ (gated-first (phases_of (sweep_when k)) _)
  unformed-code (OnSession k) e = answered-first _ _ t (gated-first (phases_of (alone_when k)) (alone_tests k s))
  unformed-code StartToken e = token-number (token_code s t) t ∙ gated-first (phase.Blackout ∷ []) (token_tests s t)
  unformed-code (Dscan first count budget) e = rw (gated-first (phase.Live ∷ []) (dscan_tests s (length l) first count))
  unformed-code (Dcheck budget) e = rw (gated-first (phase.Blackout ∷ []) (dcheck_tests s (length l)))
  unformed-code (Export stream resume info budget) e = rw (gated-first moving (export_tests s (length l) (length b) stream resume (info_of info)))
  unformed-code (Restore info budget) e = rw (gated-first (phase.Idle ∷ []) (restore_asks (length l) (info_of info)))
