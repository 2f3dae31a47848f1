-- Lists and buffers: one that passed its test is in whole words; and the place of the 42 of one that did not. 40 and 41 are the gate's, and every later code
-- of a scan, an export or RESTORE, whether one of its own tests gives it or its run, is neither.
use mathlib.Core.Path.{◌≡◌, refl, sym, ap, ◌∙◌}
use mathlib.Core.Bool.{Bool, true, false, cond, not}
use mathlib.Core.List.{List, [], ◌∷◌}
use Prim.Native.Nat.{ℕ, ◌-◌, ◌*◌, ◌/◌, ◌%◌}
use lib.Dec.{eqb, leb}
use lib.ListN.{length}
use borrow.Author.Tests.{eqb-true}
use Rattle.words.specs.Codes as codes
use Rattle.words.specs.Info.{info_of}
use Rattle.refusals.specs.Refusals.{Test, first_of}
use Rattle.refusals.proofs.Laws.{either, and_left, all_codes, first-all}
use Rattle.session.specs.Session.{among, moving}
use Rattle.session.specs.Formed.{most_entries, formed, gated}
use Rattle.session.specs.declared.Phase.{Phase}
use Rattle.session.specs.declared.Phase.TheVariants.{Idle, Live, Blackout}
use Rattle.session.specs.declared.Session.{Session}
use Rattle.scan.specs.Scan.{ScanOutcome, ran_scan, dscan_tests, dscan_code, dscan_of, dcheck_tests, dcheck_code, dcheck_of, checked_by}
use Rattle.scan.proofs.Outcomes.{OfScans, range-code, dscanned, dscan-either, dchecked, dcheck-either}
use Rattle.export.specs.Export.{ExportOutcome, export_tests, export_code, finished_by, export_out}
use Rattle.export.proofs.Moves.{exported, finished-code}
use Rattle.restore.specs.Restore.{restore_asks, restore_code, ended_at, RestoreOutcome, restore_run}
use Rattle.restore.proofs.Moves.{restore-either, ended-code}
use Rattle.calls.specs.declared.Call.{Call}
use Rattle.calls.specs.declared.Call.TheVariants.{Dscan, Dcheck, Export, Restore}
use Rattle.wire.specs.Bytes.{words_of}
use Rattle.wire.specs.Sessions.{session_of}
use Rattle.wire.proofs.BytesLaws.{words-length}
use Rattle.host.specs.Host.{Lent, Left, is_list, in_layout, in_words, refused, played, host_of}
use Rattle.host.specs.Promises.{first_group}
use Rattle.host.specs.Inside.{before42, ComesIn}
use Rattle.host.proofs.LayoutLaws.{host-first, engine-read}

pub list-whole : (len : ℕ) → is_list len ≡ true → len % 8 ≡ 0
list-whole len e = eqb-true _ _ (and_left (eqb (len % 8) 0) (leb len (8 * most_entries)) e)

-- ---- the place of 42

-- neither 40 nor 41
abbrev later : ℕ → Bool
later code = eqb (before42 code) codes.operand_invalid

scans-later : OfScans later
scans-later = record { done = refl; interrupted = refl; full = refl; complete = refl; blocked = refl }

module _ (s : Session) (len : ℕ) (phases : List Phase) where
  gate-place : (l : List Test) → all_codes later l ≡ true → before42 (gated s len phases l) ≡ first_group s len phases
  unfolding gated
  gate-place l e = go (not (formed s len)) (not (among phases s.phase))
    where
      go : (a b : Bool) → before42 (cond a 40 (cond b 41 (first_of l))) ≡ cond a 40 (cond b 41 42)
      go true b = refl
      go false true = refl
      go false false = eqb-true (before42 (first_of l)) 42 (first-all later l refl e)

  ran-place : (l : List Test) (code : ℕ) → all_codes later l ≡ true → later code ≡ true → gated s len phases l ≡ 0 → before42 code ≡ first_group s len phases
  ran-place l code e h z = eqb-true (before42 code) 42 h ∙ ap before42 (sym z) ∙ gate-place l e

pub dscan-comes : (first count budget : ℕ) → ComesIn (Dscan first count budget) (Live ∷ [])
unfolding dscan_code
dscan-comes first count budget =
    record {
      reads = refl;
      place = λ s t l b.
          let tests = dscan_tests s (length l) first count in
          dscan-either s t l first count budget (λ (o : ScanOutcome). before42 o.answer.code ≡ first_group s (length t) (Live ∷ []))
          (λ e. ran-place s (length t) (Live ∷ []) tests (ran_scan s (dscanned s t l first count budget)).answer.code refl
          (range-code later scans-later count (dscan_of s first budget) t l s) e)
          (gate-place s (length t) (Live ∷ []) tests refl);
    }

pub dcheck-comes : (budget : ℕ) → ComesIn (Dcheck budget) (Blackout ∷ [])
unfolding dcheck_code
dcheck-comes budget =
    record {
      reads = refl;
      place = λ s t l b.
          let tests = dcheck_tests s (length l) in
          dcheck-either s t l budget (λ (o : ScanOutcome). before42 o.answer.code ≡ first_group s (length t) (Blackout ∷ []))
          (λ e.
          let next = checked_by s (dchecked s t l budget).scanned in
          ran-place s (length t) (Blackout ∷ []) tests (ran_scan next (dchecked s t l budget)).answer.code refl
          (range-code later scans-later (s.fixed.pages - s.check.place) (dcheck_of s budget) t l next) e)
          (gate-place s (length t) (Blackout ∷ []) tests refl);
    }

pub export-comes : (stream : ℕ) (resume : Bool) (info budget : ℕ) → ComesIn (Export stream resume info budget) moving
unfolding export_out export_code
export-comes stream resume info budget =
    record {
      reads = refl;
      place = λ s t l b.
          let tests = export_tests s (length l) (length b) stream resume (info_of info) in
          either (λ (o : ExportOutcome). before42 o.answer.code ≡ first_group s (length t) moving) (eqb (gated s (length t) moving tests) 0)
          (λ e.
          let at = (exported s t l b stream info budget).at in
          ran-place s (length t) moving tests (finished_by s stream (info_of info) at).code refl (finished-code later s stream (info_of info) at refl refl)
          (eqb-true _ 0 e))
          (λ e. gate-place s (length t) moving tests refl);
    }

pub restore-comes : (info budget : ℕ) → ComesIn (Restore info budget) (Idle ∷ [])
unfolding restore_code
restore-comes info budget =
    record {
      reads = refl;
      place = λ s t l b.
          let x = info_of info in
          let tests = restore_asks (length l) x in
          let next = (restore_run s t l x budget).at.next in
          restore-either (λ (o : RestoreOutcome). before42 o.answer.code ≡ first_group s (length t) (Idle ∷ [])) s t l info budget
          (ran-place s (length t) (Idle ∷ []) tests (ended_at x next).code refl (ended-code later x next refl refl))
          (λ e. gate-place s (length t) (Idle ∷ []) tests refl);
    }

-- so what is no list is refused there
pub no-list : (c : Call) (phases : List Phase) (x : Lent) → ComesIn c phases → in_layout c x ≡ true → in_words x ≡ false →
    host_of c x ≡ refused (first_group (session_of (words_of x.session)) (length x.table / 8) phases) x
unfolding played
no-list c phases x comes e w =
    let s = session_of (words_of x.session) in
    let place = comes.place s (words_of x.table) (words_of x.list) (words_of x.buffer) in
    host-first c x e w
    ∙ ap (λ (l : Left). refused (before42 l.answer.code) x) (engine-read c x comes.reads)
    ∙ ap (λ (code : ℕ). refused code x) (place ∙ ap (λ (n : ℕ). first_group s n phases) (words-length x.table))
