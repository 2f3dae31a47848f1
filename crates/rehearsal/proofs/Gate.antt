-- 40 is told exactly where the session is malformed: it is the code of the gate's first test, and of no other test and no run. New has no gate: it is told 40
-- exactly where the table's length is illegal.
use mathlib.Core.Path.{◌≡◌, refl, sym, ap, ◌∙◌}
use mathlib.Core.Bool.{Bool, true, false, not, true≢false, false≢true}
use mathlib.Core.List.{List, [], ◌∷◌}
use Prim.Native.Nat.{ℕ, ◌-◌, ◌*◌, ◌%◌}
use lib.Dec.{eqb}
use lib.ListN.{length}
use borrow.Author.Tests.{eq-eqb, ne_eqb, le-leb}
use Rattle.words.specs.Codes as codes
use Rattle.words.specs.Info.{info_of}
use Rattle.refusals.specs.Refusals.{Test, ◌gives◌, first_of}
use Rattle.refusals.proofs.Laws.{all_codes, first-all}
use Rattle.page.specs.Page.{Page}
use Rattle.page.specs.Moves.{move_tests}
use Rattle.page.specs.declared.Clock.{Clock}
use Rattle.page.specs.declared.moves.Move.{Move}
use Rattle.page.specs.declared.moves.Move.TheVariants.{Write, Add, Accept, Block, Unblock, Remove}
use Rattle.page.specs.declared.sweeps.Sweep.{Sweep}
use Rattle.page.specs.declared.sweeps.Sweep.TheVariants.{Track, Start, Pause}
use Rattle.table.specs.Table.{legal, most_pages, page_at}
use Rattle.session.specs.Session.{among, moving, phases_of}
use Rattle.session.specs.Formed.{formed, within, fewest_created, most_created, gated}
use Rattle.session.specs.Outcome.{answered}
use Rattle.session.specs.declared.Phase.{Phase}
use Rattle.session.specs.declared.Phase.TheVariants.{Idle, Live, Blackout}
use Rattle.session.specs.declared.Session.{Session}
use Rattle.session.proofs.FormedLaws.{formed-means}
use Rattle.memory.specs.Memory.{new_code, new_out, turn_tests, page_tests}
use Rattle.memory.proofs.Laws.{page-code}
use Rattle.migration.specs.Migration.{sweep_when, stops_at, stopped, sweep_tests, sweep_code, on_all, alone_when, alone_tests, alone_code, on_session}
use Rattle.migration.specs.Token.{token_tests, token_code, token_out}
use Rattle.migration.specs.declared.Alone.{Alone}
use Rattle.migration.specs.declared.Alone.TheVariants.{NewEpoch, Reset, Abort}
use Rattle.migration.proofs.Laws.{token-number}
use Rattle.scan.specs.Scan.{ScanOutcome, dscan_tests, dscan_code, dscan_of, dscan_out, dcheck_tests, dcheck_code, dcheck_of, checked_by, dcheck_out}
use Rattle.scan.proofs.Outcomes.{OfScans, range-code, dscan-either, dchecked, dcheck-either}
use Rattle.export.specs.Export.{export_tests, export_code, ExportOutcome, export_out}
use Rattle.export.proofs.Moves.{exported, export-either, finished-code}
use Rattle.restore.specs.Restore.{restore_asks, restore_code, RestoreOutcome, restore_run, restore_out}
use Rattle.restore.proofs.Moves.{restore-either, ended-code}
use Rattle.calls.specs.Calls.{effect_of}
use Rattle.calls.specs.Promises.{is_new}
use Rattle.calls.specs.declared.Call.{Call}
use Rattle.calls.specs.declared.Call.TheVariants.{New, OnPage, OnAll, OnSession, StartToken, Dscan, Dcheck, Export, Restore}

-- ---- a malformed session

module _ (s : Session) (t l b : List ℕ) (e : formed s (length t) ≡ false) where
  pub malformed-told : (c : Call) → is_new c ≡ false → (effect_of c s t l b).returned.code ≡ codes.malformed
  unfolding gated answered on_all sweep_code on_session alone_code token_out token_code dscan_out dscan_code dcheck_out dcheck_code export_out export_code restore_out restore_code
  malformed-told (New created) n = absurd (true≢false n)
  malformed-told (OnPage page m) n = page-code m s t page ∙ rw e
  malformed-told (OnAll k) n = rw e
  malformed-told (OnSession k) n = rw e
  malformed-told StartToken n = token-number (token_code s t) t ∙ rw e
  malformed-told (Dscan first count budget) n = rw e
  malformed-told (Dcheck budget) n = rw e
  malformed-told (Export stream resume info budget) n = rw e
  malformed-told (Restore info budget) n = rw e

-- ---- a well-formed one

-- every other code
abbrev other : ℕ → Bool
other n = not (eqb n codes.malformed)

never : (n : ℕ) → other n ≡ true → n ≡ codes.malformed → ⊥
never n h e = false≢true (ap other (sym e) ∙ h)

move-others : (m : Move) (p : Page) (clock : Clock) → all_codes other (move_tests m p clock) ≡ true
move-others (Write mark) p clock = refl
move-others Add p clock = refl
move-others Accept p clock = refl
move-others Block p clock = refl
move-others Unblock p clock = refl
move-others Remove p clock = refl

sweep-others : (k : Sweep) (s : Session) (stops : Bool) → all_codes other (sweep_tests k s stops) ≡ true
sweep-others Track s stops = refl
sweep-others Start s stops = refl
sweep-others Pause s stops = refl

alone-others : (k : Alone) (s : Session) → all_codes other (alone_tests k s) ≡ true
alone-others NewEpoch s = refl
alone-others Reset s = refl
alone-others Abort s = refl

scans-other : OfScans other
scans-other = record { done = refl; interrupted = refl; full = refl; complete = refl; blocked = refl }

-- the table's length is legal
pub legal-of : (s : Session) (len : ℕ) → formed s len ≡ true → legal len ≡ true
unfolding legal
legal-of s len e =
    let f = formed-means s len e in
    rw (eq-eqb (len % 2) 0 f.even, ne_eqb len 0 f.some, le-leb len (2 * most_pages) f.most)

module _ (s : Session) (t l b : List ℕ) (e : formed s (length t) ≡ true) where
  gate-other : (phases : List Phase) (tests : List Test) → all_codes other tests ≡ true → other (gated s (length t) phases tests) ≡ true
  unfolding gated
  gate-other phases tests h = rw e (first-all other (not (among phases s.phase) gives codes.op_state_incorrect ∷ tests) refl h)

  page-other : (m : Move) (at : ℕ) → other (first_of (page_tests m s (length t) at (page_at t at))) ≡ true
  page-other m at =
      rw e
      (first-all other (turn_tests m s.phase s.fixed.pages s.clock at (page_at t at)) refl (move-others m (page_at t at) s.clock))

  call-other : (c : Call) → other (effect_of c s t l b).returned.code ≡ true
  unfolding new_out new_code answered on_all sweep_code on_session alone_code token_out token_code dscan_code dcheck_code export_code restore_code
  call-other (New created) =
      rw (legal-of s (length t) e) (first-all other (not (within fewest_created most_created created) gives codes.operand_invalid ∷ []) refl refl)
  call-other (OnPage page m) = ap other (page-code m s t page) ∙ page-other m page
  call-other (OnAll k) = gate-other (phases_of (sweep_when k)) (sweep_tests k s (stopped (stops_at k) t)) (sweep-others k s (stopped (stops_at k) t))
  call-other (OnSession k) = gate-other (phases_of (alone_when k)) (alone_tests k s) (alone-others k s)
  call-other StartToken = ap other (token-number (token_code s t) t) ∙ gate-other (Blackout ∷ []) (token_tests s t) refl
  call-other (Dscan first count budget) =
      dscan-either s t l first count budget (λ (o : ScanOutcome). other o.answer.code ≡ true)
      (λ q. range-code other scans-other count (dscan_of s first budget) t l s)
      (gate-other (Live ∷ []) (dscan_tests s (length l) first count) refl)
  call-other (Dcheck budget) =
      dcheck-either s t l budget (λ (o : ScanOutcome). other o.answer.code ≡ true)
      (λ q.
      range-code other scans-other (s.fixed.pages - s.check.place) (dcheck_of s budget) t l (checked_by s (dchecked s t l budget).scanned))
      (gate-other (Blackout ∷ []) (dcheck_tests s (length l)) refl)
  call-other (Export stream resume info budget) =
      export-either (λ (o : ExportOutcome). other o.answer.code ≡ true) s t l b stream resume info budget
      (finished-code other s stream (info_of info) (exported s t l b stream info budget).at refl refl)
      (gate-other moving (export_tests s (length l) (length b) stream resume (info_of info)) refl)
  call-other (Restore info budget) =
      restore-either (λ (o : RestoreOutcome). other o.answer.code ≡ true) s t l info budget
      (λ q. ended-code other (info_of info) (restore_run s t l (info_of info) budget).at.next refl refl)
      (λ q. gate-other (Idle ∷ []) (restore_asks (length l) (info_of info)) refl)

  pub formed-other : (c : Call) → (effect_of c s t l b).returned.code ≡ codes.malformed → ⊥
  formed-other c = never _ (call-other c)
