-- From a pause to the grant the guest's memory is the copy that the pause took: the calls that change it are refused in Blackout and in Done, and only a
-- pause and the token lead there.
use mathlib.Core.Path.{◌≡◌, refl, sym, subst}
use mathlib.Core.Bool.{Bool, true, cond, false≢true}
use mathlib.Core.List.{List, [], ◌∷◌}
use Prim.Native.Nat.{ℕ}
use lib.Dec.{eqb}
use lib.ListN.{length, replicate}
use borrow.Author.Tests.{eqb-true}
use Rattle.words.specs.Info.{info_of}
use Rattle.refusals.proofs.Laws.{either}
use Rattle.page.specs.Page.{on_words}
use Rattle.page.specs.Sweeps.{swept_by}
use Rattle.page.specs.declared.moves.Move.{Move}
use Rattle.page.specs.declared.sweeps.Sweep.{Sweep}
use Rattle.page.specs.declared.sweeps.Sweep.TheVariants.{Track, Start, Pause}
use Rattle.table.specs.Table.{page_count, sweep_of}
use Rattle.session.specs.Session.{among, guest, new_session}
use Rattle.session.specs.Outcome.{Outcome, answered}
use Rattle.session.specs.declared.Phase.{Phase}
use Rattle.session.specs.declared.Phase.TheVariants.{Idle, Live, Blackout, Done}
use Rattle.session.specs.declared.Session.{Session}
use Rattle.session.proofs.Laws.{answered-either, gate-open}
use Rattle.memory.specs.Memory.{new_code, new_out, on_page}
use Rattle.migration.proofs.Grant.{paused-is}
use Rattle.migration.specs.Migration.{sweep_next, sweep_code, on_all, alone_next, alone_code, on_session}
use Rattle.migration.specs.Token.{token_tests, token_code, token_out}
use Rattle.migration.specs.declared.Alone.{Alone}
use Rattle.migration.specs.declared.Alone.TheVariants.{NewEpoch, Reset, Abort}
use Rattle.scan.specs.Scan.{checked_by, ScanOutcome, dscan_out, dcheck_out}
use Rattle.scan.proofs.Outcomes.{answer-session, dscanned, dscan-either, dchecked, dcheck-either}
use Rattle.export.specs.Export.{ExportOutcome, export_out}
use Rattle.export.proofs.Moves.{exported, export-either}
use Rattle.restore.specs.Restore.{RestoreOutcome, restore_out}
use Rattle.restore.proofs.Moves.{restore-either}
use Rattle.calls.specs.Calls.{Effect}
use Rattle.calls.specs.declared.Call.{Call}
use Rattle.calls.specs.declared.Call.TheVariants.{New, OnPage, OnAll, OnSession, StartToken, Dscan, Dcheck, Export, Restore}
use Rattle.bundle.specs.Bundle.{Holding, nothing}
use Rattle.history.specs.History.{Given, given, World, effect_in, accepted, remembered_by, takes_copy, copied_by, after, run}
use Rattle.history.proofs.Contents.{call-done}
use Rattle.history.proofs.Exports.{finished-streams}

-- the guest does not run
abbrev pub Stopped : Phase → Type 0
Stopped Idle = ⊥
Stopped Live = ⊥
Stopped Blackout = Unit
Stopped Done = Unit

-- while it does not, the copy is its memory
abbrev pub Copied : Phase → (ℕ → Holding) → (ℕ → Holding) → Type 0
Copied p m c = Stopped p → (i : ℕ) → m i ≡ c i

guest-runs : (p : Phase) → among guest p ≡ true → Stopped p → ⊥
guest-runs Idle e x = x
guest-runs Live e x = x
guest-runs Blackout e x = false≢true e
guest-runs Done e x = false≢true e

-- neither is noted anew
uncopied : (e : Effect) (m c : ℕ → Holding) → Copied e.returned.session.phase m c →
    Copied e.returned.session.phase (cond (accepted e) m m) (cond (accepted e) c c)
uncopied e m c h =
    either (λ (n : ℕ → Holding). Copied e.returned.session.phase n (cond (accepted e) c c)) (accepted e) (λ q. rw q h) (λ q. rw q h)

-- by answers: memory and copy as they come with one that is done, and as they were with a refusal
module _ (code : ℕ) (s : Session) (t : List ℕ) (s' : Session) (t' : List ℕ) (m m' c c' : ℕ → Holding) where
  answered-copied : Copied s.phase m c → (eqb (answered code s t s' t').answer.code 0 ≡ true → Copied s'.phase m' c') →
      Copied (answered code s t s' t').answer.session.phase (cond (eqb (answered code s t s' t').answer.code 0) m' m)
      (cond (eqb (answered code s t s' t').answer.code 0) c' c)
  answered-copied h =
      answered-either (λ (o : Outcome). (eqb o.answer.code 0 ≡ true → Copied s'.phase m' c') →
      Copied o.answer.session.phase (cond (eqb o.answer.code 0) m' m) (cond (eqb o.answer.code 0) c' c)) code s t s' t'
      (λ q f. rw q (f q))
      (λ q f. rw q h)

-- a call on a page is refused while the guest does not run
page-copied : (k : Move) (s : Session) (t : List ℕ) (at : ℕ) (m m' c : ℕ → Holding) → Copied s.phase m c →
    Copied (on_page k s t at).answer.session.phase (cond (eqb (on_page k s t at).answer.code 0) m' m) (cond (eqb (on_page k s t at).answer.code 0) c c)
unfolding on_page
page-copied k s t at m m' c h =
    answered-copied _ s t s _ m m' c c h (λ e x. absurd (guest-runs s.phase (call-done k s t at e).comes x))

-- the token comes to a paused guest
pub token-paused : (s : Session) (t : List ℕ) → eqb (token_code s t) 0 ≡ true → Stopped s.phase
unfolding token_code
token-paused s t e =
    subst Stopped (sym (paused-is s.phase (gate-open s (length t) (Blackout ∷ []) (token_tests s t) refl (eqb-true _ _ e)).comes)) tt

token-copied : (s : Session) (t : List ℕ) (m c : ℕ → Holding) → Copied s.phase m c → Copied (token_out s t).session.phase m c
unfolding token_out
token-copied s t m c h =
    either (λ (s' : Session). Copied s'.phase m c) (eqb (token_code s t) 0) (λ q x. h (token-paused s t q)) (λ q. h)

-- scans, exports and RESTORE leave the phase
dscan-phase : (s : Session) (t l : List ℕ) (first count budget : ℕ) → (dscan_out s t l first count budget).answer.session.phase ≡ s.phase
dscan-phase s t l first count budget =
    dscan-either s t l first count budget (λ (o : ScanOutcome). o.answer.session.phase ≡ s.phase)
    (λ z. rw (answer-session (dscanned s t l first count budget).scanned s))
    refl

dcheck-phase : (s : Session) (t l : List ℕ) (budget : ℕ) → (dcheck_out s t l budget).answer.session.phase ≡ s.phase
unfolding checked_by
dcheck-phase s t l budget =
    dcheck-either s t l budget (λ (o : ScanOutcome). o.answer.session.phase ≡ s.phase)
    (λ z. rw (answer-session (dchecked s t l budget).scanned (checked_by s (dchecked s t l budget).scanned)))
    refl

export-phase : (s : Session) (t l b : List ℕ) (stream : ℕ) (resume : Bool) (info budget : ℕ) →
    (export_out s t l b stream resume info budget).answer.session.phase ≡ s.phase
export-phase s t l b stream resume info budget =
    export-either (λ (o : ExportOutcome). o.answer.session.phase ≡ s.phase) s t l b stream resume info budget
    (finished-streams (λ (x : Session). x.phase ≡ s.phase) s stream (info_of info) (exported s t l b stream info budget).at (λ streams. refl))
    refl

restore-phase : (s : Session) (t l : List ℕ) (info budget : ℕ) → (restore_out s t l info budget).answer.session.phase ≡ s.phase
restore-phase s t l info budget =
    restore-either (λ (o : RestoreOutcome). o.answer.session.phase ≡ s.phase) s t l info budget (λ e. refl) (λ e. refl)

module _ (w : World) (l b : List ℕ) (h : Copied w.session.phase w.memory w.copy) where
  abbrev s : Session
  s = w.session

  abbrev t : List ℕ
  t = w.table

  abbrev left : Call → Effect
  left c = effect_in w (given c l b)

  sweep-copied : (k : Sweep) → Copied (sweep_next k s).phase w.memory (cond (takes_copy k) w.memory w.copy)
  sweep-copied Track = h
  sweep-copied Start = λ x. absurd x
  sweep-copied Pause = λ x i. refl

  alone-copied : (k : Alone) → Copied (alone_next k s).phase w.memory w.copy
  alone-copied NewEpoch = h
  alone-copied Reset = h
  alone-copied Abort = λ x. absurd x

  call-copied : (c : Call) → Copied (after w (given c l b)).session.phase (after w (given c l b)).memory (after w (given c l b)).copy
  unfolding new_out on_all on_session
  call-copied (New created) =
      answered-copied (new_code (length t) created) s t (new_session (page_count t) created) (replicate (length t) 0) w.memory nothing w.copy w.copy h
      (λ e x. absurd x)
  call-copied (OnPage page m) = page-copied m s t page w.memory (remembered_by (OnPage page m) w.memory) w.copy h
  call-copied (OnAll k) =
      answered-copied (sweep_code k s t) s t (sweep_next k s) (sweep_of (on_words (swept_by k)) t)
      w.memory w.memory w.copy (copied_by (OnAll k) w.memory w.copy) h (λ e. sweep-copied k)
  call-copied (OnSession k) =
      answered-copied (alone_code k s (length t)) s t (alone_next k s) t w.memory w.memory w.copy w.copy h (λ e. alone-copied k)
  call-copied StartToken =
      uncopied (left StartToken) w.memory w.copy (token-copied s t w.memory w.copy h)
  call-copied (Dscan first count budget) =
      uncopied (left (Dscan first count budget)) w.memory w.copy (rw (dscan-phase s t l first count budget) h)
  call-copied (Dcheck budget) =
      uncopied (left (Dcheck budget)) w.memory w.copy (rw (dcheck-phase s t l budget) h)
  call-copied (Export stream resume info budget) =
      uncopied (left (Export stream resume info budget)) w.memory w.copy (rw (export-phase s t l b stream resume info budget) h)
  call-copied (Restore info budget) =
      uncopied (left (Restore info budget)) w.memory w.copy (rw (restore-phase s t l info budget) h)

pub run-copied : (l : List Given) (w : World) → Copied w.session.phase w.memory w.copy →
    Copied (run w l).session.phase (run w l).memory (run w l).copy
run-copied [] w h = h
run-copied (g ∷ l) w h = run-copied l (after w g) (call-copied w g.list g.buffer h g.call)
