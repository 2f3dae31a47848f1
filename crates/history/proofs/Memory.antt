-- The guest's memory, noted from the calls on it, is what the table says of each page, call by call: one that is done makes of the page what is noted of
-- it, one that is refused changes nothing, and the other calls keep what every page holds. With `Copied`, it is the copy of the last pause where the token
-- is granted.
use mathlib.Core.Path.{◌≡◌, refl, sym, ap, ◌∙◌}
use mathlib.Core.Bool.{Bool, true, false, cond, true≢false}
use mathlib.Core.List.{List, [], ◌∷◌}
use Prim.Native.Nat.{ℕ, ◌-◌}
use lib.Dec.{eqb}
use lib.ListN.{length, replicate}
use borrow.Author.Tests.{eqb-true, eqb-false}
use Rattle.words.specs.Info.{info_of}
use Rattle.refusals.proofs.Laws.{either}
use Rattle.page.specs.Page.{page_of}
use Rattle.page.specs.declared.PageWords.{PageWords}
use Rattle.page.specs.declared.moves.Move.{Move}
use Rattle.page.specs.declared.sweeps.Sweep.{Sweep}
use Rattle.table.specs.Table.{page_count, page_at}
use Rattle.session.specs.Session.{moving, new_session, work_of}
use Rattle.session.specs.Outcome.{Outcome, answered}
use Rattle.session.specs.declared.Phase.TheVariants.{Live, Blackout}
use Rattle.session.specs.declared.Session.{Session}
use Rattle.session.proofs.Laws.{answered-either, gate-open}
use Rattle.session.proofs.FormedLaws.{tlb-fits, epoch-fits}
use Rattle.memory.specs.Memory.{new_code, new_out, on_page}
use Rattle.memory.proofs.Laws.{page-done, page-other}
use Rattle.migration.specs.Migration.{on_all}
use Rattle.migration.specs.Token.{token_code, token_out}
use Rattle.migration.proofs.Laws.{token-number, all_either, alone-table}
use Rattle.scan.specs.Scan.{ScanOutcome, dscan_tests, dscan_code, dscan_of, dscan_out, dcheck_tests, dcheck_code, dcheck_of, dcheck_out}
use Rattle.scan.proofs.Laws.{dscan-fits, dcheck-fits}
use Rattle.scan.proofs.Outcomes.{dscan-either, dcheck-either}
use Rattle.lists.specs.Run.{standing}
use Rattle.entry.specs.Entry.{ground_of}
use Rattle.export.specs.Export.{export_tests, export_code, begun_by, ExportOutcome, export_out}
use Rattle.calls.specs.Calls.{Effect}
use Rattle.calls.specs.declared.Call.{Call}
use Rattle.calls.specs.declared.Call.TheVariants.{New, OnPage, OnAll, OnSession, StartToken, Dscan, Dcheck, Export, Restore}
use Rattle.bundle.specs.Bundle.{Holding, nothing}
use Rattle.history.specs.History.{Given, given, World, effect_in, accepted, holding, leaves, after, run, new_world, History, at_end}
use Rattle.history.specs.Earning.{granted}
use Rattle.history.specs.Promises.{content, Remembers}
use Rattle.history.proofs.Contents.{call-done, step-content, new-content, swept-content, range-content, export-run-content, restored-content}
use Rattle.history.proofs.Copied.{token-paused, run-copied}

-- ---- the table

-- a table whose pages hold what was noted
abbrev Holds : List ℕ → (ℕ → Holding) → Type 0
Holds t m = (i : ℕ) → content (page_at t i) ≡ m i

-- what is not noted anew
unnoted : (e : Effect) (m : ℕ → Holding) → Holds e.table m → Holds e.table (cond (accepted e) m m)
unnoted e m h = either (λ (n : ℕ → Holding). Holds e.table n) (accepted e) (λ q. h) (λ q. h)

-- what was noted for a call that is done; a refused one leaves table and note
module _ (code : ℕ) (s : Session) (t : List ℕ) (s' : Session) (t' : List ℕ) (m n : ℕ → Holding) where
  answered-holds : Holds t m → (eqb (answered code s t s' t').answer.code 0 ≡ true → Holds (answered code s t s' t').table n) →
      Holds (answered code s t s' t').table (cond (eqb (answered code s t s' t').answer.code 0) n m)
  answered-holds h =
      answered-either (λ (o : Outcome). (eqb o.answer.code 0 ≡ true → Holds o.table n) →
      Holds o.table (cond (eqb o.answer.code 0) n m)) code s t s' t'
      (λ q f. rw q (f q))
      (λ q f. rw q h)

-- a call on a page notes of its page what its step leaves there, and of the others what was noted
module _ (m : Move) (s : Session) (t : List ℕ) (at : ℕ) (n : ℕ → Holding) (h : Holds t n) where
  done-holds : eqb (on_page m s t at).answer.code 0 ≡ true → Holds (on_page m s t at).table (holding n at (leaves m (n at)))
  done-holds e i = go (eqb at i) refl
    where
      here : content (page_at (on_page m s t at).table at) ≡ leaves m (n at)
      here =
          ap content (page-done m s t at (eqb-true _ _ e)) ∙ step-content m (page_at t at) s.clock (call-done m s t at e).moves ∙ ap (leaves m) (h at)

      go : (b : Bool) → eqb at i ≡ b → content (page_at (on_page m s t at).table i) ≡ cond b (leaves m (n at)) (n i)
      go true q = ap (λ (k : ℕ). content (page_at (on_page m s t at).table k)) (sym (eqb-true at i q)) ∙ here
      go false q = ap (λ (w : PageWords). content (page_of w)) (page-other m s t at i (λ p. eqb-false at i q (sym p))) ∙ h i

  page-holds : Holds (on_page m s t at).table (cond (eqb (on_page m s t at).answer.code 0) (holding n at (leaves m (n at))) n)
  unfolding on_page
  page-holds = answered-holds _ s t s _ n (holding n at (leaves m (n at))) h done-holds

-- a call on every page
all-holds : (k : Sweep) (s : Session) (t : List ℕ) (m : ℕ → Holding) → Holds t m → Holds (on_all k s t).table m
all-holds k s t m h = all_either (λ (o : Outcome). Holds o.table m) k s t (λ o i. swept-content k t i ∙ h i) (λ e. h)

new-holds : (s : Session) (t : List ℕ) (created : ℕ) → eqb (new_out s t created).answer.code 0 ≡ true → Holds (new_out s t created).table nothing
unfolding new_out
new-holds s t created =
    answered-either (λ (o : Outcome). eqb o.answer.code 0 ≡ true → Holds o.table nothing) (new_code (length t) created) s t
    (new_session (page_count t) created) (replicate (length t) 0)
    (λ q e. new-content (length t))
    (λ q e. absurd (true≢false (sym e ∙ q)))

dscan-holds : (s : Session) (t l : List ℕ) (first count budget : ℕ) (m : ℕ → Holding) → Holds t m → Holds (dscan_out s t l first count budget).table m
unfolding dscan_code
dscan-holds s t l first count budget m h =
    dscan-either s t l first count budget (λ (o : ScanOutcome). Holds o.table m)
    (λ z i.
    let f = (gate-open s (length t) (Live ∷ []) (dscan_tests s (length l) first count) refl z).formed in
    range-content count (dscan_of s first budget) t l (tlb-fits s (length t) f) (dscan-fits s (length t) (length l) first count z).0 i ∙ h i)
    h

dcheck-holds : (s : Session) (t l : List ℕ) (budget : ℕ) (m : ℕ → Holding) → Holds t m → Holds (dcheck_out s t l budget).table m
unfolding dcheck_code
dcheck-holds s t l budget m h =
    dcheck-either s t l budget (λ (o : ScanOutcome). Holds o.table m)
    (λ z i.
    let f = (gate-open s (length t) (Blackout ∷ []) (dcheck_tests s (length l)) refl z).formed in
    range-content (s.fixed.pages - s.check.place) (dcheck_of s budget) t l (tlb-fits s (length t) f) (dcheck-fits s (length t) (length l) z).1.0 i ∙ h i)
    h

export-holds : (s : Session) (t l b : List ℕ) (stream : ℕ) (resume : Bool) (info budget : ℕ) (m : ℕ → Holding) → Holds t m →
    Holds (export_out s t l b stream resume info budget).table m
unfolding export_out export_code ground_of
export-holds s t l b stream resume info budget m h =
    let x = info_of info in
    either (λ (o : ExportOutcome). Holds o.table m) (eqb (export_code s (length t) (length l) (length b) stream resume x) 0)
    (λ q i.
    let o = gate-open s (length t) moving (export_tests s (length l) (length b) stream resume x) refl (eqb-true _ _ q) in
    export-run-content (ground_of s) x.last budget (standing (begun_by (work_of s stream)) t l b) (epoch-fits s (length t) o.formed o.comes) i ∙ h i)
    (λ q. h)

-- ---- every call

module _ (w : World) (l b : List ℕ) (h : Holds w.table w.memory) where
  abbrev s : Session
  s = w.session

  abbrev t : List ℕ
  t = w.table

  abbrev left : Call → Effect
  left c = effect_in w (given c l b)

  call-holds : (c : Call) → Holds (after w (given c l b)).table (after w (given c l b)).memory
  unfolding new_out
  call-holds (New created) =
      answered-holds (new_code (length t) created) s t (new_session (page_count t) created) (replicate (length t) 0) w.memory nothing h (new-holds s t created)
  call-holds (OnPage page m) = page-holds m s t page w.memory h
  call-holds (OnAll k) = unnoted (left (OnAll k)) w.memory (all-holds k s t w.memory h)
  call-holds (OnSession k) = unnoted (left (OnSession k)) w.memory (rw (alone-table k s t) h)
  call-holds StartToken = unnoted (left StartToken) w.memory h
  call-holds (Dscan first count budget) = unnoted (left (Dscan first count budget)) w.memory (dscan-holds s t l first count budget w.memory h)
  call-holds (Dcheck budget) = unnoted (left (Dcheck budget)) w.memory (dcheck-holds s t l budget w.memory h)
  call-holds (Export stream resume info budget) =
      unnoted (left (Export stream resume info budget)) w.memory (export-holds s t l b stream resume info budget w.memory h)
  call-holds (Restore info budget) =
      unnoted (left (Restore info budget)) w.memory (λ i. restored-content s t l info budget i ∙ h i)

run_holds : (l : List Given) (w : World) → Holds w.table w.memory → Holds (run w l).table (run w l).memory
run_holds [] w h = h
run_holds (g ∷ l) w h = run_holds l (after w g) (call-holds w g.list g.buffer h g.call)

remembered : (h : History) (i : ℕ) → content (page_at (at_end h).table i) ≡ (at_end h).memory i
remembered h = run_holds h.calls (new_world h.session h.words h.created) (new-holds h.session h.words h.created h.new)

pub remembers : Remembers
remembers = record { marks = remembered }

-- ---- the copy

pub frozen : (h : History) → granted (at_end h) ≡ true → (i : ℕ) → (at_end h).memory i ≡ (at_end h).copy i
unfolding token_out
frozen h e =
    let w = at_end h in
    run-copied h.calls (new_world h.session h.words h.created) (λ x i. refl)
    (token-paused w.session w.table (rw (token-number (token_code w.session w.table) w.table) at e))
