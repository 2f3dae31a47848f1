-- The calls that make no entry: each steps every page, or makes every page anew with nothing at the destination, or leaves a session in Idle, where nothing is
-- asked of the destination.
use mathlib.Core.Path.{◌≡◌, refl, ap}
use mathlib.Core.Logic.{inl, inr}
use mathlib.Core.Bool.{cond}
use mathlib.Core.List.{List, [], ◌∷◌}
use Prim.Native.Nat.{ℕ, ◌+◌, ◌-◌, ◌*◌, ◌^◌, ◌≤◌, ◌<◌}
use native.Mathlib.Omega.{arith}
use lib.Dec.{eqb}
use lib.ListN.{length, replicate}
use borrow.Author.Tests.{eqb-true}
use Rattle.refusals.proofs.Laws.{either}
use Rattle.states.specs.States.{is_strange, is_in}
use Rattle.words.specs.Info.{info_of}
use Rattle.words.specs.declared.infos.Info.{Info}
use Rattle.page.specs.Page.{page_of, blocked, unstartable}
use Rattle.page.specs.declared.PageWords.{PageWords}
use Rattle.page.specs.declared.moves.Move.{Move}
use Rattle.page.specs.declared.sweeps.Sweep.{Sweep}
use Rattle.page.specs.declared.sweeps.Sweep.TheVariants.{Track, Start, Pause}
use Rattle.table.specs.Table.{page_count, page_at}
use Rattle.table.proofs.Laws.{some-none}
use Rattle.session.specs.Session.{begun, with_phase, with_epoch, new_session}
use Rattle.session.specs.Outcome.{Outcome}
use Rattle.session.specs.declared.Phase.{Phase}
use Rattle.session.specs.declared.Phase.TheVariants.{Idle, Live, Blackout, Done}
use Rattle.session.specs.declared.Session.{Session}
use Rattle.session.proofs.Laws.{answered-either, gate-open}
use Rattle.session.proofs.FormedLaws.{idle-is, tlb-fits}
use Rattle.memory.specs.Memory.{new_code, new_out, on_page}
use Rattle.memory.proofs.Laws.{page-either}
use Rattle.migration.specs.Migration.{sweep_next, alone_next, on_session}
use Rattle.migration.specs.Token.{token_tests, token_code, token_out}
use Rattle.migration.specs.declared.Alone.{Alone}
use Rattle.migration.specs.declared.Alone.TheVariants.{NewEpoch, Reset, Abort}
use Rattle.migration.proofs.Laws.{SweepOpen, alone-either}
use Rattle.scan.specs.Scan.{range_run, checked_by, ScanOutcome, dscan_tests, dscan_code, dscan_of, dscan_out, dcheck_tests, dcheck_code, dcheck_of, dcheck_out}
use Rattle.scan.specs.declared.Scan.{Scan}
use Rattle.scan.proofs.Laws.{dscan-fits, dcheck-fits}
use Rattle.scan.proofs.Outcomes.{answer-session, dscanned, dscan-either, dchecked, dcheck-either}
use Rattle.lists.specs.Run.{standing}
use Rattle.lists.proofs.Moves.{run-each}
use Rattle.lists.proofs.Promises.{run-promises}
use Rattle.entry.specs.Entry.{ground_of}
use Rattle.restoring.proofs.Laws.{restored-either, restored-page}
use Rattle.restore.specs.Restore.{restore_asks, restore_code, restore_step, begun_at, RestoreOutcome, restore_run, restore_out}
use Rattle.restore.proofs.Moves.{restore-either}
use Rattle.bundle.specs.Bundle.{absent, Sent}
use Rattle.history.specs.History.{begins_log}
use Rattle.history.proofs.Pages.{moment_of}
use Rattle.history.proofs.Moves.{still-guest}
use Rattle.history.proofs.Contents.{zero-page}
use Rattle.history.proofs.Sweeps.{uncached-step, session-step, started-ok, Home, ok_home, restored-home}
use Rattle.history.proofs.Sessions.{not-idle}
use Rattle.history.proofs.Rows.{page-steps, swept, sweep-steps, scan_steps, rows-anew, rows-idle}
use Rattle.history.proofs.Logs.{Fine, fine-steps, fine-none}

-- the entries since the last start: none in Idle
abbrev pub since : Phase → List Sent → List Sent
since Idle log = []
since Live log = log
since Blackout log = log
since Done log = log

-- what a session, a table and a log say together
abbrev pub Stands : Session → List ℕ → List Sent → Type 0
Stands s t log = Fine (moment_of s) (since s.phase log) t

since-idle : (p : Phase) (log : List Sent) → p ≡ Idle → since p log ≡ []
since-idle p log e = ap (λ (q : Phase). since q log) e

pub since-begun : (p : Phase) (log : List Sent) → (p ≡ Idle → ⊥) → since p log ≡ log
since-begun Idle log n = absurd (n refl)
since-begun Live log n = refl
since-begun Blackout log n = refl
since-begun Done log n = refl

-- ---- New

pub anew-stands : (pages created n : ℕ) (log : List Sent) → Stands (new_session pages created) (replicate n 0) log
unfolding is_in is_strange
anew-stands pages created n log =
    fine-none
    (λ i h. rw (zero-page n i) (record {
      has = absent;
      ok = record { known = refl; abroad = tt; seen = λ a x. refl; still = tt };
      past = tt;
    }))

-- ---- what comes back of the session

page-session : (m : Move) (s : Session) (t : List ℕ) (at : ℕ) → (on_page m s t at).answer.session ≡ s
page-session m s t at = page-either m s t at (λ (o : Outcome). o.answer.session ≡ s) (λ d. refl) (λ q. refl)

-- ---- each call

-- what a call leaves, with the log that there was
abbrev Leaves : List Sent → Outcome → Type 0
Leaves log o = Stands o.answer.session o.table log

module _ (s : Session) (t : List ℕ) (log : List Sent) (f : Stands s t log) where
  -- ---- of memory

  pub new-stands : (created : ℕ) → Leaves log (new_out s t created)
  unfolding new_out
  new-stands created =
      answered-either (Leaves log) (new_code (length t) created) s t (new_session (page_count t) created) (replicate (length t) 0)
      (λ e. anew-stands (page_count t) created (length t) log)
      (λ e. f)

  pub page-stands : (m : Move) (at : ℕ) → Leaves log (on_page m s t at)
  page-stands m at = rw (page-session m s t at) (fine-steps (omega arith) (page-steps m s t at) f)

  -- ---- of the migration

  -- what a call on every page makes: a start begins a new log
  pub sweep-stands : (k : Sweep) → SweepOpen k s t → Stands (sweep_next k s) (swept k t) (cond (begins_log k) [] log)
  sweep-stands Track o =
      fine-steps (omega arith) (sweep-steps Track _ _ t (inl refl) (λ i h. uncached-step _ _ (page_at t i) (omega arith) (inl refl) (λ u. still-guest s.phase o.comes _ _))) f
  sweep-stands Start o =
      fine-none
      (rows-anew Start (moment_of s) (moment_of (begun s Live 1)) (since s.phase log) t
      (λ i h v k. started-ok (moment_of s) (moment_of (begun s Live 1)) (page_at t i) (some-none unstartable t o.passed.0 i h) refl refl v k)
      f.rows)
  sweep-stands Pause o =
      fine-steps (omega arith)
      (sweep-steps Pause _ _ t (inr live) (λ i h. uncached-step _ _ (page_at t i) (omega arith) (inr live) (λ u. (refl, some-none blocked t o.passed.0 i h))))
      (rw (since-begun s.phase log live) at f)
    where
      live : s.phase ≡ Idle → ⊥
      live = not-idle (Live ∷ []) s.phase refl o.comes

  -- in Idle pages are asked for less than they are known to be
  homes : (i : ℕ) → i < page_count t → Home s.clock (page_at t i)
  homes i h = let row = f.rows i h in ok_home (moment_of s) (page_at t i) row.has row.ok

  -- of what a page depends on, the migration epoch alone is another
  epoch-stands : (n : ℕ) → s.epoch ≤ n → Stands (with_epoch s n) t log
  epoch-stands n e =
      fine-steps e
      (record {
        size = refl;
        lasts = inl refl;
        at = λ i h. session-step (moment_of s) (moment_of (with_epoch s n)) (page_at t i) e (inl refl) refl (λ u. u);
      })
      f

  next-stands : (k : Alone) → Stands (alone_next k s) t log
  next-stands NewEpoch = epoch-stands (s.epoch + 1) (omega arith)
  next-stands Reset = epoch-stands s.epoch (omega arith)
  next-stands Abort = fine-none (rows-idle (moment_of (begun s Idle 0)) t refl homes)

  pub alone-stands : (k : Alone) → Leaves log (on_session k s t)
  alone-stands k = alone-either (Leaves log) k s t (λ o. next-stands k) (λ e. f)

  pub token-stands : Stands (token_out s t).session t log
  unfolding token_out token_code
  token-stands =
      either (λ (s' : Session). Stands s' t log) (eqb (token_code s t) 0)
      (λ e.
      let o = gate-open s (length t) (Blackout ∷ []) (token_tests s t) refl (eqb-true _ _ e) in
      let paused = not-idle (Blackout ∷ []) s.phase refl o.comes in
      fine-steps (omega arith)
      (record {
        size = refl;
        lasts = inr paused;
        at = λ i h. session-step (moment_of s) (moment_of (with_phase s Done)) (page_at t i) (omega arith) (inr paused) refl (λ u. tt);
      })
      (rw (since-begun s.phase log paused) at f))
      (λ e. f)

  -- ---- the scans

  scan-stands : (count : ℕ) (scan : Scan) (l : List ℕ) → scan.clock ≡ s.clock → s.clock.tlb < 2 ^ 16 → 2 * scan.first + 2 * count ≤ length t →
      Stands s (range_run count scan t l).part log
  scan-stands count scan l e small fits = fine-steps (omega arith) (scan_steps (moment_of s) count scan t l e small fits) f

  pub dscan-stands : (l : List ℕ) (first count budget : ℕ) →
      Stands (dscan_out s t l first count budget).answer.session (dscan_out s t l first count budget).table log
  unfolding dscan_code
  dscan-stands l first count budget =
      dscan-either s t l first count budget (λ (o : ScanOutcome). Stands o.answer.session o.table log)
      (λ z.
      let o = gate-open s (length t) (Live ∷ []) (dscan_tests s (length l) first count) refl z in
      rw (answer-session (dscanned s t l first count budget).scanned s)
      (scan-stands count (dscan_of s first budget) l refl (tlb-fits s (length t) o.formed) (dscan-fits s (length t) (length l) first count z).0))
      f

  pub dcheck-stands : (l : List ℕ) (budget : ℕ) → Stands (dcheck_out s t l budget).answer.session (dcheck_out s t l budget).table log
  unfolding dcheck_code checked_by
  dcheck-stands l budget =
      dcheck-either s t l budget (λ (o : ScanOutcome). Stands o.answer.session o.table log)
      (λ z.
      let o = gate-open s (length t) (Blackout ∷ []) (dcheck_tests s (length l)) refl z in
      rw (answer-session (dchecked s t l budget).scanned (checked_by s (dchecked s t l budget).scanned))
      (scan-stands (s.fixed.pages - s.check.place) (dcheck_of s budget) l refl (tlb-fits s (length t) o.formed)
      (dcheck-fits s (length t) (length l) z).1.0))
      f

  -- ---- RESTORE

  restore-home : (l : List ℕ) (x : Info) (budget i : ℕ) → i < page_count t → Home s.clock (page_at (restore_run s t l x budget).table i)
  restore-home l x budget i h =
      run-each (λ (w : PageWords). Home s.clock (page_of w)) (restore_step (ground_of s))
      (λ word held w o.
      restored-either word held w (ground_of s) (λ (v : PageWords). Home s.clock (page_of v))
      (λ e. rw (restored-page w) (restored-home s.clock (page_of w) o)) o)
      x.last budget (standing (begun_at x) t l []) i (homes i h)

  -- it comes in Idle, and a page is as it was or restored
  pub restore-stands : (l : List ℕ) (info budget : ℕ) →
      Stands (restore_out s t l info budget).answer.session (restore_out s t l info budget).table log
  unfolding restore_code
  restore-stands l info budget =
      let x = info_of info in
      restore-either (λ (o : RestoreOutcome). Stands o.answer.session o.table log) s t l info budget
      (λ z.
      let idle : s.phase ≡ Idle = idle-is s.phase (gate-open s (length t) (Idle ∷ []) (restore_asks (length l) x) refl z).comes in
      let size = (run-promises.lengths (restore_step (ground_of s)) x.last budget (standing (begun_at x) t l [])).0 in
      rw (since-idle s.phase log idle)
      (fine-none (rows-idle (moment_of s) (restore_run s t l x budget).table idle (λ i h. restore-home l x budget i (rw size at h)))))
      (λ z. f)
