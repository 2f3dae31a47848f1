-- What a call makes of the session when its code is 0: the tests that it has passed are what its new session needs (`Sessions`).
use Rattle.std.specs.Prelude.{Some, None}
use mathlib.Core.Path.{◌≡◌, refl, ap, ◌∙◌}
use mathlib.Core.Bool.{Bool, true, not, false≢true}
use mathlib.Core.List.{List, [], ◌∷◌}
use Prim.Native.Nat.{ℕ, zero, suc, ◌+◌, ◌-◌, ◌/◌, ◌≤◌, ◌<◌}
use native.Mathlib.Omega.{arith}
use lib.Dec.{eqb}
use lib.ListN.{length}
use borrow.Author.Tests.{ltb-true, ltb-false, leb-false, eqb-true}
use Rattle.words.specs.Codes as codes
use Rattle.words.specs.Info.{info_of}
use Rattle.refusals.specs.Refusals.{◌gives◌}
use Rattle.refusals.proofs.Laws.{either, passed, first-all, not-false}
use Rattle.page.specs.declared.sweeps.Sweep.{Sweep}
use Rattle.page.specs.declared.sweeps.Sweep.TheVariants.{Track, Start, Pause}
use Rattle.table.specs.Table.{legal, words_at}
use Rattle.session.specs.Session.{moving, stream_places, new_session, with_phase, work_of}
use Rattle.session.specs.Formed.{last_epoch, fewest_created, most_created, within, usable}
use Rattle.session.specs.declared.Phase.TheVariants.{Blackout, Done}
use Rattle.session.specs.declared.Session.{Session}
use Rattle.session.proofs.Laws.{gate-open}
use Rattle.session.proofs.FormedLaws.{Formed, formed-means}
use Rattle.memory.specs.Memory.{new_code}
use Rattle.migration.specs.Migration.{sweep_next, alone_next}
use Rattle.migration.specs.Token.{token_tests, token_code}
use Rattle.migration.specs.declared.Alone.{Alone}
use Rattle.migration.specs.declared.Alone.TheVariants.{NewEpoch, Reset, Abort}
use Rattle.migration.proofs.Laws.{SweepOpen, AloneOpen}
use Rattle.scan.specs.Look.{look_of}
use Rattle.scan.specs.Scan.{Scanned, stop_tests, stop_code, ScanOut, scan_run, part_of, range_run, checked_by, dcheck_tests, dcheck_code, dcheck_of}
use Rattle.scan.specs.declared.Scan.{Scan}
use Rattle.scan.proofs.Outcomes.{dchecked}
use Rattle.lists.specs.Run.{standing}
use Rattle.lists.specs.List.{is_over}
use Rattle.lists.proofs.Laws.{Bounds, run-bounds}
use Rattle.entry.specs.Entry.{ground_of}
use Rattle.export.specs.Export.{ExportAnswer, export_tests, export_code, export_step, begun_by, finished_by}
use Rattle.export.proofs.Laws.{export-ready}
use Rattle.export.proofs.Moves.{exported}
use Rattle.history.proofs.Sessions.{track-formed, start-formed, abort-formed, pause-formed, epoch-formed, reset-formed}
use Rattle.history.proofs.Sessions.{check-formed, token-formed, run-formed, new-formed}

-- ---- New

pub new-made : (len created : ℕ) → new_code len created ≡ 0 → Formed (new_session (len / 2) created) len
unfolding new_code
new-made len created e =
    let p = passed (not (legal len) gives codes.malformed ∷ not (within fewest_created most_created created) gives codes.operand_invalid ∷ []) refl e in
    new-formed len created (not-false (legal len) p.0) (not-false (within fewest_created most_created created) p.1.0)

-- ---- the calls on every page and on the session alone

pub sweep-made : (k : Sweep) (s : Session) (t : List ℕ) → SweepOpen k s t → Formed (sweep_next k s) (length t)
sweep-made Track s t o = track-formed (formed-means s (length t) o.formed) (leb-false last_epoch s.clock.tlb o.passed.0)
sweep-made Start s t o = start-formed (formed-means s (length t) o.formed)
sweep-made Pause s t o = pause-formed (formed-means s (length t) o.formed) o.comes

-- and it has its eight streams
pub sweep-streams : (k : Sweep) (s : Session) → length s.streams ≡ stream_places → length (sweep_next k s).streams ≡ stream_places
sweep-streams Track s n = n
sweep-streams Start s n = refl
sweep-streams Pause s n = n

pub alone-made : (k : Alone) (s : Session) (len : ℕ) → AloneOpen k s len → Formed (alone_next k s) len
alone-made NewEpoch s len o = epoch-formed (formed-means s len o.formed) o.comes (leb-false last_epoch s.epoch o.passed.1.0)
alone-made Reset s len o = reset-formed (formed-means s len o.formed)
alone-made Abort s len o = abort-formed (formed-means s len o.formed)

pub alone-streams : (k : Alone) (s : Session) → length s.streams ≡ stream_places → length (alone_next k s).streams ≡ stream_places
alone-streams NewEpoch s n = n
alone-streams Reset s n = n
alone-streams Abort s n = refl

-- ---- the token

module _ (s : Session) (t : List ℕ) where
  pub token-made : token_code s t ≡ 0 → Formed (with_phase s Done) (length t)
  unfolding token_code
  token-made e =
      let o = gate-open s (length t) (Blackout ∷ []) (token_tests s t) refl e in
      token-formed (formed-means s (length t) o.formed) o.comes o.passed.0

-- ---- a DCHECK

-- a run comes at most to its end, and answers 3 there alone
record Comes (end : ℕ) (g : Scanned) : Type 0 where
  next : g.next ≤ end
  complete : g.code ≡ codes.check_complete → g.next ≡ end

run-comes : (n : ℕ) (scan : Scan) (i put : ℕ) (part list : List ℕ) → Comes (scan.first + i + n) (scan_run n scan i put part list).scanned
unfolding scan_run stop_code
run-comes zero scan i put part list = record { next = omega arith; complete = λ q. omega arith }
run-comes (suc n) scan i put part list =
    let f = look_of (words_at part i) (scan.first + i) scan.clock in
    let there : scan.first + (i + 1) + n ≡ scan.first + i + suc n = omega arith in
    let other : not (eqb (stop_code scan f.blocked f.listed i put (length list)) codes.check_complete) ≡ true
    = first-all (λ (m : ℕ). not (eqb m codes.check_complete)) (stop_tests scan f.blocked f.listed i put (length list)) refl refl in
    either (λ (o : ScanOut). Comes (scan.first + i + suc n) o.scanned) (eqb (stop_code scan f.blocked f.listed i put (length list)) 0)
    (λ e. rw (← there) (run-comes n scan (i + 1) _ _ _))
    (λ e. record { next = omega arith; complete = λ q. absurd (false≢true (rw q at other)) })

pub check-made : (s : Session) (t l : List ℕ) (budget : ℕ) → dcheck_code s (length t) (length l) ≡ 0 →
    Formed (checked_by s (dchecked s t l budget).scanned) (length t)
unfolding dcheck_code range_run checked_by
check-made s t l budget e =
    let o = gate-open s (length t) (Blackout ∷ []) (dcheck_tests s (length l)) refl e in
    let f = formed-means s (length t) o.formed in
    let g = (dchecked s t l budget).scanned in
    let count = s.fixed.pages - s.check.place in
    let c = run-comes count (dcheck_of s budget) 0 0 (part_of t s.check.place count) l in
    let end : s.check.place + 0 + count ≡ s.fixed.pages = omega (arith, f.place) in
    check-formed f (checked_by s g).check
    (record {
      place = omega (arith, c.next, end);
      complete = λ q. c.complete (eqb-true _ _ q) ∙ end;
      apart = λ q. ap (λ (n : ℕ). eqb n codes.mem_scan_failed_blocked_range) (eqb-true g.code codes.check_complete q);
    })

-- ---- an export

-- the stream is at rest at the end of the list, and else at an entry up to LAST
pub export-made : (s : Session) (t l b : List ℕ) (stream : ℕ) (resume : Bool) (info budget : ℕ) →
    export_code s (length t) (length l) (length b) stream resume (info_of info) ≡ 0 →
    Formed (finished_by s stream (info_of info) (exported s t l b stream info budget).at).session (length t)
unfolding export_code finished_by
export-made s t l b stream resume info budget e =
    let x = info_of info in
    let o = gate-open s (length t) moving (export_tests s (length l) (length b) stream resume x) refl e in
    let f = formed-means s (length t) o.formed in
    let able : stream + 1 < s.fixed.created = ltb-true _ _ (not-false (usable s stream) o.passed.0) in
    let low : stream < stream_places = omega (arith, able, f.created.high) in
    let r = export-ready s (length t) (length l) (length b) stream resume x e in
    let at = (exported s t l b stream info budget).at in
    let m : Bounds x.last at
    = run-bounds (export_step (ground_of s)) x.last budget (standing (begun_by (work_of s stream)) t l b)
    (record { next = omega (arith, r.ordered); counts = r.counts }) in
    either (λ (a : ExportAnswer). Formed a.session (length t)) (is_over x at.next)
    (λ q. run-formed f stream low None tt)
    (λ q.
    run-formed f stream low (Some (record { next = at.next; last = x.last; errors = at.errors; filled = at.filled }))
    (record { moving = o.comes; usable = able; ordered = ltb-false _ _ q; short = r.short; few-errors = m.counts.errors; few-filled = m.counts.filled }))
