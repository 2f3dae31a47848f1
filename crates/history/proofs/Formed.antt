-- Sessions stay well-formed, and keep their eight streams. A call that is refused gives back the session and the table that came; one that is accepted makes a
-- session that is well-formed again (`Accepted`), and leaves a table of the same length.
use Rattle.std.specs.Prelude.{Option, Some, None}
use mathlib.Core.Path.{◌≡◌, refl, sym, ap, ◌∙◌}
use mathlib.Core.Bool.{true, true≢false}
use mathlib.Core.List.{List, [], ◌∷◌}
use Prim.Native.Nat.{ℕ, ◌-◌}
use lib.Dec.{eqb, ltb}
use lib.ListN.{length, replicate, length-set, length-replicate}
use borrow.Author.Tests.{eqb-true}
use Rattle.words.specs.Info.{info_of}
use Rattle.words.specs.declared.infos.Info.{Info}
use Rattle.refusals.proofs.Laws.{either}
use Rattle.page.specs.Page.{on_words}
use Rattle.page.specs.Sweeps.{swept_by}
use Rattle.page.specs.declared.moves.Move.{Move}
use Rattle.page.specs.declared.sweeps.Sweep.{Sweep}
use Rattle.table.specs.Table.{page_count, sweep_of}
use Rattle.table.proofs.Laws.{put-length, sweep-length}
use Rattle.session.specs.Session.{stream_places, new_session, with_phase, with_work, work_of}
use Rattle.session.specs.Formed.{formed}
use Rattle.session.specs.Outcome.{Outcome, answered}
use Rattle.session.specs.declared.Phase.TheVariants as phase
use Rattle.session.specs.declared.Session.{Session}
use Rattle.session.specs.declared.streams.Interruption.{Interruption}
use Rattle.session.proofs.Laws.{answered-either}
use Rattle.session.proofs.FormedLaws.{Formed, formed-means, means-formed}
use Rattle.memory.specs.Memory.{new_code, new_out, on_page}
use Rattle.migration.specs.Migration.{sweep_next, sweep_code, on_all, alone_next, alone_code, on_session}
use Rattle.migration.specs.Token.{token_code, token_out}
use Rattle.migration.specs.declared.Alone.{Alone}
use Rattle.migration.proofs.Laws.{all_either, alone-either}
use Rattle.scan.specs.Scan.{range_run, checked_by, ScanOutcome, dscan_of, dcheck_of}
use Rattle.scan.proofs.RangeLaws.{range_length}
use Rattle.scan.proofs.Outcomes.{answer-session, dscan-either, dchecked, dcheck-either}
use Rattle.lists.specs.Run.{standing}
use Rattle.lists.specs.List.{is_over}
use Rattle.lists.specs.declared.runs.Progress.{Progress}
use Rattle.lists.proofs.Promises.{run-promises}
use Rattle.entry.specs.Entry.{ground_of}
use Rattle.export.specs.Export.{ExportAnswer, export_code, export_step, begun_by, finished_by, ExportOutcome, export_out}
use Rattle.export.proofs.Moves.{exported, export-either}
use Rattle.restore.specs.Restore.{restore_step, begun_at, RestoreOutcome}
use Rattle.restore.proofs.Moves.{restore-either}
use Rattle.calls.specs.Calls.{effect_of}
use Rattle.calls.specs.declared.Call.{Call}
use Rattle.calls.specs.declared.Call.TheVariants.{New, OnPage, OnAll, OnSession, StartToken, Dscan, Dcheck, Export, Restore}
use Rattle.history.specs.History.{Given, World, accepted, after, run, new_effect, new_world, History, at_end}
use Rattle.history.specs.Promises.{StaysFormed}
use Rattle.history.proofs.Accepted.{new-made, sweep-made, sweep-streams, alone-made, alone-streams, token-made, check-made, export-made}

-- ---- every call

module _ (s : Session) (t : List ℕ) (f : formed s (length t) ≡ true) where
  abbrev means : Formed s (length t)
  means = formed-means s (length t) f

  answered-formed : (code : ℕ) (s' : Session) (t' : List ℕ) → (code ≡ 0 → Formed s' (length t)) → length t' ≡ length t →
      formed (answered code s t s' t').answer.session (length (answered code s t s' t').table) ≡ true
  answered-formed code s' t' made size =
      answered-either (λ (o : Outcome). formed o.answer.session (length o.table) ≡ true) code s t s' t'
      (λ e. rw size (means-formed s' (length t) (made (eqb-true _ _ e))))
      (λ e. f)

  page-formed : (m : Move) (at : ℕ) → formed (on_page m s t at).answer.session (length (on_page m s t at).table) ≡ true
  unfolding on_page
  page-formed m at = answered-formed _ s _ (λ e. means) (put-length t at _)

  all-formed : (k : Sweep) → formed (on_all k s t).answer.session (length (on_all k s t).table) ≡ true
  all-formed k =
      all_either (λ (o : Outcome). formed o.answer.session (length o.table) ≡ true) k s t
      (λ o. rw (sweep-length (on_words (swept_by k)) t) (means-formed (sweep_next k s) (length t) (sweep-made k s t o)))
      (λ e. f)

  session-formed : (k : Alone) → formed (on_session k s t).answer.session (length (on_session k s t).table) ≡ true
  session-formed k =
      alone-either (λ (o : Outcome). formed o.answer.session (length o.table) ≡ true) k s t
      (λ o. means-formed (alone_next k s) (length t) (alone-made k s (length t) o))
      (λ e. f)

  granted-formed : formed (token_out s t).session (length t) ≡ true
  unfolding token_out
  granted-formed =
      either (λ (s' : Session). formed s' (length t) ≡ true) (eqb (token_code s t) 0)
      (λ e. means-formed (with_phase s phase.Done) (length t) (token-made s t (eqb-true _ _ e)))
      (λ e. f)

  call-formed : (l b : List ℕ) (c : Call) → formed (effect_of c s t l b).returned.session (length (effect_of c s t l b).table) ≡ true
  unfolding new_out checked_by export_out
  call-formed l b (New created) =
      answered-formed (new_code (length t) created) (new_session (page_count t) created) (replicate (length t) 0) (new-made (length t) created)
      (length-replicate (length t) 0)
  call-formed l b (OnPage page m) = page-formed m page
  call-formed l b (OnAll k) = all-formed k
  call-formed l b (OnSession k) = session-formed k
  call-formed l b StartToken = granted-formed
  call-formed l b (Dscan first count budget) =
      dscan-either s t l first count budget (λ (o : ScanOutcome). formed o.answer.session (length o.table) ≡ true)
      (λ e. rw (range_length count (dscan_of s first budget) t l, answer-session (range_run count (dscan_of s first budget) t l).scanned s) f)
      f
  call-formed l b (Dcheck budget) =
      dcheck-either s t l budget (λ (o : ScanOutcome). formed o.answer.session (length o.table) ≡ true)
      (λ e.
      let g = (dchecked s t l budget).scanned in
      rw (range_length (s.fixed.pages - s.check.place) (dcheck_of s budget) t l, answer-session g (checked_by s g))
      (means-formed (checked_by s g) (length t) (check-made s t l budget e)))
      f
  call-formed l b (Export stream resume info budget) =
      let x = info_of info in
      let ran = exported s t l b stream info budget in
      either (λ (o : ExportOutcome). formed o.answer.session (length o.table) ≡ true)
      (eqb (export_code s (length t) (length l) (length b) stream resume x) 0)
      (λ e.
      rw (run-promises.lengths (export_step (ground_of s)) x.last budget (standing (begun_by (work_of s stream)) t l b)).0
      (means-formed (finished_by s stream x ran.at).session (length t) (export-made s t l b stream resume info budget (eqb-true _ _ e))))
      (λ e. f)
  call-formed l b (Restore info budget) =
      let x = info_of info in
      restore-either (λ (o : RestoreOutcome). formed o.answer.session (length o.table) ≡ true) s t l info budget
      (λ e. rw (run-promises.lengths (restore_step (ground_of s)) x.last budget (standing (begun_at x) t l [])).0 f)
      (λ e. f)

pub formed-after : (w : World) (g : Given) → formed w.session (length w.table) ≡ true → formed (after w g).session (length (after w g).table) ≡ true
formed-after w g f = call-formed w.session w.table f g.list g.buffer g.call

-- ---- the streams of every call

module _ (s : Session) (t : List ℕ) (n : length s.streams ≡ stream_places) where
  answered-streams : (code : ℕ) (s' : Session) (t' : List ℕ) → length s'.streams ≡ stream_places →
      length (answered code s t s' t').answer.session.streams ≡ stream_places
  answered-streams code s' t' made =
      answered-either (λ (o : Outcome). length o.answer.session.streams ≡ stream_places) code s t s' t' (λ e. made) (λ e. n)

  page-streams : (m : Move) (at : ℕ) → length (on_page m s t at).answer.session.streams ≡ stream_places
  unfolding on_page
  page-streams m at = answered-streams _ s _ n

  token-streams : length (token_out s t).session.streams ≡ stream_places
  unfolding token_out
  token-streams = either (λ (s' : Session). length s'.streams ≡ stream_places) (eqb (token_code s t) 0) (λ e. n) (λ e. n)

  run-streams : (i : ℕ) (r : Option Interruption) → length (with_work s i r).streams ≡ stream_places
  unfolding with_work
  run-streams i r = either (λ (s' : Session). length s'.streams ≡ stream_places) (ltb i stream_places) (λ e. length-set s.streams i (record { work = r })
      ∙ n) (λ e. n)

  export-streams : (stream : ℕ) (x : Info) (at : Progress) → length (finished_by s stream x at).session.streams ≡ stream_places
  unfolding finished_by
  export-streams stream x at =
      either (λ (a : ExportAnswer). length a.session.streams ≡ stream_places) (is_over x at.next) (λ e. run-streams stream None)
      (λ e. run-streams stream (Some (record { next = at.next; last = x.last; errors = at.errors; filled = at.filled })))

  call-streams : (l b : List ℕ) (c : Call) → length (effect_of c s t l b).returned.session.streams ≡ stream_places
  unfolding new_out on_all on_session checked_by
  call-streams l b (New created) = answered-streams (new_code (length t) created) (new_session (page_count t) created) (replicate (length t) 0) refl
  call-streams l b (OnPage page m) = page-streams m page
  call-streams l b (OnAll k) = answered-streams (sweep_code k s t) (sweep_next k s) (sweep_of (on_words (swept_by k)) t) (sweep-streams k s n)
  call-streams l b (OnSession k) = answered-streams (alone_code k s (length t)) (alone_next k s) t (alone-streams k s n)
  call-streams l b StartToken = token-streams
  call-streams l b (Dscan first count budget) =
      dscan-either s t l first count budget (λ (o : ScanOutcome). length o.answer.session.streams ≡ stream_places)
      (λ e. rw (answer-session (range_run count (dscan_of s first budget) t l).scanned s) n)
      n
  call-streams l b (Dcheck budget) =
      dcheck-either s t l budget (λ (o : ScanOutcome). length o.answer.session.streams ≡ stream_places)
      (λ e. rw (answer-session (dchecked s t l budget).scanned (checked_by s (dchecked s t l budget).scanned)) n)
      n
  call-streams l b (Export stream resume info budget) =
      export-either (λ (o : ExportOutcome). length o.answer.session.streams ≡ stream_places) s t l b stream resume info budget
      (export-streams stream (info_of info) (exported s t l b stream info budget).at)
      n
  call-streams l b (Restore info budget) =
      restore-either (λ (o : RestoreOutcome). length o.answer.session.streams ≡ stream_places) s t l info budget (λ e. n) (λ e. n)

-- a session has its eight streams
pub streams-after : (w : World) (g : Given) → length w.session.streams ≡ stream_places → length (after w g).session.streams ≡ stream_places
streams-after w g n = call-streams w.session w.table n g.list g.buffer g.call

-- ---- histories

-- what a history begins with, New being accepted
pub new-begins : (s : Session) (t : List ℕ) (created : ℕ) → accepted (new_effect s t created) ≡ true →
    (formed (new_world s t created).session (length (new_world s t created).table) ≡ true) × (length (new_world s t created).session.streams ≡ stream_places)
unfolding new_out
new-begins s t created =
    answered-either (λ (o : Outcome). eqb o.answer.code 0 ≡ true →
    (formed o.answer.session (length o.table) ≡ true) × (length o.answer.session.streams ≡ stream_places))
    (new_code (length t) created) s t (new_session (page_count t) created) (replicate (length t) 0)
    (λ e a. (
      ap (formed (new_session (page_count t) created)) (length-replicate (length t) 0)
          ∙ means-formed (new_session (page_count t) created) (length t) (new-made (length t) created (eqb-true _ _ e)),
      refl,
    ))
    (λ e a. absurd (true≢false (sym a ∙ e)))

formed-run : (l : List Given) (w : World) → formed w.session (length w.table) ≡ true → formed (run w l).session (length (run w l).table) ≡ true
formed-run [] w f = f
formed-run (g ∷ l) w f = formed-run l (after w g) (formed-after w g f)

streams-run : (l : List Given) (w : World) → length w.session.streams ≡ stream_places → length (run w l).session.streams ≡ stream_places
streams-run [] w n = n
streams-run (g ∷ l) w n = streams-run l (after w g) (streams-after w g n)

pub stays-formed : StaysFormed
stays-formed =
    record { formed = λ h. formed-run h.calls (new_world h.session h.words h.created) (new-begins h.session h.words h.created h.new).0 }

pub streams-end : (h : History) → length (at_end h).session.streams ≡ stream_places
streams-end h = streams-run h.calls (new_world h.session h.words h.created) (new-begins h.session h.words h.created h.new).1
