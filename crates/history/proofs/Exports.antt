-- An export: along its run the log grows by exactly the entries that succeed, as the words and the buffer that come back tell them; and how far it came is
-- told by its answer.
use Rattle.std.specs.Prelude.{Option, Some, None}
use mathlib.Core.Path.{◌≡◌, refl, sym, ap, ◌∙◌}
use mathlib.Core.Bool.{Bool, true, false, ◌&&◌, true≢false}
use mathlib.Core.List.{List, ◌++◌, append_assoc, append-nil}
use Prim.Native.Nat.{ℕ, zero, suc, ◌+◌, ◌-◌, ◌^◌, ◌≤◌, ◌<◌}
use native.Mathlib.Omega.{arith}
use lib.Dec.{eqb, ltb}
use lib.ListN.{length, set, length-set}
use lib.Seq.{get_or-set_same, get_or-set_other}
use borrow.Author.Tests.{eqb-true, ltb-true, ltb-false}
use Rattle.words.specs.Info.{info_of, with_first}
use Rattle.words.specs.declared.infos.Info.{Info}
use Rattle.words.proofs.InfoLaws.{info-fits, info-word}
use Rattle.refusals.proofs.Laws.{either, and_left, not-false}
use Rattle.table.specs.Table.{page_count}
use Rattle.session.specs.Session.{among, moving, work_of, with_work, with_streams, stream_places}
use Rattle.session.specs.Formed.{last_entry}
use Rattle.session.specs.declared.Phase.TheVariants.{Idle}
use Rattle.session.specs.declared.Session.{Session}
use Rattle.session.specs.declared.streams.Interruption.{Interruption}
use Rattle.session.specs.declared.streams.Stream.{Stream}
use Rattle.session.proofs.Laws.{gate-open}
use Rattle.session.proofs.FormedLaws.{formed-means, epoch-fits}
use Rattle.entry.specs.declared.Ground.{Ground}
use Rattle.lists.specs.Run.{Standing, standing, taking, counted, stepped, list_run}
use Rattle.lists.specs.List.{is_over, info_back}
use Rattle.lists.specs.declared.runs.Progress.{Progress}
use Rattle.lists.proofs.Laws.{run-keeps, run-bounds, back-next}
use Rattle.lists.proofs.Moves.{step-length}
use Rattle.entry.specs.Entry.{ground_of}
use Rattle.export.specs.Export.{ExportAnswer, no_resumption, no_new_call, not_from_0, export_tests, export_code, export_step, begun_by, finished_by, ExportOutcome, ran_export}
use Rattle.export.specs.Export.{export_out}
use Rattle.export.proofs.Laws.{export-ready}
use Rattle.export.proofs.Moves.{exported}
use Rattle.calls.specs.Calls.{export_numbers, export_effect}
use Rattle.bundle.specs.Bundle.{Sent}
use Rattle.history.specs.History.{World, sent_by, sent_from, came_to, sent_in}
use Rattle.history.proofs.Pages.{moment_on}
use Rattle.history.proofs.Sessions.{not-idle}
use Rattle.history.proofs.Logs.{Orderly, Fine, adds, one_more}
use Rattle.history.proofs.Stands.{Stands, since-begun}

-- ---- words that are not touched, and the one that is

sent-set : (epoch : ℕ) (l b : List ℕ) (at w v first n : ℕ) → first + n ≤ at → sent_from epoch (set l at w) (set b at v) first n ≡ sent_from epoch l b first n
sent-set epoch l b at w v first zero h = refl
sent-set epoch l b at w v first (suc n) h =
    let other : first + n ≡ at → ⊥ = λ e. omega arith in
    rw (get_or-set_other l at (first + n) w 0 other, get_or-set_other b at (first + n) v 0 other, sent-set epoch l b at w v first n (omega arith))

-- the entries of a step: those before, and the one of its word
sent-step : (epoch : ℕ) (l b : List ℕ) (at w v first : ℕ) → first ≤ at → at < length l → at < length b →
    sent_from epoch (set l at w) (set b at v) first (at + 1 - first) ≡ sent_from epoch l b first (at - first) ++ sent_by epoch w v
sent-step epoch l b at w v first h hl hb =
    let more : at + 1 - first ≡ suc (at - first) = omega arith in
    let here : first + (at - first) ≡ at = omega arith in
    rw (more, here, get_or-set_same l at w 0 hl, get_or-set_same b at v 0 hb, sent-set epoch l b at w v first (at - first) (omega arith))

-- ---- the entries in turn

record Logging (g : Ground) (log : List Sent) (first last : ℕ) (s : Standing) : Type 0 where
  orderly : Orderly (log ++ sent_from g.epoch s.list s.buffer first (s.at.next - first))
  fine : Fine (moment_on g) (log ++ sent_from g.epoch s.list s.buffer first (s.at.next - first)) s.table
  from : first ≤ s.at.next
  long : last < length s.list
  same : length s.buffer ≡ length s.list
  size : g.pages ≡ page_count s.table

module _ (g : Ground) (moves : among moving g.phase ≡ true) (small : g.epoch < 2 ^ 16) (log : List Sent) (first last : ℕ) where
  logging-step : (s : Standing) → s.at.next ≤ last → Logging g log first last s → Logging g log first last (stepped (export_step g) s)
  unfolding stepped counted
  logging-step s h a =
      let x = taking (export_step g) s in
      let so : List Sent = log ++ sent_from g.epoch s.list s.buffer first (s.at.next - first) in
      let more = one_more g s moves small a.size so a.orderly a.fine in
      let l : s.at.next < length s.list = omega (arith, h, a.long) in
      let logs : sent_from g.epoch (stepped (export_step g) s).list (stepped (export_step g) s).buffer first (s.at.next + 1 - first) ≡ sent_from g.epoch
      s.list s.buffer first (s.at.next - first) ++ adds g s
      = sent-step g.epoch s.list s.buffer s.at.next x.word x.buffer first a.from l (rw a.same l) in
      record {
        orderly = rw (logs, ← append_assoc) more.0;
        fine = rw (logs, ← append_assoc) more.1;
        from = omega (arith, a.from);
        long = rw length-set a.long;
        same = length-set s.buffer _ _ ∙ a.same ∙ sym (length-set s.list _ _);
        size = rw (step-length (export_step g) s) a.size;
      }

  logging-run : (budget : ℕ) (s : Standing) → Logging g log first last s → Logging g log first last (list_run (export_step g) last budget s)
  logging-run = run-keeps (Logging g log first last) (export_step g) last logging-step

-- ---- how far an export came

-- a call that is not refused begins at the FIRST that it was given
pub begins : (s : Session) (len entries room stream : ℕ) (resume : Bool) (x : Info) → export_code s len entries room stream resume x ≡ 0 →
    (begun_by (work_of s stream)).next ≡ x.first
unfolding export_code
begins s len entries room stream resume x e =
    let p = (gate-open s len moving (export_tests s entries room stream resume x) refl e).passed in
    go resume (work_of s stream) p.1.1.1.1.1.1.0 p.1.1.1.1.1.1.1.0 p.1.1.1.1.1.1.1.1.0
  where
    go : (r : Bool) (z : Option Interruption) → no_resumption r z x ≡ false → no_new_call r z ≡ false → not_from_0 r x ≡ false → (begun_by z).next ≡ x.first
    go true None a b c = absurd (true≢false a)
    go false None a b c = sym (eqb-true x.first 0 (not-false (eqb x.first 0) c))
    go true (Some i) a b c =
        sym (eqb-true x.first i.next (and_left (eqb x.first i.next) (eqb x.last i.last) (not-false (eqb x.first i.next && eqb x.last i.last) a)))
    go false (Some i) a b c = absurd (true≢false b)

-- before the end the info word comes back with the next index as FIRST
pub info-back : (info next : ℕ) → next ≤ (info_of info).last → next < 2 ^ 9 → info_of (info_back (info_of info) next) ≡ with_first (info_of info) next
info-back info next before low =
    let f = info-fits info in
    rw (back-next (info_of info) next before)
    (info-word (with_first (info_of info) next) (record { format = f.format; first = low; hpa = f.hpa; zero52 = f.zero52; last = f.last }))

-- the entry that a run came to, as its answer tells it
came : (s : Session) (stream info : ℕ) (at : Progress) → at.next ≤ (info_of info).last + 1 → (info_of info).last ≤ last_entry →
    came_to info (export_numbers (finished_by s stream (info_of info) at)) ≡ at.next
unfolding finished_by
came s stream info at h short =
    either (λ (a : ExportAnswer). came_to info (export_numbers a) ≡ at.next) (is_over (info_of info) at.next)
    (λ q. omega (arith, h, ltb-true (info_of info).last at.next q))
    (λ q.
    let before : at.next ≤ (info_of info).last = ltb-false (info_of info).last at.next q in
    ap (λ (x : Info). x.first) (info-back info at.next before (omega (arith, short))))

pub ran-came : (s : Session) (t l b : List ℕ) (stream : ℕ) (resume : Bool) (info budget : ℕ) →
    export_code s (length t) (length l) (length b) stream resume (info_of info) ≡ 0 →
    came_to info (export_numbers (finished_by s stream (info_of info) (exported s t l b stream info budget).at)) ≡ (exported s t l b stream info budget).at.next
ran-came s t l b stream resume info budget e =
    let ready = export-ready s (length t) (length l) (length b) stream resume (info_of info) e in
    let bounds = run-bounds (export_step (ground_of s)) (info_of info).last budget (standing
    (begun_by (work_of s stream)) t l b) (record { next = omega (arith, ready.ordered); counts = ready.counts }) in
    came s stream info (exported s t l b stream info budget).at bounds.next ready.short

-- a refusal took none
pub none_came : (info code : ℕ) (s : Session) → eqb code 0 ≡ false →
    came_to info (export_numbers (record { code = code; info = 0; errors = 0; buffers = 0; session = s })) - (info_of info).first ≡ 0
unfolding info_of
none_came info code s e =
    rw e (either (λ (n : ℕ). n - (info_of info).first ≡ 0) (eqb code 1) (λ q. omega arith) (λ q. omega arith))

-- ---- the whole call

run-streams : (P : Session → Type 0) (s : Session) (stream : ℕ) (run : Option Interruption) → ((l : List Stream) → P (with_streams s l)) → P (with_work s stream run)
unfolding with_work
run-streams P s stream run p = either P (ltb stream stream_places) (λ e. p _) (λ e. p s.streams)

pub finished-streams : (P : Session → Type 0) (s : Session) (stream : ℕ) (x : Info) (at : Progress) → ((l : List Stream) → P (with_streams s l)) →
    P (finished_by s stream x at).session
unfolding finished_by
finished-streams P s stream x at p =
    either (λ (a : ExportAnswer). P a.session) (is_over x at.next) (λ e. run-streams P s stream _ p) (λ e. run-streams P s stream _ p)

module _ (w : World) (l b : List ℕ) (stream : ℕ) (resume : Bool) (info budget : ℕ) (o : Orderly w.log) (f : Stands w.session w.table w.log) where
  abbrev s : Session
  s = w.session

  abbrev t : List ℕ
  t = w.table

  -- what an export leaves, with the log that it makes
  abbrev Logged : ExportOutcome → Type 0
  Logged x = Orderly (w.log ++ sent_in w info (export_effect x)) × Stands x.answer.session x.table (w.log ++ sent_in w info (export_effect x))

  abbrev ran : Standing
  ran = exported s t l b stream info budget

  ran-logging : export_code s (length t) (length l) (length b) stream resume (info_of info) ≡ 0 →
      Logging (ground_of s) w.log (info_of info).first (info_of info).last ran
  unfolding ground_of export_code
  ran-logging e =
      let p = gate-open s (length t) moving (export_tests s (length l) (length b) stream resume (info_of info)) refl e in
      let y = formed-means s (length t) p.formed in
      let moves : s.phase ≡ Idle → ⊥ = not-idle moving s.phase refl p.comes in
      let ready = export-ready s (length t) (length l) (length b) stream resume (info_of info) e in
      let at : (begun_by (work_of s stream)).next ≡ (info_of info).first = begins s (length t) (length l) (length b) stream resume (info_of info) e in
      let none : (info_of info).first - (info_of info).first ≡ 0 = omega arith in
      logging-run (ground_of s) p.comes (epoch-fits s (length t) p.formed p.comes) w.log (info_of info).first (info_of info).last budget
      (standing (begun_by (work_of s stream)) t l b)
      (record {
        orderly = rw (at, none, append-nil) o;
        fine = rw (at, none, append-nil) (rw (since-begun s.phase w.log moves) at f);
        from = omega (arith, at);
        long = ready.within;
        same = ready.same;
        size = sym y.ours;
      })

  ran-logged : export_code s (length t) (length l) (length b) stream resume (info_of info) ≡ 0 → Logged (ran_export s stream (info_of info) ran)
  unfolding ground_of export_code
  ran-logged e =
      let p = gate-open s (length t) moving (export_tests s (length l) (length b) stream resume (info_of info)) refl e in
      let moves : s.phase ≡ Idle → ⊥ = not-idle moving s.phase refl p.comes in
      let a = ran-logging e in
      let more : List Sent = w.log ++ sent_from s.epoch ran.list ran.buffer (info_of info).first (ran.at.next - (info_of info).first) in
      rw (ran-came s t l b stream resume info budget e) (
        a.orderly,
        finished-streams (λ (s' : Session). Stands s' ran.table more) s stream (info_of info) ran.at
            (λ streams. rw (since-begun s.phase more moves) a.fine),
      )

  pub export-logged : Logged (export_out s t l b stream resume info budget)
  unfolding export_out
  export-logged =
      either Logged (eqb (export_code s (length t) (length l) (length b) stream resume (info_of info)) 0)
      (λ e. ran-logged (eqb-true _ _ e))
      (λ e. rw (none_came info (export_code s (length t) (length l) (length b) stream resume (info_of info)) s e, append-nil) (o, f))
