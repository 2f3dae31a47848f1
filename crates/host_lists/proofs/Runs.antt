-- A call that takes a list and is not refused leaves what the engine's run leaves, in bytes: no code of a run is a refusal's, so each slice has the bytes of
-- the words that were made, and the session those of its change.
use mathlib.Core.Path.{◌≡◌, refl}
use mathlib.Core.Bool.{Bool, true, false, not, and-true}
use mathlib.Core.List.{List, [], ◌∷◌}
use Prim.Native.Nat.{ℕ, ◌-◌}
use lib.Dec.{eqb}
use lib.ListN.{length}
use Rattle.words.specs.Info.{info_of}
use Rattle.words.specs.declared.infos.Info.{Info}
use Rattle.refusals.proofs.Laws.{not-true}
use Rattle.session.specs.Session.{moving, work_of}
use Rattle.session.specs.Formed.{gated}
use Rattle.session.specs.declared.Phase.TheVariants.{Idle, Live, Blackout}
use Rattle.session.specs.declared.Session.{Session}
use Rattle.session.specs.declared.changes.Change.TheVariants.{ToCheck, ToWork}
use Rattle.scan.specs.Scan.{ScanOut, range_run, answer_of, check_after, checked_by, dscan_tests, dscan_code, dscan_of, dscan_out, dcheck_tests, dcheck_code}
use Rattle.scan.specs.Scan.{dcheck_of, dcheck_out}
use Rattle.scan.proofs.Outcomes.{OfScans, range-code}
use Rattle.entry.specs.Entry.{ground_of}
use Rattle.entry.specs.declared.Ground.{Ground}
use Rattle.lists.specs.Run.{Standing, standing, list_run}
use Rattle.lists.specs.declared.runs.Progress.{Progress}
use Rattle.export.specs.Export.{export_tests, export_code, export_step, begun_by, ended_by, export_out}
use Rattle.export.proofs.Laws.{finished-ended}
use Rattle.export.proofs.Moves.{finished-code}
use Rattle.restore.specs.Restore.{Ended, restore_asks, restore_code, ended_at, restore_run, restore_out}
use Rattle.restore.proofs.Moves.{ended-code}
use Rattle.calls.specs.Calls.{effect_of}
use Rattle.calls.specs.Promises.{refusal}
use Rattle.calls.specs.declared.Call.TheVariants.{Dscan, Dcheck, Export, Restore}
use Rattle.wire.specs.Bytes.{words_of, bytes_of, Bytes}
use Rattle.wire.specs.Sessions.{session_of, written_by}
use Rattle.wire.proofs.ChangeLaws.{change-written}
use Rattle.host.specs.Host.{Numbers, Left, lent_list, lent_all, is_list, in_words, played, host_of}
use Rattle.host.proofs.LayoutLaws.{Sound, session-kept, host-played}
use Rattle.host_lists.specs.Inside.{scanned_numbers, ended_numbers}

-- no scan that ran refuses
unrefused : ℕ → Bool
unrefused n = not (refusal n)

scans-unrefused : OfScans unrefused
unfolding unrefused
scans-unrefused = record { done = refl; interrupted = refl; full = refl; complete = refl; blocked = refl }

pub no_words : words_of [] ≡ []
unfolding words_of
no_words = refl

-- a call without a buffer asks for words in its list alone
pub list-words : (s t l : List ℕ) → in_words (lent_list s t l) ≡ is_list (length l)
list-words s t l = rw (and-true (is_list (length l)), and-true (is_list (length l)))

-- ---- a refusal's code is that of the first test

module _ (s : Session) (t l b : List ℕ) where
  pub dscan-refuses : (first count budget : ℕ) →
      let code = gated s (length t) (Live ∷ []) (dscan_tests s (length l) first count) in
      eqb code 0 ≡ false → (effect_of (Dscan first count budget) s t l b).returned.code ≡ code
  unfolding dscan_out dscan_code
  dscan-refuses first count budget n = rw n

  pub dcheck-refuses : (budget : ℕ) →
      let code = gated s (length t) (Blackout ∷ []) (dcheck_tests s (length l)) in
      eqb code 0 ≡ false → (effect_of (Dcheck budget) s t l b).returned.code ≡ code
  unfolding dcheck_out dcheck_code
  dcheck-refuses budget n = rw n

  pub export-refuses : (stream : ℕ) (resume : Bool) (info budget : ℕ) →
      let code = gated s (length t) moving (export_tests s (length l) (length b) stream resume (info_of info)) in
      eqb code 0 ≡ false → (effect_of (Export stream resume info budget) s t l b).returned.code ≡ code
  unfolding export_out export_code
  export-refuses stream resume info budget n = rw n

  pub restore-refuses : (info budget : ℕ) (x : Info) → x ≡ info_of info →
      let code = gated s (length t) (Idle ∷ []) (restore_asks (length l) x) in
      eqb code 0 ≡ false → (effect_of (Restore info budget) s t l b).returned.code ≡ code
  unfolding restore_out restore_code
  restore-refuses info budget x is n = rw (← is, n)

-- ---- what is left by a call that ran

-- part by part
abbrev pub left : Numbers → List ℕ → List ℕ → List ℕ → List ℕ → Left
left n s t l b = record { answer = n; session = s; table = t; list = l; buffer = b }

-- how RESTORE is told in numbers
abbrev pub restored_numbers : Ended → Numbers
restored_numbers e = record { code = e.code; page = 0; next = 0; first = 0; last = 0; info = e.info; errors = 0; buffers = 0 }

module _ (s t l : List ℕ) (y : Bytes s) (h : Sound s (length t)) where
  abbrev read : Session
  read = session_of (words_of s)

  module _ (first count budget : ℕ) where
    abbrev pub dscan_run : ScanOut
    dscan_run = range_run count (dscan_of read first budget) (words_of t) (words_of l)

    dscan-unrefused : refusal dscan_run.scanned.code ≡ false
    unfolding answer_of unrefused
    dscan-unrefused = not-true (refusal dscan_run.scanned.code) (range-code unrefused scans-unrefused count (dscan_of read first budget) (words_of t) (words_of l) read)

    pub dscan-ran : in_words (lent_list s t l) ≡ true → gated read (length (words_of t)) (Live ∷ []) (dscan_tests read (length (words_of l)) first count) ≡ 0 →
        host_of (Dscan first count budget) (lent_list s t l) ≡ left (scanned_numbers dscan_run.scanned) s (bytes_of dscan_run.part) (bytes_of dscan_run.list) []
    unfolding played dscan_out dscan_code answer_of
    dscan-ran w e =
        rw (host-played (Dscan first count budget) (lent_list s t l) refl h w, e, dscan-unrefused, no_words, session-kept s (length t) y h)

  module _ (budget : ℕ) where
    abbrev pub dcheck_run : ScanOut
    dcheck_run = range_run (read.fixed.pages - read.check.place) (dcheck_of read budget) (words_of t) (words_of l)

    dcheck-unrefused : refusal dcheck_run.scanned.code ≡ false
    unfolding answer_of unrefused
    dcheck-unrefused =
        not-true (refusal dcheck_run.scanned.code)
        (range-code unrefused scans-unrefused (read.fixed.pages - read.check.place) (dcheck_of read budget) (words_of t) (words_of l) read)

    pub dcheck-ran : in_words (lent_list s t l) ≡ true → gated read (length (words_of t)) (Blackout ∷ []) (dcheck_tests read (length (words_of l))) ≡ 0 →
        host_of (Dcheck budget) (lent_list s t l) ≡ left (scanned_numbers dcheck_run.scanned) (written_by (ToCheck (check_after dcheck_run.scanned)) s)
        (bytes_of dcheck_run.part) (bytes_of dcheck_run.list) []
    unfolding played dcheck_out dcheck_code answer_of checked_by
    dcheck-ran w e =
        rw (
          host-played (Dcheck budget) (lent_list s t l) refl h w,
          e,
          dcheck-unrefused,
          no_words,
          change-written (ToCheck (check_after dcheck_run.scanned)) s y h.long h.layout,
        )

  module _ (info budget : ℕ) (x : Info) (is : x ≡ info_of info) where
    abbrev restored : Standing
    restored = restore_run read (words_of t) (words_of l) x budget

    restore-unrefused : refusal (ended_at x restored.at.next).code ≡ false
    unfolding unrefused
    restore-unrefused = not-true (refusal (ended_at x restored.at.next).code) (ended-code unrefused x restored.at.next refl refl)

    pub restore-ran : in_words (lent_list s t l) ≡ true → gated read (length (words_of t)) (Idle ∷ []) (restore_asks (length (words_of l)) x) ≡ 0 →
        host_of (Restore info budget) (lent_list s t l) ≡ left (restored_numbers (ended_at x restored.at.next)) s
        (bytes_of restored.table) (bytes_of restored.list) []
    unfolding played restore_out restore_code
    restore-ran w e =
        rw (host-played (Restore info budget) (lent_list s t l) refl h w, ← is, e, restore-unrefused, no_words, session-kept s (length t) y h)

-- an export is told what it goes by
module _ (s t l b : List ℕ) (y : Bytes s) (h : Sound s (length t)) (stream resume info budget : ℕ) (x : Info) (is : x ≡ info_of info) (g : Ground)
    (stands : g ≡ ground_of (session_of (words_of s))) (from : Progress) (begins : from ≡ begun_by (work_of (session_of (words_of s)) stream)) where
  abbrev pub export_run : Standing
  export_run = list_run (export_step g) x.last budget (standing from (words_of t) (words_of l) (words_of b))

  export-unrefused : refusal (ended_by x export_run.at).code ≡ false
  unfolding unrefused
  export-unrefused =
      not-true (refusal (ended_by x export_run.at).code)
      (rw (← finished-ended (session_of (words_of s)) stream x export_run.at) at
      (finished-code unrefused (session_of (words_of s)) stream x export_run.at refl refl))

  pub export-ran : in_words (lent_all s t l b resume) ≡ true →
      gated (session_of (words_of s)) (length (words_of t)) moving
      (export_tests (session_of (words_of s)) (length (words_of l)) (length (words_of b)) stream (eqb resume 1) (info_of info)) ≡ 0 →
      let e = ended_by x export_run.at in
      host_of (Export stream (eqb resume 1) info budget) (lent_all s t l b resume) ≡ left (ended_numbers e) (written_by (ToWork stream e.work) s)
      (bytes_of export_run.table) (bytes_of export_run.list) (bytes_of export_run.buffer)
  unfolding played export_out export_code
  export-ran w z =
      rw (
        host-played (Export stream (eqb resume 1) info budget) (lent_all s t l b resume) refl h w,
        z,
        ← is,
        ← stands,
        ← begins,
        ← finished-ended (session_of (words_of s)) stream x export_run.at,
        export-unrefused,
        change-written (ToWork stream (ended_by x export_run.at).work) s y h.long h.layout,
      )
