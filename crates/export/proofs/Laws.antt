-- What is known past an export's tests: the list is one, its entries that are left are ordered, and no count passes the next index.
use Rattle.std.specs.Prelude.{Option, Some, None}
use mathlib.Core.Path.{◌≡◌, refl}
use mathlib.Core.Bool.{Bool, true, false, cond, not, ◌&&◌, true≢false}
use mathlib.Core.List.{List, []}
use lib.Dec.{eqb, leb}
use Prim.Native.Nat.{ℕ, ◌+◌, ◌≤◌, ◌<◌}
use native.Mathlib.Omega.{arith}
use lib.ListN.{length, get_or}
use borrow.Author.Tests.{lt-ltb, ltb-true, eqb-true}
use Rattle.refusals.specs.Refusals.{first_of, number_of}
use Rattle.refusals.specs.declared.Refusal.{Refusal}
use Rattle.refusals.proofs.Laws.{either, and_right, not-false, number-pos}
use Rattle.session.specs.Session.{among, moving, resting, stream_places, work_of}
use Rattle.session.specs.Formed.{usable, last_entry, gated, behind}
use Rattle.session.specs.declared.Session.{Session}
use Rattle.session.specs.declared.streams.Interruption.{Interruption}
use Rattle.session.proofs.Laws.{gate-first, gate-refused, gate-passed, gate-open}
use Rattle.session.proofs.FormedLaws.{WorkFormed, formed-means}
use Rattle.words.specs.Info.{info_of}
use Rattle.words.specs.declared.infos.Info.{Info}
use Rattle.entry.specs.Entry.{ground_of}
use Rattle.lists.specs.Run.{standing, list_run}
use Rattle.lists.specs.List.{is_over}
use Rattle.lists.specs.declared.runs.Progress.{Progress}
use Rattle.lists.proofs.Laws.{Counts, list-passed}
use Rattle.export.specs.Export.{no_resumption, no_new_call, export_tests, export_code, export_step, begun_by, mac_pages, refused_export, ran_export, export_out}
use Rattle.export.specs.Export.{done_end, interrupted_end, ended_by, ending, done_by, interrupted_by, finished_by}

-- ---- numbers that fit

pub macs-few : (n last : ℕ) → n ≡ mac_pages last → n ≤ 2
unfolding mac_pages
macs-few n last e = rw e (either (λ (k : ℕ). k ≤ 2) (leb 256 last) (λ q. omega arith) (λ q. omega arith))

-- ---- what is known past an export's tests

-- a stream that is interrupted is resumed, with its own LAST
resumed : (resume r : Bool) → (resume && not r) ≡ false → (not resume && true) ≡ false → r ≡ true
resumed true r a b = not-false r a
resumed false r a b = absurd (true≢false b)

-- the code, told that of the gate
pub export-told : (s : Session) (len entries room stream : ℕ) (resume : Bool) (x : Info) (gate : ℕ) → gate ≡ gated s len moving [] →
    behind gate (export_tests s entries room stream resume x) ≡ export_code s len entries room stream resume x
unfolding export_code
export-told s len entries room stream resume x gate e = rw (e, ← gate-first s len moving (export_tests s entries room stream resume x))

-- what the gate refuses, the call refuses; what it lets through has the export's own tests
pub export-stopped : (s : Session) (len entries room stream : ℕ) (resume : Bool) (x : Info) (r : Refusal) → number_of r ≡ gated s len moving [] →
    export_code s len entries room stream resume x ≡ number_of r
unfolding export_code
export-stopped s len entries room stream resume x r e = gate-refused s len moving (export_tests s entries room stream resume x) r e

pub export-passed : (s : Session) (len entries room stream : ℕ) (resume : Bool) (x : Info) → 0 ≡ gated s len moving [] →
    export_code s len entries room stream resume x ≡ first_of (export_tests s entries room stream resume x)
unfolding export_code
export-passed s len entries room stream resume x e = gate-passed s len moving (export_tests s entries room stream resume x) e

-- the two ways of a call, by its code
module _ (s : Session) (t l b : List ℕ) (stream : ℕ) (resume : Bool) (info budget : ℕ) where
  pub export-refused : (r : Refusal) → export_code s (length t) (length l) (length b) stream resume (info_of info) ≡ number_of r →
      export_out s t l b stream resume info budget ≡ refused_export (number_of r) s t l b
  unfolding export_out
  export-refused r e = rw (e, number-pos r)

  pub export-ran : export_code s (length t) (length l) (length b) stream resume (info_of info) ≡ 0 →
      export_out s t l b stream resume info budget ≡ ran_export s stream (info_of info)
      (list_run (export_step (ground_of s)) (info_of info).last budget (standing (begun_by (work_of s stream)) t l b))
  unfolding export_out
  export-ran e = rw e

-- the answer is how the call ends, with the session in which its stream does that
pub finished-ended : (s : Session) (stream : ℕ) (x : Info) (at : Progress) → ending s stream (ended_by x at) ≡ finished_by s stream x at
unfolding ended_by finished_by
finished-ended s stream x at = go (is_over x at.next)
  where
    go : (b : Bool) → ending s stream (cond b (done_end x at) (interrupted_end x at)) ≡ cond b (done_by s stream x at) (interrupted_by s stream x at)
    go true = refl
    go false = refl

pub record Ready (entries room : ℕ) (run : Option Interruption) (x : Info) : Type 0 where
  pub within : x.last < entries
  pub same : room ≡ entries
  pub short : x.last ≤ last_entry
  pub ordered : (begun_by run).next ≤ x.last
  pub counts : Counts (begun_by run)

pub export-ready : (s : Session) (len entries room stream : ℕ) (resume : Bool) (x : Info) → export_code s len entries room stream resume x ≡ 0 →
    Ready entries room (work_of s stream) x
unfolding export_code work_of
export-ready s len entries room stream resume x e =
    let o = gate-open s len moving (export_tests s entries room stream resume x) refl e in
    let f = formed-means s len o.formed in
    let p = o.passed in
    let able : stream + 1 < s.fixed.created = ltb-true _ _ (not-false (usable s stream) p.0) in
    let low : stream < stream_places = omega (arith, able, f.created.high) in
    let list = list-passed entries x p.1.1.0 p.1.1.1.1.1.0 in
    let here : work_of s stream ≡ (get_or s.streams stream resting).work = rw (lt-ltb _ _ low) in
    let begun = go (work_of s stream) (rw here (f.streams stream low)) p.1.1.1.1.1.1.0 p.1.1.1.1.1.1.1.0 in
    record { within = list.within; same = eqb-true _ _ (not-false (eqb room entries) p.1.0); short = list.short; ordered = begun.0; counts = begun.1 }
  where
    go : (r : Option Interruption) → WorkFormed (among moving s.phase) s.fixed.created stream r → no_resumption resume r x ≡ false → no_new_call resume r ≡ false →
        ((begun_by r).next ≤ x.last) × Counts (begun_by r)
    go None w a b = (omega arith, record { errors = omega arith; filled = omega arith })
    go (Some i) w a b =
        let y : x.last ≡ i.last = eqb-true _ _ (and_right (eqb x.first i.next) (eqb x.last i.last)
        (resumed resume (eqb x.first i.next && eqb x.last i.last) a b)) in
        (omega (arith, w.ordered, y), record { errors = w.few-errors; filled = w.few-filled })
