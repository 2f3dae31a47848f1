-- A refusal is that of the tests (`coded`); past them there is the run in its place (`export-ran`).
use Rattle.std.specs.Prelude.{Option}
use Rattle.std.proofs.Common.{rules, get_or, Fits, w8}
use mathlib.Core.Path.{◌≡◌, refl, sym, ap, ◌∙◌}
use mathlib.Core.Bool.{true, ◌&&◌}
use mathlib.Core.List.{List}
use native.Mathlib.Omega.{arith}
use lib.Dec.{eqb, leb}
use lib.ListN.{length}
use Prim.Native.Nat.{ℕ, ◌+◌, ◌/◌, ◌≤◌}
use Rattle.words.specs.Info.{info_of}
use Rattle.words.specs.declared.infos.Info.{Info}
use Rattle.refusals.specs.Refusals.{Test, number_of}
use Rattle.refusals.specs.declared.Refusal.{Refusal}
use Rattle.refusals.proofs.Laws.{and_left, and_right}
use Rattle.session.specs.Session.{moving, work_of}
use Rattle.session.specs.Formed.{gated, behind, last_entry}
use Rattle.session.specs.declared.Session.{Session}
use Rattle.session.specs.declared.streams.Interruption.{Interruption}
use Rattle.lists.specs.Run.{standing}
use Rattle.lists.specs.declared.runs.Progress.{Progress}
use Rattle.lists.proofs.Laws.{run-bounds}
use Rattle.export.specs.Export.{export_asks, export_tests, export_code, export_step, begun_by}
use Rattle.export.proofs.Laws.{Ready, export-ready}
use Rattle.calls.specs.declared.Call.TheVariants.{Export}
use Rattle.wire.specs.Bytes.{words_of, Bytes}
use Rattle.wire.specs.Sessions.{session_of}
use Rattle.wire.proofs.BytesLaws.{words-length}
use Rattle.host.specs.Host.{Lent, lent_all, refused, is_list, in_words, host_of}
use Rattle.host.proofs.LayoutLaws.{Sound, sound-means, table-whole}
use Rattle.host.proofs.ListLaws.{list-whole, export-comes}
use Rattle.host_lists.specs.Inside.{ended_numbers, export_gate}
use Rattle.host_lists.proofs.Gates.{gate_for, behind-refusal, listed-passed, listed-refused}
use Rattle.host_lists.proofs.Runs.{export-refuses, export-ran}
use Rattle.host_lists.proofs.exports.export_sound.Goals as goal

-- of what is lent, past 40
module _ (s t l b : List ℕ) (stream resume info : ℕ) where
  abbrev lent_in : Lent
  lent_in = lent_all s t l b resume

  abbrev read : Session
  read = session_of (words_of s)

  abbrev asks : List Test
  asks = export_tests read (length (words_of l)) (length (words_of b)) stream (eqb resume 1) (info_of info)

  -- the call's own tests, behind those of the C side
  abbrev told : ℕ
  told = behind (gate_for moving lent_in) asks

  -- the code is theirs
  coded : (gate created : ℕ) (work : Option Interruption) (x : Info) (code : ℕ) →
      gate ≡ export_gate s (is_list (length l) && is_list (length b) && leb resume 1) → created ≡ read.fixed.created → work ≡ work_of read stream →
      x ≡ info_of info → code ≡ behind gate (export_asks created work (length l / 8) (length b / 8) stream (eqb resume 1) x) → told ≡ code
  coded gate created work x code g k w i e = sym (rw (words-length l, words-length b, ← i, ← w, ← k, ← g) e)

  module _ (h : Sound s (length t)) (budget : ℕ) where
    -- a refusal
    refuses : (r : Refusal) → told ≡ number_of r → host_of (Export stream (eqb resume 1) info budget) lent_in ≡ refused (number_of r) lent_in
    refuses =
        listed-refused (Export stream (eqb resume 1) info budget) moving (export-comes stream (eqb resume 1) info budget) lent_in h asks refl
        (export-refuses read (words_of t) (words_of l) (words_of b) stream (eqb resume 1) info budget)

    -- or past them
    passes : told ≡ 0 → (in_words lent_in ≡ true) × (gated read (length (words_of t)) moving asks ≡ 0)
    passes = listed-passed (Export stream (eqb resume 1) info budget) moving (export-comes stream (eqb resume 1) info budget) lent_in h _

    -- where the call goes on
    go_on : told ≡ 0 → Ready (length (words_of l)) (length (words_of b)) (work_of read stream) (info_of info)
    unfolding export_code
    go_on z =
        export-ready read (length (words_of t)) (length (words_of l)) (length (words_of b)) stream (eqb resume 1) (info_of info) (passes z).1

-- the numbers that it goes on with
record Goes (at : Progress) (last : ℕ) : Type 0 where
  pub next : at.next ≤ last + 1
  pub errors : at.errors ≤ at.next
  pub filled : at.filled ≤ at.next
  pub short : last ≤ last_entry

goes : (entries room : ℕ) (run : Option Interruption) (x y : Info) (at : Progress) → Ready entries room run x → at ≡ begun_by run → y ≡ x → Goes at y.last
goes entries room run x y at ready from same =
    let next = ap (λ (p : Progress). p.next) from in
    let last = ap (λ (i : Info). i.last) same in
    record {
      next = omega (arith, next, last, ready.ordered);
      errors = omega (arith, next, ap (λ (p : Progress). p.errors) from, ready.counts.errors);
      filled = omega (arith, next, ap (λ (p : Progress). p.filled) from, ready.counts.filled);
      short = omega (arith, last, ready.short);
    }

pub returns-in_err-gate_at : goal.returns-in_err-gate_at
returns-in_err-gate_at c =
    let a = c.args in
    let r = c.in_err-gate_at.field-0.0 in
    let s = session_of (words_of a.session.now) in
    let told = coded a.session.now a.table.now a.list.now a.buffer.now a.stream a.resume a.info _ _ _ _ _ c.in_err-gate_at.ensures refl refl refl
    (behind-refusal r
    (export_asks s.fixed.created (work_of s a.stream) (length a.list.now / 8) (length a.buffer.now / 8) a.stream (eqb a.resume 1) (info_of a.info))) in
    let left = refuses a.session.now a.table.now a.list.now a.buffer.now a.stream a.resume a.info (sound-means _ _ c.requires) a.budget r told in
    record { value = rw left (search rules); session_after = rw left; table_after = rw left; list_after = rw left; buffer_after = rw left }

pub returns-in_err-allow_export : goal.returns-in_err-allow_export
returns-in_err-allow_export c =
    let a = c.args in
    let told = coded a.session.now a.table.now a.list.now a.buffer.now a.stream a.resume a.info _ _ _ _ _ c.in_ok-gate_at.ensures c.created_at.ensures
    c.work_at-work.ensures c.from-x.ensures.0 c.in_err-allow_export.ensures in
    let left = refuses a.session.now a.table.now a.list.now a.buffer.now a.stream a.resume a.info (sound-means _ _ c.requires) a.budget
    c.in_err-allow_export.field-0.0 told in
    record { value = rw left (search rules); session_after = rw left; table_after = rw left; list_after = rw left; buffer_after = rw left }

pub run_entries-at-requires : goal.run_entries-at-requires
run_entries-at-requires c =
    let a = c.args in
    let h = sound-means a.session.now (length a.table.now) c.requires in
    let told = coded a.session.now a.table.now a.list.now a.buffer.now a.stream a.resume a.info _ _ _ _ 0 c.in_ok-gate_at.ensures c.created_at.ensures
    c.work_at-work.ensures c.from-x.ensures.0 c.in_ok-allow_export.ensures in
    let p = passes a.session.now a.table.now a.list.now a.buffer.now a.stream a.resume a.info h a.budget told in
    let ready = go_on a.session.now a.table.now a.list.now a.buffer.now a.stream a.resume a.info h a.budget told in
    let g = goes _ _ _ _ c.from-x.result c.begin-from.result ready (c.begin-from.ensures ∙ ap begun_by c.work_at-work.ensures) c.from-x.ensures.0 in
    let both = and_left (is_list (length a.list.now) && is_list (length a.buffer.now)) (leb a.resume 1) p.0 in
    record {
      table_len = (
        table-whole _ h.table,
        list-whole _ (and_left (is_list (length a.list.now)) (is_list (length a.buffer.now)) both),
        list-whole _ (and_right (is_list (length a.list.now)) (is_list (length a.buffer.now)) both),
      );
      last_in_bounds = (
        omega (arith, ap (λ (i : Info). i.last) c.from-x.ensures.0, words-length a.list.now, ready.within),
        g.short,
        g.next,
        g.errors,
        g.filled,
      );
    }

pub end-ended-requires : goal.end-ended-requires
end-ended-requires c =
    let a = c.args in
    let told = coded a.session.now a.table.now a.list.now a.buffer.now a.stream a.resume a.info _ _ _ _ 0 c.in_ok-gate_at.ensures c.created_at.ensures
    c.work_at-work.ensures c.from-x.ensures.0 c.in_ok-allow_export.ensures in
    let ready = go_on a.session.now a.table.now a.list.now a.buffer.now a.stream a.resume a.info (sound-means _ _ c.requires) a.budget told in
    let g = goes _ _ _ _ c.from-x.result c.begin-from.result ready (c.begin-from.ensures ∙ ap begun_by c.work_at-work.ensures) c.from-x.ensures.0 in
    let bounds = run-bounds (export_step c.ground_at-g.result) c.from-x.result.last a.budget
    (standing c.begin-from.result (words_of a.table.now) (words_of a.list.now) (words_of a.buffer.now))
    (record { next = g.next; counts = record { errors = g.errors; filled = g.filled } }) in
    let ended = c.run_entries-at.ensures.value in
    let next = ap (λ (p : Progress). p.next) ended in
    (g.short, omega (arith, next, bounds.next), omega (arith, next, ap (λ (p : Progress). p.filled) ended, bounds.counts.filled))

pub returns : goal.returns
returns c =
    let a = c.args in
    let fits : (i : ℕ) → Fits w8 (get_or a.session.now i 0) = search rules in
    let y : Bytes a.session.now = λ i. (fits i).fits in
    let h = sound-means a.session.now (length a.table.now) c.requires in
    let told = coded a.session.now a.table.now a.list.now a.buffer.now a.stream a.resume a.info _ _ _ _ 0 c.in_ok-gate_at.ensures c.created_at.ensures
    c.work_at-work.ensures c.from-x.ensures.0 c.in_ok-allow_export.ensures in
    let p = passes a.session.now a.table.now a.list.now a.buffer.now a.stream a.resume a.info h a.budget told in
    let ran = export-ran a.session.now a.table.now a.list.now a.buffer.now y h a.stream a.resume a.info a.budget c.from-x.result c.from-x.ensures.0
    c.ground_at-g.result c.ground_at-g.ensures c.begin-from.result (c.begin-from.ensures ∙ ap begun_by c.work_at-work.ensures) p.0 p.1 in
    let ended = rw c.run_entries-at.ensures.value at c.end-ended.ensures in
    record {
      value = rw ran (ap ended_numbers ended);
      session_after = rw (ran, ← ended) c.put_change.ensures;
      table_after = rw ran c.run_entries-at.ensures.table_after;
      list_after = rw ran c.run_entries-at.ensures.list_after;
      buffer_after = rw ran c.run_entries-at.ensures.buffer_after;
    }
