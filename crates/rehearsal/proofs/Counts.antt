-- The numbers that a call answers are words: its code is a named one, pages and entries are counted up to the table's and the list's length, and an info word
-- is written as one.
use mathlib.Core.Path.{◌≡◌, refl, ap}
use mathlib.Core.Bool.{Bool, true, false, ◌||◌}
use mathlib.Core.List.{List}
use Prim.Native.Nat.{ℕ, zero, suc, ◌+◌, ◌-◌, ◌≤◌, ◌<◌}
use native.Mathlib.Omega.{arith}
use lib.Dec.{eqb, leb, lit<}
use lib.ListN.{length}
use borrow.Author.Tests.{eqb-true, leb-true}
use Rattle.words.specs.Codes as codes
use Rattle.words.specs.Info.{info_of}
use Rattle.words.proofs.InfoLaws.{info-lt}
use Rattle.refusals.proofs.Laws.{either, and_right}
use Rattle.page.specs.Page.{Page, gives53, gives54}
use Rattle.table.specs.Table.{most_pages, page_count, page_at, lowest}
use Rattle.session.specs.Session.{work_of}
use Rattle.session.specs.Formed.{within, formed}
use Rattle.session.specs.declared.Session.{Session}
use Rattle.session.proofs.FormedLaws.{formed-means}
use Rattle.migration.specs.Token.{TokenNumbers, in_the_way, token_code, token_out}
use Rattle.migration.proofs.Laws.{token-numbers}
use Rattle.scan.specs.Scan.{Scanned, written_of, answer_of, ScanOutcome, dscan_of, dcheck_of}
use Rattle.scan.specs.declared.Written.{Written}
use Rattle.scan.proofs.Laws.{dscan-fits, dcheck-fits}
use Rattle.scan.proofs.Outcomes.{dscan-either, dcheck-either}
use Rattle.lists.specs.Run.{standing}
use Rattle.lists.specs.List.{is_over, info_back}
use Rattle.lists.proofs.Laws.{Bounds, run-bounds}
use Rattle.entry.specs.Entry.{ground_of}
use Rattle.export.specs.Export.{ExportAnswer, mac_pages, export_code, export_step, begun_by, finished_by, ExportOutcome, export_out}
use Rattle.export.proofs.Laws.{macs-few, export-ready}
use Rattle.export.proofs.Moves.{exported}
use Rattle.restore.specs.Restore.{ended_at, RestoreOutcome}
use Rattle.restore.proofs.Moves.{restore-either}
use Rattle.calls.specs.Calls.{scan_numbers, export_numbers, list_numbers, effect_of}
use Rattle.calls.specs.Promises.{named}
use Rattle.calls.specs.declared.Call.{Call}
use Rattle.calls.specs.declared.Call.TheVariants.{New, OnPage, OnAll, OnSession, StartToken, Dscan, Dcheck, Export, Restore}
use Rattle.calls.specs.declared.Returned.{Returned}
use Rattle.wire.specs.Bytes.{Words}
use Rattle.wire.specs.Promises.{Word}
use Rattle.rehearsal.proofs.Scans.{range_small}

pub named-most : (n : ℕ) → named n ≡ true → n ≤ 56
named-most n = go (within 0 3 n) refl
  where
    go : (a : Bool) → within 0 3 n ≡ a → (a || within 40 56 n) ≡ true → n ≤ 56
    go true q e = let low : n ≤ 3 = leb-true n 3 (and_right (leb 0 n) (leb n 3) q) in omega arith
    go false q e = leb-true n 56 (and_right (leb 40 n) (leb n 56) e)

-- those beside the code
pub record Counted (r : Returned) : Type 0 where
  pub page : Word r.page
  pub next : Word r.next
  pub first : Word r.first
  pub last : Word r.last
  pub info : Word r.info
  pub errors : Word r.errors
  pub buffers : Word r.buffers

pub none : (code : ℕ) (s : Session) → Counted (record { code = code; page = 0; next = 0; first = 0; last = 0; info = 0; errors = 0; buffers = 0; session = s })
none code s = record { page = lit< tt; next = lit< tt; first = lit< tt; last = lit< tt; info = lit< tt; errors = lit< tt; buffers = lit< tt }

lowest-most : (f : Page → Bool) (t : List ℕ) (n i : ℕ) → lowest f n i t ≤ i + n
lowest-most f t zero i = omega arith
lowest-most f t (suc n) i =
    let r = lowest-most f t n (suc i) in
    either (λ (k : ℕ). k ≤ i + suc n) (f (page_at t i)) (λ e. omega arith) (λ e. omega arith)

way-most : (code : ℕ) (t : List ℕ) → in_the_way code t ≤ page_count t
unfolding in_the_way
way-most code t =
    let low = lowest-most gives53 t (page_count t) 0 in
    let high = lowest-most gives54 t (page_count t) 0 in
    either (λ (k : ℕ). k ≤ page_count t) (eqb code codes.exported_dirty_pages_remain) (λ e. omega arith)
    (λ e. either (λ (k : ℕ). k ≤ page_count t) (eqb code codes.unexported_memory_remains) (λ q. omega arith) (λ q. omega arith))

scan-counted : (g : Scanned) (s : Session) → g.next ≤ most_pages → g.put ≤ most_pages → Counted (scan_numbers (answer_of g s))
unfolding answer_of written_of
scan-counted g s n p =
    either (λ (w : Written). Counted (scan_numbers (record { code = g.code; next = g.next; first = w.first; last = w.last; session = s }))) (eqb g.put 0)
    (λ e. record { page = lit< tt; next = omega arith; first = lit< tt; last = lit< tt; info = lit< tt; errors = lit< tt; buffers = lit< tt })
    (λ e. record { page = lit< tt; next = omega arith; first = lit< tt; last = omega arith; info = lit< tt; errors = lit< tt; buffers = lit< tt })

export-counted : (s : Session) (t l b : List ℕ) (stream : ℕ) (resume : Bool) (info budget : ℕ) →
    export_code s (length t) (length l) (length b) stream resume (info_of info) ≡ 0 →
    Counted (export_numbers (finished_by s stream (info_of info) (exported s t l b stream info budget).at))
unfolding finished_by info_back
export-counted s t l b stream resume info budget e =
    let x = info_of info in
    let r = export-ready s (length t) (length l) (length b) stream resume x e in
    let at = (exported s t l b stream info budget).at in
    let m : Bounds x.last at
    = run-bounds (export_step (ground_of s)) x.last budget (standing (begun_by (work_of s stream)) t l b)
    (record { next = omega (arith, r.ordered); counts = r.counts }) in
    let few = macs-few (mac_pages x.last) x.last refl in
    either (λ (a : ExportAnswer). Counted (export_numbers a)) (is_over x at.next)
    (λ q. record {
      page = lit< tt;
      next = lit< tt;
      first = lit< tt;
      last = lit< tt;
      info = info-lt _;
      errors = omega (arith, m.next, m.counts.errors, r.short);
      buffers = omega (arith, m.next, m.counts.filled, r.short, few);
    })
    (λ q. record { page = lit< tt; next = lit< tt; first = lit< tt; last = lit< tt; info = info-lt _; errors = lit< tt; buffers = lit< tt })

module _ (s : Session) (t l b : List ℕ) (f : formed s (length t) ≡ true) (ht : Words t) (hl : Words l) where
  token-counted : in_the_way (token_code s t) t < 0x10000000000000000
  token-counted = omega (arith, way-most (token_code s t) t, (formed-means s (length t) f).most)

  pub counted : (c : Call) → Counted (effect_of c s t l b).returned
  unfolding token_out export_out ended_at info_back
  counted (New created) = none _ _
  counted (OnPage page m) = none _ _
  counted (OnAll k) = none _ _
  counted (OnSession k) = none _ _
  counted StartToken =
      record {
        page = rw (ap (λ (n : TokenNumbers). n.page) (token-numbers (token_code s t) t)) token-counted;
        next = lit< tt;
        first = lit< tt;
        last = lit< tt;
        info = lit< tt;
        errors = lit< tt;
        buffers = lit< tt;
      }
  counted (Dscan first count budget) =
      dscan-either s t l first count budget (λ (o : ScanOutcome). Counted (scan_numbers o.answer))
      (λ e.
      let r = range_small count (dscan_of s first budget) t l ht hl in
      let fits = dscan-fits s (length t) (length l) first count e in
      scan-counted _ s (omega (arith, r.next, fits.0, fits.1)) (omega (arith, r.put, fits.0, fits.1)))
      (none _ _)
  counted (Dcheck budget) =
      dcheck-either s t l budget (λ (o : ScanOutcome). Counted (scan_numbers o.answer))
      (λ e.
      let r = range_small (s.fixed.pages - s.check.place) (dcheck_of s budget) t l ht hl in
      let fits = dcheck-fits s (length t) (length l) e in
      scan-counted _ _ (omega (arith, r.next, fits.1.0, fits.1.1)) (omega (arith, r.put, fits.1.0, fits.1.1)))
      (none _ _)
  counted (Export stream resume info budget) =
      either (λ (o : ExportOutcome). Counted (export_numbers o.answer))
      (eqb (export_code s (length t) (length l) (length b) stream resume (info_of info)) 0)
      (λ e. export-counted s t l b stream resume info budget (eqb-true _ _ e))
      (λ e. none _ _)
  counted (Restore info budget) =
      restore-either (λ (o : RestoreOutcome). Counted (list_numbers o.answer)) s t l info budget
      (λ e. record { page = lit< tt; next = lit< tt; first = lit< tt; last = lit< tt; info = info-lt _; errors = lit< tt; buffers = lit< tt })
      (λ e. none _ _)
