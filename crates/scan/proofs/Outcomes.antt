-- What a scan leaves: a page that it lists is one that a table can hold, a strange page stays, and no scan that ran answers a refusal's code.
use mathlib.Core.Path.{◌≡◌, refl, ◌∙◌}
use mathlib.Core.Bool.{Bool, true, false}
use mathlib.Core.List.{List}
use Prim.Native.Nat.{ℕ, zero, suc, ◌+◌, ◌-◌, ◌^◌, ◌<◌}
use lib.Dec.{eqb}
use lib.ListN.{length}
use borrow.Author.Tests.{eqb-true}
use Rattle.words.specs.Codes as codes
use Rattle.refusals.proofs.Laws.{either, first-all}
use Rattle.states.specs.States.{State, is_strange, is_in, goes_by}
use Rattle.states.specs.Lists.{looks, renewed_states}
use Rattle.states.proofs.Laws.{strange-is, goes-each}
use Rattle.page.specs.Page.{Page, page_of, strange, unless_strange}
use Rattle.page.specs.declared.Clock.{Clock}
use Rattle.page.specs.declared.PageWords.{PageWords}
use Rattle.page.proofs.Laws.{Held, read_held, page_moved}
use Rattle.table.specs.Table.{words_at, page_at}
use Rattle.session.specs.declared.Session.{Session}
use Rattle.scan.specs.Look.{renewed, listed_page, look_of}
use Rattle.scan.specs.Scan.{stop_tests, stop_code, end_code, Scanned, ScanOut, scan_run, range_run, answer_of, ScanOutcome, refused_scan, ran_scan}
use Rattle.scan.specs.Scan.{dscan_code, dscan_of, dscan_out, dcheck_code, dcheck_of, checked_by, dcheck_out}
use Rattle.scan.specs.declared.Scan.{Scan}
use Rattle.scan.proofs.Laws.{dscan-fits, dcheck-fits}
use Rattle.scan.proofs.RangeLaws.{range-strange}

-- ---- a page that is listed

-- being listed makes of a page that a record holds another such page
listed-held : (clock : Clock) → clock.tlb < 2 ^ 16 → (p : Page) → Held p → Held (listed_page clock p)
unfolding renewed is_strange
listed-held clock r p h =
    let known = goes-each (λ (x to : State). is_strange to ≡ false) looks (refl, (refl, tt)) p.state h.known in
    either (λ (q : Page). Held q) (is_in (goes_by looks p.state) renewed_states)
    (λ e. record { known = known; stamp = r; migrated = h.migrated })
    (λ e. record { known = known; stamp = h.stamp; migrated = h.migrated })

-- a strange page stays as it is
listed-strange : (clock : Clock) (p : Page) → strange p ≡ true → p ≡ listed_page clock p
unfolding renewed goes_by is_in
listed-strange clock p e = rw (strange-is p.state e)

-- what its words say afterwards
pub look-page : (w : PageWords) (number : ℕ) (clock : Clock) → clock.tlb < 2 ^ 16 → page_of (look_of w number clock).words ≡ listed_page clock (page_of w)
unfolding look_of unless_strange
look-page w number clock r =
    page_moved (listed_page clock) w (λ e. listed-held clock r (page_of w) (read_held w e))
    ∙ either (λ (q : Page). q ≡ listed_page clock (page_of w)) (strange (page_of w)) (listed-strange clock (page_of w)) (λ e. refl)

-- ---- the answer of a scan that ran

-- it has the session and the code that it is given
pub answer-session : (g : Scanned) (s : Session) → (answer_of g s).session ≡ s
unfolding answer_of
answer-session g s = refl

pub answer-code : (g : Scanned) (s : Session) → (answer_of g s).code ≡ g.code
unfolding answer_of
answer-code g s = refl

-- ---- its codes

-- what holds of 0, 1, 2, 3 and 51
pub record OfScans (f : ℕ → Bool) : Type 0 where
  pub done : f codes.done ≡ true
  pub interrupted : f codes.interrupted ≡ true
  pub full : f codes.list_full ≡ true
  pub complete : f codes.check_complete ≡ true
  pub blocked : f codes.mem_scan_failed_blocked_range ≡ true

module _ (f : ℕ → Bool) (h : OfScans f) where
  run-code : (n : ℕ) (scan : Scan) (i put : ℕ) (part list : List ℕ) → f (scan_run n scan i put part list).scanned.code ≡ true
  unfolding scan_run stop_code end_code
  run-code zero scan i put part list = either (λ (n : ℕ). f n ≡ true) scan.checking (λ e. h.complete) (λ e. h.done)
  run-code (suc n) scan i put part list =
      let look = look_of (words_at part i) (scan.first + i) scan.clock in
      either (λ (o : ScanOut). f o.scanned.code ≡ true) (eqb (stop_code scan look.blocked look.listed i put (length list)) 0)
      (λ e. run-code n scan (i + 1) _ _ _)
      (λ e. first-all f (stop_tests scan look.blocked look.listed i put (length list)) h.done (rw (h.interrupted, h.blocked, h.full)))

  pub range-code : (count : ℕ) (scan : Scan) (t l : List ℕ) (s : Session) → f (answer_of (range_run count scan t l).scanned s).code ≡ true
  unfolding range_run
  range-code count scan t l s = rw (answer-code (range_run count scan t l).scanned s) (run-code count scan 0 0 _ l)

-- ---- the calls

module _ (s : Session) (t l : List ℕ) (first count budget : ℕ) where
  -- where a DSCAN leaves table and list
  abbrev pub dscanned : ScanOut
  dscanned = range_run count (dscan_of s first budget) t l

  pub dscan-either : (P : ScanOutcome → Type 0) → (dscan_code s (length t) (length l) first count ≡ 0 → P (ran_scan s dscanned)) →
      P (refused_scan (dscan_code s (length t) (length l) first count) s t l) → P (dscan_out s t l first count budget)
  unfolding dscan_out
  dscan-either P ran kept =
      let code = dscan_code s (length t) (length l) first count in
      either P (eqb code 0) (λ e. ran (eqb-true _ _ e)) (λ e. kept)

  pub dscan-strange : (i : ℕ) → strange (page_at t i) ≡ true → words_at (dscan_out s t l first count budget).table i ≡ words_at t i
  dscan-strange i e =
      dscan-either (λ (o : ScanOutcome). words_at o.table i ≡ words_at t i)
      (λ z. range-strange count (dscan_of s first budget) t l (dscan-fits s (length t) (length l) first count z).0 i e)
      refl

module _ (s : Session) (t l : List ℕ) (budget : ℕ) where
  -- where a DCHECK leaves them
  abbrev pub dchecked : ScanOut
  dchecked = range_run (s.fixed.pages - s.check.place) (dcheck_of s budget) t l

  pub dcheck-either : (P : ScanOutcome → Type 0) → (dcheck_code s (length t) (length l) ≡ 0 → P (ran_scan (checked_by s dchecked.scanned) dchecked)) →
      P (refused_scan (dcheck_code s (length t) (length l)) s t l) → P (dcheck_out s t l budget)
  unfolding dcheck_out
  dcheck-either P ran kept =
      let code = dcheck_code s (length t) (length l) in
      either P (eqb code 0) (λ e. ran (eqb-true _ _ e)) (λ e. kept)

  pub dcheck-strange : (i : ℕ) → strange (page_at t i) ≡ true → words_at (dcheck_out s t l budget).table i ≡ words_at t i
  dcheck-strange i e =
      dcheck-either (λ (o : ScanOutcome). words_at o.table i ≡ words_at t i)
      (λ z. range-strange (s.fixed.pages - s.check.place) (dcheck_of s budget) t l (dcheck-fits s (length t) (length l) z).1.0 i e)
      refl
