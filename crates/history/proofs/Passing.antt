-- A DCHECK's way through the table: each page that it passes is ready, or due and named by one of the words written so far. It stops behind the last page, or
-- where the budget is spent, or where the list is full, and then it has passed at least as many pages as it wrote words.
use mathlib.Core.Path.{◌≡◌, refl, sym, ap, subst, ◌∙◌}
use mathlib.Core.Logic.{◌⊎◌, inl, inr, ⊎_elim}
use mathlib.Core.Bool.{Bool, true, false, cond, ◌&&◌, true≢false}
use mathlib.Core.List.Memᴰ
use mathlib.Core.List.{List, [], ◌∷◌, ◌++◌}
use Prim.Native.Nat.{ℕ, zero, suc, ◌+◌, ◌-◌, ◌*◌, ◌/◌, ◌^◌, ◌≤◌, ◌<◌}
use native.Mathlib.Omega.{arith}
use native.Mathlib.Nat.{eq-or-lt_of_le}
use native.Mathlib.Numerals.{add-one}
use lib.Dec.{eqb, leb}
use lib.ListN.{length, set, take, length-set}
use lib.Seq.{take-suc-set}
use borrow.Author.Tests.{leb-true, eqb-true}
use Rattle.words.specs.Codes as codes
use Rattle.refusals.proofs.Laws.{either, and_right}
use Rattle.page.specs.Page.{page_of, blocked}
use Rattle.page.specs.Page.{Page}
use Rattle.page.specs.declared.Clock.{Clock}
use Rattle.page.specs.declared.PageWords.{PageWords}
use Rattle.table.specs.Table.{most_pages, page_count, words_at, page_at, put_at}
use Rattle.table.proofs.Laws.{put-length, put_same, put_other}
use Rattle.migration.specs.Grant.{Ready}
use Rattle.scan.specs.Look.{Look, listed_page, look_of}
use Rattle.scan.specs.Scan.{stop_code, end_code, ScanOut, scan_run, part_of, patched, range_run}
use Rattle.scan.specs.declared.Scan.{Scan}
use Rattle.scan.proofs.Laws.{stop-room, part_length, part-pages, and-false}
use Rattle.scan.proofs.RangeLaws.{run_length, patched_in, part_in, range-out}
use Rattle.scan.proofs.Outcomes.{look-page}
use Rattle.history.proofs.Waiting.{Due, Named}
use Rattle.history.proofs.Looks.{Calm, unlisted-ready, listed-due, listed-names}

-- a page that was passed
abbrev pub ReadyOrNamed : List ℕ → ℕ → Page → Type 0
ReadyOrNamed l i p = Ready p ⊎ (Due p × Named l i)

named_more : (l m : List ℕ) (i : ℕ) (p : Page) → ReadyOrNamed l i p → ReadyOrNamed (l ++ m) i p
named_more l m i p (inl r) = inl r
named_more l m i p (inr x) = inr (x.0, (x.1.0, Memᴰ.append_left m x.1.1, x.1.2))

-- ---- along the run

-- a run over n pages with room for some words, which stands at page i and has written `put` of them
record Passing (scan : Scan) (n space i put : ℕ) (part list : List ℕ) : Type 0 where
  size : page_count part ≡ n
  long : length list ≡ space
  inside : i ≤ n
  few : put ≤ i
  passed : (j : ℕ) → j < i → ReadyOrNamed (take put list) (scan.first + j) (page_at part j)
  ahead : (j : ℕ) → i ≤ j → j < n → Calm (page_at part j)

-- how it ends, at page i of n: behind the last one, 3; with the budget spent, 1; with the list full, 2
pub record Ended (answer i n : ℕ) : Type 0 where
  pub code : answer ≡ codes.check_complete
  pub place : i ≡ n

pub record Spent (budget answer i n : ℕ) : Type 0 where
  pub code : answer ≡ codes.interrupted
  pub spent : budget ≤ i
  pub place : i < n

pub record Filled (space answer i n : ℕ) : Type 0 where
  pub code : answer ≡ codes.list_full
  pub full : space ≤ i
  pub place : i < n

abbrev pub Ending : ℕ → ℕ → ℕ → ℕ → ℕ → Type 0
Ending budget space code i n = Ended code i n ⊎ (Spent budget code i n ⊎ Filled space code i n)

-- a run that ended at some page
record Ran (scan : Scan) (n space : ℕ) (o : ScanOut) : Type 0 where
  at : ℕ
  next : o.scanned.next ≡ scan.first + at
  passing : Passing scan n space at o.scanned.put o.part o.list
  how : Ending scan.budget space o.scanned.code at n

-- a code that ends the run before the last page, where the page is not blocked
stop-how : (scan : Scan) (blocked listed : Bool) (i put space n : ℕ) → blocked ≡ false → put ≤ i → i < n →
    eqb (stop_code scan blocked listed i put space) 0 ≡ false → Ending scan.budget space (stop_code scan blocked listed i put space) i n
unfolding stop_code
stop-how scan blocked listed i put space n b h l e =
    go (leb scan.budget i) refl (scan.checking && blocked) (rw b (and-false scan.checking)) (listed && leb space put) refl e
  where
    go : (x : Bool) → leb scan.budget i ≡ x → (y : Bool) → y ≡ false → (z : Bool) → (listed && leb space put) ≡ z →
        eqb (cond x codes.interrupted (cond y codes.mem_scan_failed_blocked_range (cond z codes.list_full 0))) 0 ≡ false →
        Ending scan.budget space (cond x codes.interrupted (cond y codes.mem_scan_failed_blocked_range (cond z codes.list_full 0))) i n
    go true p y q z r e = inr (inl (record { code = refl; spent = leb-true _ _ p; place = l }))
    go false p true q z r e = absurd (true≢false q)
    go false p false q true r e =
        let k : space ≤ put = leb-true _ _ (and_right listed (leb space put) r) in
        inr (inr (record { code = refl; full = omega arith; place = l }))
    go false p false q false r e = absurd (true≢false e)

look-blocked : (w : PageWords) (number : ℕ) (clock : Clock) → (look_of w number clock).blocked ≡ blocked (page_of w)
unfolding look_of
look-blocked w number clock = refl

-- page i is visited
module _ (scan : Scan) (n space i put : ℕ) (part list : List ℕ) (tlb : scan.clock.tlb < 2 ^ 16) (fits : scan.first + n ≤ most_pages)
    (p : Passing scan n space i put part list) (l : i < n) where
  abbrev look : Look
  look = look_of (words_at part i) (scan.first + i) scan.clock

  inside : i < page_count part
  inside = rw p.size l

  visited : stop_code scan look.blocked look.listed i put (length list) ≡ 0 →
      Passing scan n space (i + 1) (cond look.listed (put + 1) put) (cond look.listed (put_at part i look.words) part)
      (cond look.listed (set list put look.word) list)
  unfolding look_of
  visited e = go look.listed refl
    where
      words : List ℕ
      words = take put list ++ (look.word ∷ [])

      written : put < length list → take (put + 1) (set list put look.word) ≡ words
      written h = rw (add-one put) (take-suc-set list put look.word h)

      page : page_at (put_at part i look.words) i ≡ listed_page scan.clock (page_at part i)
      page = ap page_of (put_same part i look.words inside) ∙ look-page (words_at part i) (scan.first + i) scan.clock tlb

      other : (j : ℕ) → (j ≡ i → ⊥) → page_at (put_at part i look.words) j ≡ page_at part j
      other j q = ap page_of (put_other part i j look.words q)

      names : Named words (scan.first + i)
      names = (
        look.word,
        Memᴰ.append_right (take put list) (Memᴰ.head refl),
        listed-names (page_at part i).state (scan.first + i) (omega (arith, fits, l)),
      )

      go : (b : Bool) → look.listed ≡ b → Passing scan n space (i + 1) (cond b (put + 1) put) (cond b (put_at part i look.words) part) (cond b
          (set list put look.word) list)
      go true q =
          let h : put < length list = stop-room scan look.blocked look.listed i put (length list) e q in
          record {
            size = ap (λ (x : ℕ). x / 2) (put-length part i look.words) ∙ p.size;
            long = length-set list put look.word ∙ p.long;
            inside = omega (arith, l);
            few = omega (arith, p.few);
            passed = λ j k.
                rw (written h)
                (⊎_elim
                (λ s. subst (λ (x : ℕ). ReadyOrNamed words (scan.first + x) (page_at (put_at part i look.words) x)) (sym s)
                (rw page (inr (listed-due (page_at part i) scan.clock (p.ahead i (omega arith) l) q, names))))
                (λ s. rw (other j (λ z. omega (arith, s, z))) (named_more (take put list) (look.word ∷ []) (scan.first + j) (page_at part j) (p.passed j s)))
                (eq-or-lt_of_le {n = j} {m = i} (omega (arith, k))));
            ahead = λ j k m. rw (other j (λ z. omega (arith, k, z))) (p.ahead j (omega (arith, k)) m);
          }
      go false q =
          record {
            size = p.size;
            long = p.long;
            inside = omega (arith, l);
            few = omega (arith, p.few);
            passed = λ j k.
                ⊎_elim
                (λ s. subst (λ (x : ℕ). ReadyOrNamed (take put list) (scan.first + x) (page_at part x)) (sym s)
                (inl (unlisted-ready (page_at part i) (p.ahead i (omega arith) l) q)))
                (λ s. p.passed j s)
                (eq-or-lt_of_le {n = j} {m = i} (omega (arith, k)));
            ahead = λ j k m. p.ahead j (omega (arith, k)) m;
          }

run_ran : (left : ℕ) (scan : Scan) (n space i put : ℕ) (part list : List ℕ) → scan.checking ≡ true → scan.clock.tlb < 2 ^ 16 → scan.first + n ≤ most_pages →
    i + left ≡ n → Passing scan n space i put part list → Ran scan n space (scan_run left scan i put part list)
unfolding scan_run end_code
run_ran zero scan n space i put part list c tlb fits e p =
    record { at = i; next = refl; passing = p; how = inl (record { code = rw c; place = omega arith }) }
run_ran (suc left) scan n space i put part list c tlb fits e p =
    let f = look_of (words_at part i) (scan.first + i) scan.clock in
    let l : i < n = omega arith in
    let calm : Calm (page_at part i) = p.ahead i (omega arith) l in
    either (λ (o : ScanOut). Ran scan n space o) (eqb (stop_code scan f.blocked f.listed i put (length list)) 0)
    (λ z. run_ran left scan n space (i + 1) _ _ _ c tlb fits (omega arith) (visited scan n space i put part list tlb fits p l (eqb-true _ _ z)))
    (λ z. record {
      at = i;
      next = refl;
      passing = p;
      how =
          subst (λ (x : ℕ). Ending scan.budget x (stop_code scan f.blocked f.listed i put (length list)) i n) p.long
          (stop-how scan f.blocked f.listed i put (length list) n (look-blocked (words_at part i) (scan.first + i) scan.clock ∙ calm.unblocked)
          p.few l z);
    })

-- ---- in the table

-- a DCHECK of `count` pages: those before its first stay as they are
pub record Swept (scan : Scan) (count : ℕ) (t l : List ℕ) (o : ScanOut) : Type 0 where
  pub at : ℕ
  pub next : o.scanned.next ≡ scan.first + at
  pub how : Ending scan.budget (length l) o.scanned.code at count
  pub few : o.scanned.put ≤ at
  pub long : length o.list ≡ length l
  pub before : (k : ℕ) → k < scan.first → page_at o.part k ≡ page_at t k
  pub passed : (k : ℕ) → scan.first ≤ k → k < scan.first + at → ReadyOrNamed (take o.scanned.put o.list) k (page_at o.part k)

module _ (count : ℕ) (scan : Scan) (t l : List ℕ) (fits : 2 * scan.first + 2 * count ≤ length t) where
  abbrev part : List ℕ
  part = part_of t scan.first count

  pub range-swept : scan.checking ≡ true → scan.clock.tlb < 2 ^ 16 → scan.first + count ≤ most_pages → ((k : ℕ) → k < page_count t → Calm (page_at t k)) →
      Swept scan count t l (range_run count scan t l)
  unfolding range_run
  range-swept c tlb most calm =
      let start : Passing scan count (length l) 0 0 part l
      = record {
        size = part-pages t scan.first count fits;
        long = refl;
        inside = omega arith;
        few = omega arith;
        passed = λ j k. absurd (omega (arith, k));
        ahead = λ j k m. rw (part_in t scan.first count fits j m) (calm (scan.first + j) (omega (arith, fits, m)));
      } in
      let r = run_ran count scan count (length l) 0 0 part l c tlb most (omega arith) start in
      let size : length (scan_run count scan 0 0 part l).part ≡ 2 * count = run_length count scan 0 0 part l ∙ part_length t scan.first count fits in
      record {
        at = r.at;
        next = r.next;
        how = r.how;
        few = r.passing.few;
        long = r.passing.long;
        before = λ k h. ap page_of (range-out count scan t l fits k (inl h));
        passed = λ k h m.
            let j : ℕ = k - scan.first in
            let there : scan.first + j ≡ k = omega (arith, h) in
            let inside : j < count = omega (arith, h, m, r.passing.inside) in
            subst (λ (x : ℕ). ReadyOrNamed (take (scan_run count scan 0 0 part l).scanned.put (scan_run count scan 0 0 part l).list) x
            (page_at (patched t scan.first count (scan_run count scan 0 0 part l).part) x)) there
            (rw (patched_in t scan.first count (scan_run count scan 0 0 part l).part fits size j inside) (r.passing.passed j (omega (arith, h, m))));
      }
