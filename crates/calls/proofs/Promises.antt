-- Every call without a list but the token answers as `answered` says, which with a code other than 0 gives back what came; the token's session is chosen in the
-- same way, and so is all that a scan or an export leaves, which once it runs answers no refusal's code.
use mathlib.Core.Path.{◌≡◌, refl, sym, ap, ◌∙◌}
use mathlib.Core.Bool.{Bool, true, false, cond, not, true≢false, false≢true}
use mathlib.Core.List.{List}
use Prim.Native.Nat.{ℕ, ◌-◌, ◌<◌}
use lib.Dec.{eqb, ltb}
use lib.ListN.{length, replicate}
use borrow.Author.Tests.{eqb-true, eqb-false, ltb-true, ltb-false}
use Rattle.words.specs.Codes as codes
use Rattle.words.specs.Info.{info_of}
use Rattle.refusals.proofs.Laws.{not-true}
use Rattle.page.specs.Page.{Page, strange, on_words, unless_strange}
use Rattle.page.specs.Moves.{moved_by}
use Rattle.page.specs.Sweeps.{swept_by}
use Rattle.page.specs.declared.sweeps.Sweep.{Sweep}
use Rattle.page.proofs.Laws.{words-stay}
use Rattle.page.proofs.MoveLaws.{swept-held}
use Rattle.page.specs.declared.moves.Move.{Move}
use Rattle.table.specs.Table.{page_count, words_at, page_at, put_at, sweep_of}
use Rattle.table.proofs.Laws.{put_other, put_back, sweep-at, sweep-past, page-swept}
use Rattle.session.specs.Session.{new_session, with_phase}
use Rattle.session.specs.Outcome.{Outcome, answered, answered_by}
use Rattle.session.proofs.Laws.{answered-either}
use Rattle.session.specs.declared.Session.{Session}
use Rattle.session.specs.declared.Phase.TheVariants as phase
use Rattle.memory.specs.Memory.{new_code, new_out, on_page}
use Rattle.memory.proofs.Laws.{page-either, page-done, page-other}
use Rattle.migration.specs.Migration.{on_all, on_session}
use Rattle.migration.specs.Token.{token_says, token_code, in_the_way, token_out}
use Rattle.migration.proofs.Laws.{token-numbers, token-number, all_either, alone-table}
use Rattle.scan.specs.Scan.{ScanOutcome, dscan_of, dcheck_of, checked_by}
use Rattle.scan.proofs.Outcomes.{OfScans, range-code, look-page, dscan-either, dscan-strange, dchecked, dcheck-either, dcheck-strange}
use Rattle.scan.proofs.RangeLaws.{range-page}
use Rattle.lists.proofs.Moves.{step_other}
use Rattle.lists.specs.Kinds.{taken_by}
use Rattle.export.specs.Export.{ExportOutcome}
use Rattle.export.proofs.Moves.{exported, step-page, step-failed, export-either, export-strange, finished-code}
use Rattle.restore.specs.Restore.{RestoreOutcome, restore_run}
use Rattle.restore.proofs.Moves as restoring
use Rattle.calls.specs.Calls.{effect, scan_effect, export_effect, restore_effect, effect_of}
use Rattle.calls.specs.Promises.{OneOutcome, refusal, Kept, RefusalKeeps, is_new, StrangeStays, PagesMove}
use Rattle.calls.specs.declared.Call.{Call}
use Rattle.calls.specs.declared.Call.TheVariants.{New, OnPage, OnAll, OnSession, StartToken, Dscan, Dcheck, Export, Restore}

pub one-outcome : OneOutcome
one-outcome =
    record {
      one = λ c s t l b r r' u u' m m' v v' x y. record {
        answer = x.returned ∙ sym y.returned;
        table = x.table ∙ sym y.table;
        list = x.list ∙ sym y.list;
        buffer = x.buffer ∙ sym y.buffer;
      };
    }

-- ---- a refusal

-- the session and the table come back as they were
abbrev Returns : Outcome → Session → List ℕ → Type 0
Returns o s t = (o.answer.session ≡ s) × (o.table ≡ t)

zero-no-refusal : (n : ℕ) → eqb n 0 ≡ true → refusal n ≡ true → ⊥
zero-no-refusal n e r = false≢true (ap refusal (sym (eqb-true n 0 e)) ∙ r)

answered-keeps : (code : ℕ) (s : Session) (t : List ℕ) (s' : Session) (t' : List ℕ) → refusal (answered code s t s' t').answer.code ≡ true →
    Returns (answered code s t s' t') s t
answered-keeps code s t s' t' =
    answered-either (λ (o : Outcome). refusal o.answer.code ≡ true → Returns o s t) code s t s' t' (λ e r. absurd (zero-no-refusal code e r))
    (λ e r. (refl, refl))

token-keeps : (s : Session) (t : List ℕ) → refusal (token_says (token_out s t).token).code ≡ true → (token_out s t).session ≡ s
unfolding token_out
token-keeps s t r = go (eqb (token_code s t) 0) refl
  where
    go : (b : Bool) → eqb (token_code s t) 0 ≡ b → cond b (with_phase s phase.Done) s ≡ s
    go true e = absurd (zero-no-refusal (token_code s t) e (ap refusal (sym (token-number (token_code s t) t)) ∙ r))
    go false e = refl

token-page-zero : (s : Session) (t : List ℕ) → eqb (token_says (token_out s t).token).code codes.exported_dirty_pages_remain ≡ false →
    eqb (token_says (token_out s t).token).code codes.unexported_memory_remains ≡ false → (token_says (token_out s t).token).page ≡ 0
unfolding token_out in_the_way
token-page-zero s t e f =
    let n = token-numbers (token_code s t) t in
    rw n (rw (rw n at e, rw n at f))

-- a code that a call which ran can give
abbrev ran : ℕ → Bool
ran n = not (refusal n)

scans-ran : OfScans ran
scans-ran = record { done = refl; interrupted = refl; full = refl; complete = refl; blocked = refl }

no-refusal : (r : Bool) → not r ≡ true → r ≡ true → ⊥
no-refusal r x y = true≢false (sym y ∙ not-true r x)

module _ (s : Session) (t l b : List ℕ) where
  -- an answer of the code and the page alone, with list and buffer as they came
  as-came : (code page : ℕ) (s' : Session) (t' : List ℕ) → s' ≡ s → t' ≡ t →
      Kept s t l b (record {
        returned = record {
          code = code;
          page = page;
          next = 0;
          first = 0;
          last = 0;
          info = 0;
          errors = 0;
          buffers = 0;
          session = s';
        };
        table = t';
        list = l;
        buffer = b;
      })
  as-came code page s' t' x y =
      record { session = x; table = y; list = refl; buffer = refl; next = refl; first = refl; last = refl; info = refl; errors = refl; buffers = refl }

  plain-kept : (o : Outcome) → Returns o s t → Kept s t l b (effect o l b)
  plain-kept o k = as-came o.answer.code 0 o.answer.session o.table k.0 k.1

  keeps : (c : Call) → refusal (effect_of c s t l b).returned.code ≡ true → Kept s t l b (effect_of c s t l b)
  unfolding new_out on_page on_all on_session
  keeps (New created) r = plain-kept (new_out s t created) (answered-keeps (new_code (length t) created) s t (new_session (page_count t) created)
      (replicate (length t) 0) r)
  keeps (OnPage page m) r = plain-kept (on_page m s t page) (answered-keeps _ s t _ _ r)
  keeps (OnAll k) r = plain-kept (on_all k s t) (answered-keeps _ s t _ _ r)
  keeps (OnSession k) r = plain-kept (on_session k s t) (answered-keeps _ s t _ _ r)
  keeps StartToken r = as-came (token_says (token_out s t).token).code (token_says
      (token_out s t).token).page (token_out s t).session t (token-keeps s t r) refl
  keeps (Dscan first count budget) r =
      dscan-either s t l first count budget (λ (o : ScanOutcome). refusal o.answer.code ≡ true → Kept s t l b (scan_effect o b))
      (λ e x. absurd (no-refusal _ (range-code ran scans-ran count (dscan_of s first budget) t l s) x))
      (λ x. as-came _ 0 s t refl refl)
      r
  keeps (Dcheck budget) r =
      dcheck-either s t l budget (λ (o : ScanOutcome). refusal o.answer.code ≡ true → Kept s t l b (scan_effect o b))
      (λ e x. absurd (no-refusal _ (range-code ran scans-ran (s.fixed.pages - s.check.place) (dcheck_of s budget) t l
      (checked_by s (dchecked s t l budget).scanned)) x))
      (λ x. as-came _ 0 s t refl refl)
      r
  keeps (Export stream resume info budget) r =
      export-either (λ (o : ExportOutcome). refusal o.answer.code ≡ true → Kept s t l b (export_effect o)) s t l b stream resume info budget
      (λ x. absurd (no-refusal _ (finished-code ran s stream (info_of info) (exported s t l b stream info budget).at refl refl) x))
      (λ x. as-came _ 0 s t refl refl)
      r
  keeps (Restore info budget) r =
      restoring.restore-either (λ (o : RestoreOutcome). refusal o.answer.code ≡ true → Kept s t l b (restore_effect o b)) s t l info budget
      (λ e x. absurd (no-refusal _ (restoring.ended-code ran (info_of info) (restore_run s t l (info_of info) budget).at.next refl refl) x))
      (λ e x. as-came _ 0 s t refl refl)
      r

  page-zero : (c : Call) → eqb (effect_of c s t l b).returned.code codes.exported_dirty_pages_remain ≡ false →
      eqb (effect_of c s t l b).returned.code codes.unexported_memory_remains ≡ false → (effect_of c s t l b).returned.page ≡ 0
  page-zero (New created) e f = refl
  page-zero (OnPage page m) e f = refl
  page-zero (OnAll k) e f = refl
  page-zero (OnSession k) e f = refl
  page-zero StartToken e f = token-page-zero s t e f
  page-zero (Dscan first count budget) e f = refl
  page-zero (Dcheck budget) e f = refl
  page-zero (Export stream resume info budget) e f = refl
  page-zero (Restore info budget) e f = refl

pub refusal-keeps : RefusalKeeps
refusal-keeps = record { all = λ c s t l b r. keeps s t l b c r; page = λ c s t l b e f. page-zero s t l b c e f }

-- ---- a strange record

page-strange : (m : Move) (s : Session) (t : List ℕ) (at i : ℕ) → strange (page_at t i) ≡ true → words_at (on_page m s t at).table i ≡ words_at t i
page-strange m s t at i e = page-either m s t at (λ (o : Outcome). words_at o.table i ≡ words_at t i) (λ d. go (eqb i at) refl) (λ q. refl)
  where
    f : Page → Page
    f = moved_by m s.clock

    go : (b : Bool) → eqb i at ≡ b → words_at (put_at t at (on_words f (words_at t at))) i ≡ words_at t i
    go true q =
        let same : i ≡ at = eqb-true i at q in
        rw (same, words-stay f (words_at t at) (ap (λ (k : ℕ). strange (page_at t k)) (sym same) ∙ e)) (put_back t at)
    go false q = put_other t at i (on_words f (words_at t at)) (eqb-false i at q)

sweep-strange : (f : Page → Page) (t : List ℕ) (i : ℕ) → strange (page_at t i) ≡ true → words_at (sweep_of (on_words f) t) i ≡ words_at t i
sweep-strange f t i e = go (ltb i (page_count t)) refl
  where
    go : (b : Bool) → ltb i (page_count t) ≡ b → words_at (sweep_of (on_words f) t) i ≡ words_at t i
    go true q = sweep-at (on_words f) t i (ltb-true i (page_count t) q) ∙ words-stay f (words_at t i) e
    go false q = sweep-past (on_words f) t i (ltb-false i (page_count t) q)

all-strange : (k : Sweep) (s : Session) (t : List ℕ) (i : ℕ) → strange (page_at t i) ≡ true → words_at (on_all k s t).table i ≡ words_at t i
all-strange k s t i e =
    all_either (λ (o : Outcome). words_at o.table i ≡ words_at t i) k s t (λ o. sweep-strange (swept_by k) t i e) (λ q. refl)

module _ (s : Session) (t l b : List ℕ) (i : ℕ) (e : strange (page_at t i) ≡ true) where
  strange-words : (c : Call) → is_new c ≡ false → words_at (effect_of c s t l b).table i ≡ words_at t i
  strange-words (New created) n = absurd (true≢false n)
  strange-words (OnPage page m) n = page-strange m s t page i e
  strange-words (OnAll k) n = all-strange k s t i e
  strange-words (OnSession k) n = ap (λ (u : List ℕ). words_at u i) (alone-table k s t)
  strange-words StartToken n = refl
  strange-words (Dscan first count budget) n = dscan-strange s t l first count budget i e
  strange-words (Dcheck budget) n = dcheck-strange s t l budget i e
  strange-words (Export stream resume info budget) n = export-strange s t l b stream resume info budget i e
  strange-words (Restore info budget) n = restoring.restore-strange s t l info budget i e

pub strange-stays : StrangeStays
strange-stays = record { words = λ c s t l b i n e. strange-words s t l b i e c n }

-- ---- pages

sweep-done : (k : Sweep) (s s' : Session) (t : List ℕ) (i : ℕ) → i < page_count t →
    page_at (answered_by (swept_by k) 0 s s' t).table i ≡ unless_strange (swept_by k) (page_at t i)
unfolding answered
sweep-done k s s' t i h = page-swept (swept_by k) (swept-held k) t i h

pub pages-move : PagesMove
pages-move = record {
  one = page-done;
  others = page-other;
  all = sweep-done;
  entry = step-page;
  failed = step-failed;
  restores = restoring.step-page;
  unrestored = restoring.step-failed;
  beside = λ kind g. step_other (taken_by kind g);
  range = range-page;
  look = look-page;
}
