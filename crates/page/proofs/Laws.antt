-- Reading a page and writing it back undo each other; what a move makes of a page is what its words say afterwards.
use mathlib.Core.Path.{◌≡◌, refl, sym, ap, ◌∙◌}
use mathlib.Core.Bool.{Bool, true, false, cond, not, and-false, true≢false}
use Prim.Native.Nat.{ℕ, ◌^◌, ◌<◌}
use native.Mathlib.Omega.{arith}
use lib.Dec.{eqb, lit<}
use borrow.Author.Tests.{eqb-true, le-ltb}
use Rattle.refusals.proofs.Laws.{and_left, and_right}
use Rattle.records.specs.Record.{record_of, lowered, RecordFits, plain}
use Rattle.records.specs.declared.Record.{Record}
use Rattle.records.proofs.RecordLaws.{record-word, record-low, record-fits, word-lowered}
use Rattle.states.specs.States.{Strange, state_of, number_of, is_strange}
use Rattle.states.proofs.Laws.{number_lt, state-number, number-state}
use Rattle.page.specs.Page.{Page, state_read, page_of, number_read, strange, record_for, words_for, on_words, unless_strange, tracked}
use Rattle.page.specs.declared.Clock.{Clock}
use Rattle.page.specs.declared.PageWords.{PageWords}

-- a record can hold the page
pub record Held (p : Page) : Type 0 where
  pub known : strange p ≡ false
  pub stamp : p.stamp < 2 ^ 16
  pub migrated : p.migrated < 2 ^ 16

fits : (p : Page) → p.stamp < 2 ^ 16 → p.migrated < 2 ^ 16 → RecordFits (record_for p)
fits p s m = record { state = number_lt p.state; spare10 = lit< tt; stamp = s; migrated = m; spare48 = lit< tt }

pub lowered-fits : (p : Page) → p.stamp < 2 ^ 16 → p.migrated < 2 ^ 16 → lowered (record_for p) ≡ record_for p
lowered-fits p s m = sym (record-low (record_for p)) ∙ record-word (record_for p) (fits p s m)

-- ---- reading

-- the number that is read names the state
pub number_read_lem : (w : PageWords) → state_of (number_read (record_of w.word)) ≡ (page_of w).state
unfolding page_of number_read
number_read_lem w = by (plain (record_of w.word))
  where
    n : ℕ
    n = (record_of w.word).state

    by : (b : Bool) → state_of (cond b n (number_of Strange)) ≡ cond b (state_of n) Strange
    by true = refl
    by false = state-number Strange

pub read_as : (w : PageWords) (n : ℕ) → n ≡ number_read (record_of w.word) → (n ≡ number_read (record_of w.word)) × (state_of n ≡ (page_of w).state)
read_as w n e = (e, ap state_of e ∙ number_read_lem w)

-- the fields that are read of a record are the page's
pub record Read (r : Record) (p : Page) : Type 0 where
  pub dirty : r.dirty ≡ p.dirty
  pub stamp : r.stamp ≡ p.stamp
  pub migrated : r.migrated ≡ p.migrated

pub read-fields : (w : PageWords) (r : Record) → r ≡ record_of w.word → Read r (page_of w)
unfolding page_of
read-fields w r e = record { dirty = ap (λ (x : Record). x.dirty) e; stamp = ap (λ (x : Record). x.stamp) e; migrated = ap (λ (x : Record). x.migrated) e }

-- what is read of a record that is not strange, a record holds
pub read_held : (w : PageWords) → strange (page_of w) ≡ false → Held (page_of w)
unfolding page_of
read_held w e = record { known = e; stamp = (record-fits w.word).stamp; migrated = (record-fits w.word).migrated }

-- the record of a page that is not strange has no spare bit
known-plain : (r : Record) → is_strange (state_read r) ≡ false → plain r ≡ true
unfolding is_strange
known-plain r = by (plain r)
  where
    by : (b : Bool) → is_strange (cond b (state_of r.state) Strange) ≡ false → b ≡ true
    by true e = refl
    by false e = absurd (true≢false e)

-- and its state's number
pub read_number : (w : PageWords) → strange (page_of w) ≡ false → number_read (record_of w.word) ≡ number_of (page_of w).state
read_number w e =
    sym (number-state (number_read (record_of w.word)) (ap is_strange (number_read_lem w) ∙ e)) ∙ ap number_of (number_read_lem w)

as_read : (r : Record) (n a b : ℕ) → n ≡ r.state → r.spare10 ≡ a → r.spare48 ≡ b →
    record { state = n; dirty = r.dirty; cached = r.cached; spare10 = a; stamp = r.stamp; migrated = r.migrated; spare48 = b } ≡ r
as_read r n a b x y z = rw (x, ← y, ← z)

-- the record of a page that is not strange is what its word says
pub read-record : (w : PageWords) → strange (page_of w) ≡ false → record_for (page_of w) ≡ record_of w.word
unfolding page_of plain number_read
read-record w e =
    let r = record_of w.word in
    let k = known-plain r e in
    let a = eqb r.spare10 0 in
    let b = eqb r.spare48 0 in
    as_read r _ 0 0 (sym (read_number w e) ∙ rw k refl) (eqb-true _ _ (and_left a b k)) (eqb-true _ _ (and_right a b k))

-- ---- writing

-- what was written is read again
pub read-written : (p : Page) → Held p → page_of (words_for p) ≡ p
unfolding page_of plain
read-written p h = rw (record-word (record_for p) (fits p h.stamp h.migrated), state-number p.state)

-- a word whose fields were set as a move sets those of the page is the moved page's
pub words-set : (f : Record → Record) (w : PageWords) (v : ℕ) (q : Page) → v < 2 ^ 64 → strange (page_of w) ≡ false → record_of v ≡ f (record_of w.word) →
    f (record_for (page_of w)) ≡ lowered (record_for q) → record { word = v; mark = q.mark } ≡ words_for q
words-set f w v q l e x y =
    ap (λ (n : ℕ). record { word = n; mark = q.mark }) (word-lowered v (record_for q) l (x ∙ ap f (sym (read-record w e)) ∙ y))

-- ---- moves

-- a strange record stays
pub words-stay : (f : Page → Page) (w : PageWords) → strange (page_of w) ≡ true → on_words f w ≡ w
unfolding on_words
words-stay f w e = rw e

-- a move that makes of a page which a record holds another such page
abbrev pub Holds : (Page → Page) → Type 0
Holds f = (p : Page) → Held p → Held (f p)

-- what it makes of a page is what its words say afterwards
pub page_moved : (f : Page → Page) (w : PageWords) → (strange (page_of w) ≡ false → Held (f (page_of w))) → page_of (on_words f w) ≡ unless_strange f (page_of w)
unfolding on_words unless_strange
page_moved f w h = by (strange (page_of w)) refl
  where
    by : (b : Bool) → strange (page_of w) ≡ b → page_of (cond b w (words_for (f (page_of w)))) ≡ cond b (page_of w) (f (page_of w))
    by true e = refl
    by false e = read-written (f (page_of w)) (h e)

-- ---- a page that was stamped just now is not tracked

pub now-untracked : (clock : Clock) → tracked clock.tlb clock ≡ false
unfolding tracked
now-untracked clock = rw (le-ltb clock.tlb clock.tlb (omega arith)) (and-false (not (eqb clock.tlb 0)))

-- what becomes of a page's words, by whether it is strange
pub on-words : (f : Page → Page) (w r : PageWords) → (strange (page_of w) ≡ true → r ≡ w) → (strange (page_of w) ≡ false → r ≡ words_for (f (page_of w))) →
    r ≡ on_words f w
unfolding on_words
on-words f w r stays made = by (strange (page_of w)) stays made
  where
    by : (b : Bool) → (b ≡ true → r ≡ w) → (b ≡ false → r ≡ words_for (f (page_of w))) → r ≡ cond b w (words_for (f (page_of w)))
    by true s m = s refl
    by false s m = m refl
