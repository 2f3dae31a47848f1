-- A log with the table, and one entry more: a success's word gives its fields back, and its page, with the destination, makes the step of `entry-sends`; a
-- failure's word is none, and its page stays.
use mathlib.Core.Path.{◌≡◌, refl, sym, ap, ◌∙◌}
use mathlib.Core.Logic.{inl, ⊎_elim}
use mathlib.Core.Bool.{Bool, true, false, cond}
use mathlib.Core.List.Memᴰ
use mathlib.Core.List.{List, [], ◌∷◌, ◌++◌, append-nil, Memᴰ}
use Prim.Native.Nat.{ℕ, ◌/◌, ◌^◌, ◌≤◌, ◌<◌}
use native.Mathlib.Omega.{arith}
use lib.Dec.{eqb, ltb, lit<}
use borrow.Author.Tests.{eqb-true, eqb-false, leb-false, ltb-true}
use Rattle.words.specs.Entry.{entry_of, with_pending, with_state, with_l2_map, with_operation, with_status}
use Rattle.words.specs.Operations as operations
use Rattle.words.specs.declared.entries.Entry.{Entry}
use Rattle.words.proofs.EntryLaws.{entry-fits, entry-word}
use Rattle.refusals.proofs.Laws.{passed, first-all}
use Rattle.states.specs.States.{is_in, number_in}
use Rattle.states.specs.Lists.{pending_states, operated, data_states}
use Rattle.states.proofs.Laws.{operation-lt}
use Rattle.page.specs.Page.{Page}
use Rattle.table.specs.Table.{page_count, words_at, page_at}
use Rattle.session.specs.Session.{among, moving}
use Rattle.entry.specs.Entry.{status_tests, status_of, answer_word, exported_page, sent_entry, failed_entry, taken_of}
use Rattle.entry.specs.declared.Ground.{Ground}
use Rattle.entry.proofs.Laws.{status-success, taken-status, exported-has}
use Rattle.lists.specs.Run.{Standing, word_of, gpa_of, taking, stepped}
use Rattle.lists.proofs.Moves.{step_other, step-length}
use Rattle.export.specs.Export.{export_step}
use Rattle.export.proofs.Moves.{step-page, step-failed}
use Rattle.bundle.specs.Bundle.{Sent, made_by, Rising, Once}
use Rattle.bundle.proofs.Replay.{Past, rising-more, once_more, Lawful, lawful-more}
use Rattle.history.specs.History.{sent_by}
use Rattle.history.proofs.Pages.{Moment, moment_on, stay, while-has}
use Rattle.history.proofs.Sessions.{not-idle}
use Rattle.history.proofs.Entries.{sent_as, entry-sends, Sends}
use Rattle.history.proofs.Rows.{Steps, Row, Rows, rows-steps, rows-sent}

-- ---- a log that stands by itself, and with the table

pub record Orderly (log : List Sent) : Type 0 where
  pub rising : Rising log
  pub once : Once log
  pub lawful : Lawful log

pub record Fine (k : Moment) (log : List Sent) (t : List ℕ) : Type 0 where
  pub rows : Rows k log t
  pub past : (y : Sent) → Memᴰ y log → y.epoch ≤ k.epoch
  pub inside : (y : Sent) → Memᴰ y log → y.page < page_count t

-- no entry
pub orderly-none : Orderly []
orderly-none = record { rising = tt; once = tt; lawful = λ y m. absurd (Memᴰ.not-nil m) }

pub fine-none : {k : Moment} {t : List ℕ} → Rows k [] t → Fine k [] t
fine-none r = record { rows = r; past = λ y m. absurd (Memᴰ.not-nil m); inside = λ y m. absurd (Memᴰ.not-nil m) }

-- a call that steps every page and makes no entry
pub fine-steps : {k k' : Moment} {log : List Sent} {t t' : List ℕ} → k.epoch ≤ k'.epoch → Steps k k' t t' → Fine k log t → Fine k' log t'
fine-steps {log = log} {t = t} {t' = t'} a s f =
    let e : page_count t' ≡ page_count t = ap (λ (n : ℕ). n / 2) s.size in
    record { rows = rows-steps log s f.rows; past = λ y m. omega (arith, a, f.past y m); inside = λ y m. rw e (f.inside y m) }

-- ---- the word of an entry that was taken

-- an entry as it is told, its word read again
abbrev told : Entry → Bool → ℕ → ℕ → Entry
told e pending operation status = with_status (with_operation (with_l2_map (with_state (with_pending e pending) 0) 0) operation) status

told-word : (w : ℕ) (pending : Bool) (operation status : ℕ) → operation < 2 ^ 2 → status < 2 ^ 5 →
    entry_of (answer_word (entry_of w) pending operation status) ≡ told (entry_of w) pending operation status
unfolding answer_word
told-word w pending operation status a b =
    let f = entry-fits w in
    entry-word (told (entry_of w) pending operation status)
    (record {
      level = f.level;
      state = lit< tt;
      reserved5 = f.reserved5;
      l2_map = lit< tt;
      mig_type = f.mig_type;
      gpa = f.gpa;
      operation = a;
      reserved54 = f.reserved54;
      status = b;
      reserved61 = f.reserved61;
    })

status-lt : (e : Entry) (p : Page) (g : Ground) → status_of e p g < 2 ^ 5
unfolding status_of
status-lt e p g = ltb-true _ _ (first-all (λ (n : ℕ). ltb n (2 ^ 5)) (status_tests e p g) refl refl)

status-inside : (e : Entry) (p : Page) (g : Ground) → status_of e p g ≡ 0 → e.gpa < g.pages
unfolding status_of
status-inside e p g h = leb-false g.pages e.gpa (passed (status_tests e p g) refl h).1.1.0

-- ---- one entry

module _ (g : Ground) (s : Standing) where
  abbrev page : Page
  page = page_at s.table (gpa_of s)

  -- what a success sends
  abbrev sends : Sent
  sends =
      record {
        epoch = g.epoch;
        page = gpa_of s;
        operation = sent_as page.state;
        pending = is_in page.state pending_states;
        contents = cond (is_in page.state data_states) page.mark 0;
      }

  abbrev pub adds : List Sent
  adds = sent_by g.epoch (taking (export_step g) s).word (taking (export_step g) s).buffer

  sent-adds : status_of (entry_of (word_of s)) page g ≡ 0 → adds ≡ (sends ∷ [])
  unfolding taken_of sent_entry
  sent-adds e =
      let x = status-success (entry_of (word_of s)) page g e in
      let operation = number_in operated page.state in
      rw (
        e,
        told-word (word_of s) (is_in page.state pending_states) operation 0 (operation-lt page.state) (lit< tt),
        (exported-has page x.able x.clean).operates,
      )

  left-adds : eqb (status_of (entry_of (word_of s)) page g) 0 ≡ false → adds ≡ []
  unfolding taken_of failed_entry
  left-adds e =
      rw (e, told-word (word_of s) false operations.nop (status_of (entry_of (word_of s)) page g) (lit< tt) (status-lt (entry_of (word_of s)) page g), e)

  left-words : eqb (status_of (entry_of (word_of s)) page g) 0 ≡ false → (i : ℕ) → words_at (stepped (export_step g) s).table i ≡ words_at s.table i
  left-words e i = go (eqb i (gpa_of s)) refl
    where
      go : (b : Bool) → eqb i (gpa_of s) ≡ b → words_at (stepped (export_step g) s).table i ≡ words_at s.table i
      go true q = rw (eqb-true i (gpa_of s) q) (step-failed g s (λ z. eqb-false _ _ e (sym (taken-status (word_of s) (words_at s.table (gpa_of s)) g) ∙ z)))
      go false q = step_other (export_step g) s i (eqb-false _ _ q)

  module _ (moves : among moving g.phase ≡ true) (small : g.epoch < 2 ^ 16) (size : g.pages ≡ page_count s.table) (log : List Sent) (o : Orderly log)
      (f : Fine (moment_on g) log s.table) where
    sent-more : status_of (entry_of (word_of s)) page g ≡ 0 →
        Orderly (log ++ (sends ∷ [])) × Fine (moment_on g) (log ++ (sends ∷ [])) (stepped (export_step g) s).table
    sent-more e = (
      record {
        rising = rising-more log sends o.rising f.past;
        once = once_more log sends o.once (λ y m a. omega (arith, past.below y m a, older));
        lawful = lawful-more log sends _ old.has past older (n.fits old.has old.ok) f.past o.lawful;
      },
      record {
        rows = rows-sent (moment_on g) log sends s.table (stepped (export_step g) s).table _ (step-length (export_step g) s) l refl
            (step-page g s small l (taken-status (word_of s) (words_at s.table (gpa_of s)) g ∙ e)) (step_other (export_step g) s) n f.rows;
        past = λ y m. ⊎_elim (λ u. f.past y u) (λ u. omega (arith, ap (λ (v : Sent). v.epoch) (Memᴰ.eq_of_singleton u))) (Memᴰ.append_cases log m);
        inside = λ y m. rw (step-length (export_step g) s)
            (⊎_elim (λ u. f.inside y u) (λ u. omega (arith, l, ap (λ (v : Sent). v.page) (Memᴰ.eq_of_singleton u))) (Memᴰ.append_cases log m));
      },
    )
      where
        l : gpa_of s < page_count s.table
        l = omega (arith, size, status-inside (entry_of (word_of s)) page g e)

        n : Sends (moment_on g) page (exported_page g.epoch page) sends.operation (made_by sends)
        n = entry-sends g (entry_of (word_of s)) page moves e

        old : Row (moment_on g) log (gpa_of s) page
        old = f.rows (gpa_of s) l

        past : Past (gpa_of s) log page.migrated old.has
        past = while-has g.phase (not-idle moving g.phase refl moves) old.past

        older : page.migrated < g.epoch
        older = n.older old.has old.ok

    pub one_more : Orderly (log ++ adds) × Fine (moment_on g) (log ++ adds) (stepped (export_step g) s).table
    one_more = go (eqb (status_of (entry_of (word_of s)) page g) 0) refl
      where
        go : (b : Bool) → eqb (status_of (entry_of (word_of s)) page g) 0 ≡ b →
            Orderly (log ++ adds) × Fine (moment_on g) (log ++ adds) (stepped (export_step g) s).table
        go true q = rw (sent-adds (eqb-true _ _ q)) (sent-more (eqb-true _ _ q))
        go false q = rw (left-adds q, append-nil) (
          o,
          fine-steps (omega arith)
              (record { size = step-length (export_step g) s; lasts = inl refl; at = λ i h. rw (left-words q i) (stay (moment_on g) (page_at s.table i)) }) f,
        )
