-- The entries of a list in turn, in Blackout: each takes from what waits the page that it names, and the words behind it stay as they were.
use mathlib.Core.Path.{◌≡◌, refl, sym, ap, ◌∙◌, subst}
use mathlib.Core.Logic.{◌⊎◌, inl, inr, ⊎_elim}
use mathlib.Core.Bool.{Bool}
use mathlib.Core.List.Memᴰ
use mathlib.Core.List.{List, [], ◌∷◌, Memᴰ}
use Prim.Native.Nat.{ℕ, suc, ◌+◌, ◌/◌, ◌^◌, ◌≤◌, ◌<◌}
use native.Mathlib.Omega.{arith}
use native.Mathlib.Decide.{ℕ_discrete}
use lib.ListN.{length, get_or, set, length-set}
use lib.Seq.{get_or-set_other}
use Rattle.words.specs.Info.{info_of}
use Rattle.page.specs.Page.{page_of}
use Rattle.page.specs.Page.{Page}
use Rattle.table.specs.Table.{page_count, words_at, page_at}
use Rattle.session.specs.Session.{moving, work_of}
use Rattle.session.specs.declared.Phase.TheVariants.{Blackout}
use Rattle.session.specs.declared.Session.{Session}
use Rattle.session.proofs.Laws.{gate-open}
use Rattle.session.proofs.FormedLaws.{formed-means, epoch-fits}
use Rattle.migration.specs.Grant.{Ready}
use Rattle.entry.specs.declared.Ground.{Ground}
use Rattle.lists.specs.Run.{Standing, standing, word_of, gpa_of, taking, counted, stepped, list_run}
use Rattle.lists.proofs.Laws.{run-keeps}
use Rattle.lists.proofs.Moves.{step_words, step_other, step-length}
use Rattle.entry.specs.Entry.{ground_of}
use Rattle.export.specs.Export.{export_tests, export_code, export_step, begun_by}
use Rattle.export.proofs.Laws.{export-ready}
use Rattle.export.proofs.Moves.{exported}
use Rattle.history.proofs.Exports.{begins}
use Rattle.history.proofs.Waiting.{Names, Due, Listed}
use Rattle.history.proofs.Turns.{ready-stays, due-either, due-taken}

-- an entry from `next` on, before `to`, names page i, or something else is to come for it
abbrev pub Ahead : List ℕ → ℕ → ℕ → (ℕ → Type 0) → ℕ → Type 0
Ahead l next to Else i = ((j : ℕ) × (next ≤ j) × (j < to) × Names (get_or l j 0) i) ⊎ Else i

-- a page is ready, or it is due and something holds of it
abbrev pub Waits : Type 0 → ℕ → Page → Type 0
Waits A epoch p = Ready p ⊎ (Due p × (p.migrated < epoch) × A)

pub waits-map : {A B : Type 0} (epoch : ℕ) (p : Page) → (A → B) → Waits A epoch p → Waits B epoch p
waits-map epoch p f (inl r) = inl r
waits-map epoch p f (inr x) = inr (x.0, x.1, f x.2)

-- ---- a list before its first entry, and behind its last one

pub place_of : (word : ℕ) (l : List ℕ) → Memᴰ word l → (j : ℕ) × (j < length l) × (get_or l j 0 ≡ word)
place_of word [] m = absurd (Memᴰ.not-nil m)
place_of word (x ∷ l) m =
    ⊎_elim (λ e. (0, omega arith, sym e)) (λ n. let r = place_of word l n in (suc r.0, omega (arith, r.1), r.2)) (Memᴰ.cases_cons m)

pub listed-ahead : (l : List ℕ) (rest : List (List ℕ)) (i : ℕ) → Listed (l ∷ rest) i → Ahead l 0 (length l) (Listed rest) i
listed-ahead l rest i x = ⊎_elim here (λ m. inr (x.0, m, x.2)) (Memᴰ.cases_cons x.1)
  where
    here : x.0 ≡ l → Ahead l 0 (length l) (Listed rest) i
    here e =
        let at = place_of x.2.0 x.0 x.2.1 in
        rw (← e) (inl (at.0, omega arith, at.1, subst (λ (word : ℕ). Names word i) (sym at.2) x.2.2))

pub none_ahead : (l : List ℕ) (next to : ℕ) (Else : ℕ → Type 0) (i : ℕ) → to ≤ next → Ahead l next to Else i → Else i
none_ahead l next to Else i h (inl x) = absurd (omega (arith, x.1, x.2))
none_ahead l next to Else i h (inr x) = x

-- ---- in between

-- the lengths stay, and every page is ready or ahead
pub record Along (epoch : ℕ) (Else : ℕ → Type 0) (words entries to : ℕ) (s : Standing) : Type 0 where
  pub table : length s.table ≡ words
  pub list : length s.list ≡ entries
  pub buffer : length s.buffer ≡ entries
  pub waits : (i : ℕ) → i < words / 2 → Waits (Ahead s.list s.at.next to Else i) epoch (page_at s.table i)

module _ (g : Ground) (paused : g.phase ≡ Blackout) (fits : g.epoch < 2 ^ 16) (Else : ℕ → Type 0) (words entries to : ℕ) (pages : g.pages ≡ words / 2) where
  module _ (s : Standing) (a : Along g.epoch Else words entries to s) where
    inside : (i : ℕ) → i < words / 2 → i < page_count s.table
    inside i h = rw a.table h

    -- a page that an entry does not name
    page-apart : (i : ℕ) → (i ≡ gpa_of s → ⊥) → page_at (stepped (export_step g) s).table i ≡ page_at s.table i
    page-apart i ne = ap page_of (step_other (export_step g) s i ne)

    page-named : (i : ℕ) → i < words / 2 → i ≡ gpa_of s → page_at (stepped (export_step g) s).table i ≡ page_of (taking (export_step g) s).words
    page-named i h e =
        ap (page_at (stepped (export_step g) s).table) e ∙ ap page_of (step_words (export_step g) s (subst (λ (k : ℕ). k < page_count s.table) e (inside i h)))

    ready-step : (i : ℕ) → i < words / 2 → Ready (page_at s.table i) → Ready (page_at (stepped (export_step g) s).table i)
    ready-step i h r = elim (ℕ_discrete i (gpa_of s)) [ yes e ↦ named e | no ne ↦ subst Ready (sym (page-apart i ne)) r ]
      where
        named : i ≡ gpa_of s → Ready (page_at (stepped (export_step g) s).table i)
        named e =
            let there : Ready (page_at s.table (gpa_of s)) = subst (λ (k : ℕ). Ready (page_at s.table k)) e r in
            subst Ready (sym (page-named i h e ∙ ap page_of (ready-stays (word_of s) (words_at s.table (gpa_of s)) g there))) there

    due-step : (i : ℕ) → i < words / 2 → Due (page_at s.table i) →
        (page_at (stepped (export_step g) s).table i ≡ page_at s.table i) ⊎ Ready (page_at (stepped (export_step g) s).table i)
    due-step i h d = elim (ℕ_discrete i (gpa_of s)) [ yes e ↦ named e | no ne ↦ inl (page-apart i ne) ]
      where
        named : i ≡ gpa_of s → (page_at (stepped (export_step g) s).table i ≡ page_at s.table i) ⊎ Ready (page_at (stepped (export_step g) s).table i)
        named e =
            ⊎_elim
            (λ q. inl (page-named i h e ∙ ap page_of q ∙ ap (page_at s.table) (sym e)))
            (λ r. inr (subst Ready (sym (page-named i h e)) r))
            (due-either (word_of s) (words_at s.table (gpa_of s)) g fits (subst (λ (k : ℕ). Due (page_at s.table k)) e d))

    -- the entry whose turn it is names the page
    due-now : (i : ℕ) → i < words / 2 → Names (word_of s) i → Due (page_at s.table i) → (page_at s.table i).migrated < g.epoch →
        Ready (page_at (stepped (export_step g) s).table i)
    due-now i h names d older =
        let e : i ≡ gpa_of s = sym names.page in
        subst Ready (sym (page-named i h e))
        (due-taken (word_of s) i (words_at s.table (gpa_of s)) g fits paused names (rw pages h)
        (subst (λ (k : ℕ). Due (page_at s.table k)) e d)
        (subst (λ (k : ℕ). (page_at s.table k).migrated < g.epoch) e older))

    abbrev After : ℕ → Type 0
    After i = Ahead (set s.list s.at.next (taking (export_step g) s).word) (s.at.next + 1) to Else i

    waits-step : (i : ℕ) → i < words / 2 → Waits (Ahead s.list s.at.next to Else i) g.epoch (page_at s.table i) →
        Waits (After i) g.epoch (page_at (stepped (export_step g) s).table i)
    waits-step i h (inl r) = inl (ready-step i h r)
    waits-step i h (inr x) = ⊎_elim here (λ y. later (inr y)) x.2
      where
        later : After i → Waits (After i) g.epoch (page_at (stepped (export_step g) s).table i)
        later y =
            ⊎_elim
            (λ q. inr (subst Due (sym q) x.0, subst (λ (p : Page). p.migrated < g.epoch) (sym q) x.1, y))
            (λ r. inl r)
            (due-step i h x.0)

        here : (j : ℕ) × (s.at.next ≤ j) × (j < to) × Names (get_or s.list j 0) i → Waits (After i) g.epoch (page_at (stepped (export_step g) s).table i)
        here y =
            elim (ℕ_discrete y.0 s.at.next) [
              | yes e ↦ inl (due-now i h (subst (λ (k : ℕ). Names (get_or s.list k 0) i) e y.3) x.0 x.1)
              | no ne ↦ later (inl (
                y.0,
                omega (arith, y.1, ne),
                y.2,
                rw (get_or-set_other s.list s.at.next y.0 (taking (export_step g) s).word 0 ne) y.3,
              ))
            ]

  along-step : (s : Standing) → Along g.epoch Else words entries to s → Along g.epoch Else words entries to (stepped (export_step g) s)
  unfolding stepped counted
  along-step s a =
      record {
        table = step-length (export_step g) s ∙ a.table;
        list = length-set s.list s.at.next (taking (export_step g) s).word ∙ a.list;
        buffer = length-set s.buffer s.at.next (taking (export_step g) s).buffer ∙ a.buffer;
        waits = λ i h. waits-step s a i h (a.waits i h);
      }

  pub along-run : (last budget : ℕ) (s : Standing) → Along g.epoch Else words entries to s →
      Along g.epoch Else words entries to (list_run (export_step g) last budget s)
  along-run last = run-keeps (Along g.epoch Else words entries to) (export_step g) last (λ s q. along-step s)

-- ---- a whole call

-- one that is accepted begins at the FIRST that it was given
pub call_along : (s : Session) (t l b : List ℕ) (stream : ℕ) (resume : Bool) (info budget : ℕ) (Else : ℕ → Type 0) (to : ℕ) → s.phase ≡ Blackout →
    export_code s (length t) (length l) (length b) stream resume (info_of info) ≡ 0 →
    ((i : ℕ) → i < page_count t → Waits (Ahead l (info_of info).first to Else i) s.epoch (page_at t i)) →
    Along s.epoch Else (length t) (length l) to (exported s t l b stream info budget)
unfolding ground_of export_code
call_along s t l b stream resume info budget Else to paused e waits =
    let p = gate-open s (length t) moving (export_tests s (length l) (length b) stream resume (info_of info)) refl e in
    let f = formed-means s (length t) p.formed in
    let ready = export-ready s (length t) (length l) (length b) stream resume (info_of info) e in
    let at : (begun_by (work_of s stream)).next ≡ (info_of info).first = begins s (length t) (length l) (length b) stream resume (info_of info) e in
    along-run (ground_of s) paused (epoch-fits s (length t) p.formed p.comes) Else (length t) (length l) to (sym f.ours) (info_of info).last budget
    (standing (begun_by (work_of s stream)) t l b)
    (record { table = refl; list = refl; buffer = ready.same; waits = rw at waits })
