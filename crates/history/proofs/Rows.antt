-- From one page to the table: what a call does is a step of each page, or one entry more; and what holds of every page with the log.
use mathlib.Core.Path.{◌≡◌, refl, sym, ◌∙◌}
use mathlib.Core.Logic.{inl, inr}
use mathlib.Core.Bool.{Bool, true, false, true≢false}
use mathlib.Core.List.{List, [], ◌∷◌, ◌++◌}
use Prim.Native.Nat.{ℕ, ◌+◌, ◌*◌, ◌^◌, ◌≤◌, ◌<◌}
use native.Mathlib.Omega.{arith}
use native.Mathlib.Decide.{ℕ_discrete}
use lib.Dec.{eqb}
use lib.ListN.{length}
use borrow.Author.Tests.{eqb-true}
use Rattle.page.specs.Page.{on_words, unless_strange}
use Rattle.page.specs.Sweeps.{swept_by}
use Rattle.page.specs.Page.{Page}
use Rattle.page.specs.declared.moves.Move.{Move}
use Rattle.page.specs.declared.sweeps.Sweep.{Sweep}
use Rattle.page.proofs.MoveLaws.{swept-held}
use Rattle.table.specs.Table.{page_count, words_at, page_at, sweep_of}
use Rattle.table.proofs.Laws.{put-length, sweep-length, page-swept}
use Rattle.session.specs.Outcome.{Outcome}
use Rattle.session.specs.declared.Phase.TheVariants.{Idle}
use Rattle.session.specs.declared.Session.{Session}
use Rattle.memory.specs.Memory.{on_page}
use Rattle.memory.proofs.Laws.{page-either, page-done, page-other}
use Rattle.scan.specs.Look.{look_of, LookedAt}
use Rattle.scan.specs.Scan.{range_run}
use Rattle.scan.specs.declared.Scan.{Scan}
use Rattle.scan.proofs.RangeLaws.{range-page, range_length}
use Rattle.scan.proofs.Outcomes.{look-page}
use Rattle.bundle.specs.Bundle.{Holding, absent, Sent, made_by}
use Rattle.bundle.proofs.Replay.{Past, past-none, past-other, past_more}
use Rattle.history.proofs.Pages.{Moment, moment_of, While, Ok, Step, Lasts, stay, while-made, while-map, while-lasts, ok-idle}
use Rattle.history.proofs.Moves.{move_step, listed-step}
use Rattle.history.proofs.Contents.{call-done}
use Rattle.history.proofs.Entries.{Sends}
use Rattle.history.proofs.Sweeps.{Home}

-- ---- steps of all pages

pub record Steps (k k' : Moment) (t t' : List ℕ) : Type 0 where
  pub size : length t' ≡ length t
  pub lasts : Lasts k.phase k'.phase
  pub at : (i : ℕ) → i < page_count t → Step k k' (page_at t i) (page_at t' i)

-- ---- a call on one page

page-kept : (m : Move) (s : Session) (t : List ℕ) (at : ℕ) → eqb (on_page m s t at).answer.code 0 ≡ false → (on_page m s t at).table ≡ t
page-kept m s t at =
    page-either m s t at (λ (o : Outcome). eqb o.answer.code 0 ≡ false → o.table ≡ t) (λ d e. absurd (true≢false e)) (λ q e. refl)

page-length : (m : Move) (s : Session) (t : List ℕ) (at : ℕ) → length (on_page m s t at).table ≡ length t
page-length m s t at = page-either m s t at (λ (o : Outcome). length o.table ≡ length t) (λ d. put-length t at _) (λ q. refl)

pub page-steps : (m : Move) (s : Session) (t : List ℕ) (at : ℕ) → Steps (moment_of s) (moment_of s) t (on_page m s t at).table
page-steps m s t at = record { size = page-length m s t at; lasts = inl refl; at = λ i h. elim (ℕ_discrete i at) [ yes e ↦ same i e | no ne ↦ other i ne ] }
  where
    o : Outcome
    o = on_page m s t at

    here : (b : Bool) → eqb o.answer.code 0 ≡ b → Step (moment_of s) (moment_of s) (page_at t at) (page_at o.table at)
    here true q =
        let d = call-done m s t at q in
        rw (page-done m s t at (eqb-true _ _ q)) (move_step (moment_of s) d.comes (page_at t at) m d.moves)
    here false q = rw (page-kept m s t at q) (stay (moment_of s) (page_at t at))

    same : (i : ℕ) → i ≡ at → Step (moment_of s) (moment_of s) (page_at t i) (page_at o.table i)
    same i e = rw e (here (eqb o.answer.code 0) refl)

    other : (i : ℕ) → (i ≡ at → ⊥) → Step (moment_of s) (moment_of s) (page_at t i) (page_at o.table i)
    other i e = rw (page-other m s t at i e) (stay (moment_of s) (page_at t i))

-- ---- a call on every page, and a scan

-- the table that a sweep leaves
abbrev pub swept : Sweep → List ℕ → List ℕ
swept k t = sweep_of (on_words (swept_by k)) t

pub swept-length : (k : Sweep) (t : List ℕ) → length (swept k t) ≡ length t
swept-length k t = sweep-length (on_words (swept_by k)) t

swept-page : (k : Sweep) (t : List ℕ) (i : ℕ) → i < page_count t → page_at (swept k t) i ≡ unless_strange (swept_by k) (page_at t i)
swept-page k t i h = page-swept (swept_by k) (swept-held k) t i h

pub sweep-steps : (x : Sweep) (k k' : Moment) (t : List ℕ) → Lasts k.phase k'.phase → ((i : ℕ) → i < page_count t → Step k k' (page_at t i) (unless_strange (swept_by x) (page_at t i))) →
    Steps k k' t (swept x t)
sweep-steps x k k' t v s = record { size = swept-length x t; lasts = v; at = λ i h. rw (swept-page x t i h) (s i h) }

pub scan_steps : (k : Moment) (count : ℕ) (scan : Scan) (t l : List ℕ) → scan.clock ≡ k.clock → k.clock.tlb < 2 ^ 16 →
    2 * scan.first + 2 * count ≤ length t → Steps k k t (range_run count scan t l).part
unfolding look_of
scan_steps k count scan t l e small fits =
    record { size = range_length count scan t l; lasts = inl refl; at = λ i h. look i (range-page count scan t l fits i) }
  where
    look : (i : ℕ) → LookedAt i scan.clock (words_at t i) (words_at (range_run count scan t l).part i) →
        Step k k (page_at t i) (page_at (range_run count scan t l).part i)
    look i (inl q) = rw q (stay k (page_at t i))
    look i (inr q) =
        rw (q.1, e, look-page (words_at t i) i k.clock small) (listed-step k (page_at t i))

-- ---- the invariant of a table

pub record Row (k : Moment) (log : List Sent) (i : ℕ) (p : Page) : Type 0 where
  pub has : Holding
  pub ok : Ok k p has
  pub past : While k.phase (Past i log p.migrated has)

abbrev pub Rows : Moment → List Sent → List ℕ → Type 0
Rows k log t = (i : ℕ) → i < page_count t → Row k log i (page_at t i)

pub rows-steps : {k k' : Moment} (log : List Sent) {t t' : List ℕ} → Steps k k' t t' → Rows k log t → Rows k' log t'
rows-steps {k} {k'} log {t} {t'} s r i h =
    let h' : i < page_count t = rw s.size at h in
    record {
      has = (r i h').has;
      ok = (s.at i h').ok (r i h').has (r i h').ok;
      past = while-lasts _ k.phase k'.phase s.lasts (rw (s.at i h').kept (r i h').past);
    }

-- every page anew, with nothing at the destination
pub rows-anew : (x : Sweep) (k k' : Moment) (log : List Sent) (t : List ℕ) →
    ((i : ℕ) → i < page_count t → (h : Holding) → Ok k (page_at t i) h →
    Ok k' (unless_strange (swept_by x) (page_at t i)) absent × ((unless_strange (swept_by x) (page_at t i)).migrated ≡ 0)) → Rows k log t → Rows k' [] (swept x t)
rows-anew x k k' log t o r i h =
    let h' : i < page_count t = rw (swept-length x t) at h in
    let y = o i h' (r i h').has (r i h').ok in
    rw (swept-page x t i h') (record { has = absent; ok = y.0; past = while-made k'.phase (rw y.1 (past-none i)) })

-- in Idle, where nothing is asked of the destination
pub rows-idle : (k : Moment) (t : List ℕ) → k.phase ≡ Idle → ((i : ℕ) → i < page_count t → Home k.clock (page_at t i)) → Rows k [] t
rows-idle k t e o i h = let y = o i h in record { has = absent; ok = ok-idle k (page_at t i) absent e y.known y.seen; past = rw e tt }

-- one entry more
pub rows-sent : (k : Moment) (log : List Sent) (z : Sent) (t t' : List ℕ) (q : Page) → length t' ≡ length t → z.page < page_count t → z.epoch ≡ k.epoch →
    page_at t' z.page ≡ q → ((i : ℕ) → (i ≡ z.page → ⊥) → words_at t' i ≡ words_at t i) → Sends k (page_at t z.page) q z.operation (made_by z) →
    Rows k log t → Rows k (log ++ (z ∷ [])) t'
rows-sent k log z t t' q size l b here beside n r i h = elim (ℕ_discrete i z.page) [ yes e ↦ same e | no ne ↦ other ne ]
  where
    h' : i < page_count t
    h' = rw size at h

    same : i ≡ z.page → Row k (log ++ (z ∷ [])) i (page_at t' i)
    same e =
        let old : Row k log z.page (page_at t z.page) = r z.page l in
        rw (e, here)
        (record {
          has = made_by z;
          ok = n.ok old.has old.ok;
          past = while-map k.phase
              (λ x. rw (n.now ∙ sym b) (past_more z.page log (page_at t z.page).migrated old.has x z refl
              (omega (arith, b, n.older old.has old.ok)))) old.past;
        })

    other : (i ≡ z.page → ⊥) → Row k (log ++ (z ∷ [])) i (page_at t' i)
    other e =
        rw (beside i e)
        (record { has = (r i h').has; ok = (r i h').ok; past = while-map k.phase (λ x. past-other i log (page_at t i).migrated (r i h').has x z (λ y. e (sym y))) (r i h').past })
