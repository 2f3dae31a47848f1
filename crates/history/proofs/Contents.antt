-- What the table says that the guest has of a page: the move of a call makes of it what the call means, and everything else keeps it. By document 01's lists
-- of changes: each change on a list keeps what the page holds, or makes the one thing that its call makes.
use mathlib.Core.Path.{◌≡◌, refl, sym, ap, ◌∙◌}
use mathlib.Core.Logic.{⊎_elim}
use mathlib.Core.Bool.{Bool, true, false, not, ◌&&◌, ◌||◌}
use mathlib.Core.List.{List}
use Prim.Native.Nat.{ℕ, ◌+◌, ◌*◌, ◌^◌, ◌≤◌, ◌<◌}
use native.Mathlib.Omega.{arith}
use lib.Dec.{eqb, ltb}
use lib.ListN.{length, replicate, length-replicate, get_or-replicate}
use borrow.Author.Tests.{eqb-true, ltb-true, ltb-false}
use Rattle.records.specs.Record.{record_of, plain}
use Rattle.refusals.proofs.Laws.{either, Passed, and_left, not-false}
use Rattle.states.specs.States.{State, Free, state_of, is_in, Change, has_move, goes_by}
use Rattle.states.specs.Lists.{writable_states, landing_states, adds, accepts, blocks, unblocks, removes, looks, renewed_states, exports, restores}
use Rattle.states.proofs.Laws.{every-if, Each, move-each, goes-each}
use Rattle.page.specs.Page.{Page, page_of, strange, on_words, unless_strange}
use Rattle.page.specs.Moves.{writable, move_tests, moved_by}
use Rattle.page.specs.Sweeps.{swept_by}
use Rattle.page.specs.declared.Clock.{Clock}
use Rattle.page.specs.declared.PageWords.{PageWords}
use Rattle.page.specs.declared.moves.Move.{Move}
use Rattle.page.specs.declared.moves.Move.TheVariants.{Write, Add, Accept, Block, Unblock, Remove}
use Rattle.page.specs.declared.sweeps.Sweep.{Sweep}
use Rattle.page.specs.declared.sweeps.Sweep.TheVariants.{Track, Start, Pause}
use Rattle.page.proofs.MoveLaws.{swept-held}
use Rattle.table.specs.Table.{page_count, words_at, page_at, sweep_of}
use Rattle.table.proofs.Laws.{sweep-past, page-swept}
use Rattle.session.specs.declared.Session.{Session}
use Rattle.memory.specs.Memory.{on_page}
use Rattle.memory.proofs.Laws.{Done, page-passed, page-code}
use Rattle.scan.specs.Look.{renewed, listed_page}
use Rattle.scan.specs.Scan.{range_run}
use Rattle.scan.specs.declared.Scan.{Scan}
use Rattle.scan.proofs.Outcomes.{look-page}
use Rattle.scan.proofs.RangeLaws.{range-page}
use Rattle.entry.specs.Entry.{taken_of}
use Rattle.entry.specs.declared.Ground.{Ground}
use Rattle.entry.proofs.Laws.{taken-either, exported-page}
use Rattle.lists.specs.Run.{Standing, list_run}
use Rattle.lists.proofs.Moves.{run-each}
use Rattle.export.specs.Export.{export_step}
use Rattle.restoring.proofs.Laws.{restored-either, restored-page}
use Rattle.restore.specs.Restore.{restore_out}
use Rattle.restore.proofs.Moves.{restore-each}
use Rattle.bundle.specs.Bundle.{absent, holds}
use Rattle.history.specs.History.{leaves}
use Rattle.history.specs.Promises.{guests_states, content_of, content}

-- ---- the moves of one page

-- a change that keeps what the page holds
abbrev Keeps : State → State → Type 0
Keeps z to = (mark : ℕ) → content_of to mark ≡ content_of z mark

-- a state in which a write lands has a mark
data-guests : (z : State) → (is_in z writable_states || is_in z landing_states) ≡ true → is_in z guests_states ≡ true
unfolding is_in state_of
data-guests = every-if (λ (z : State). is_in z writable_states || is_in z landing_states) (λ (z : State). is_in z guests_states) tt

write-content : (p : Page) (mark : ℕ) → writable p ≡ true → content_of p.state mark ≡ holds false mark
unfolding writable
write-content p mark w = rw (data-guests p.state (lands (is_in p.state writable_states) (is_in p.state landing_states) p.cached w))
  where
    lands : (a b c : Bool) → (a || (b && c)) ≡ true → (a || b) ≡ true
    lands true b c e = refl
    lands false b c e = and_left b c e

-- what holds of each change on a list holds of a call that has a move
moved : (P : State → State → Type 0) (l : List Change) → Each P l → (z : State) → not (has_move l z) ≡ false → P z (goes_by l z)
moved P l e z h = move-each P l e z (not-false (has_move l z) h)

pub step-content : (m : Move) (p : Page) (clock : Clock) → Passed (move_tests m p clock) → content (moved_by m clock p) ≡ leaves m (content p)
unfolding is_in
step-content (Write mark) p clock d = write-content p mark (not-false (writable p) d.0)
step-content Add p clock d = moved (λ (x to : State). content_of to 0 ≡ holds true 0) adds (refl, tt) p.state d.0
step-content Accept p clock d = moved (λ (x to : State). content_of to 0 ≡ holds false 0) accepts (refl, (refl, (refl, tt))) p.state d.0
step-content Block p clock d =
    moved Keeps blocks (λ m. refl, (λ m. refl, (λ m. refl, (λ m. refl, (λ m. refl, (λ m. refl, tt)))))) p.state d.0 p.mark
step-content Unblock p clock d = moved Keeps unblocks (λ m. refl, (λ m. refl, (λ m. refl, (λ m. refl, tt)))) p.state d.0 p.mark
step-content Remove p clock d = moved (λ (x to : State). content_of to 0 ≡ absent) removes (refl, (refl, (refl, (refl, tt)))) p.state d.0

-- ---- what every page goes through

restore-content : (z : State) → Keeps z (goes_by restores z)
unfolding is_in
restore-content z = goes-each Keeps restores (λ m. refl, (λ m. refl, (λ m. refl, (λ m. refl, (λ m. refl, (λ m. refl, (λ m. refl, tt))))))) z (λ m. refl)

sweep-content : (k : Sweep) (p : Page) → content (unless_strange (swept_by k) p) ≡ content p
unfolding unless_strange
sweep-content k p = either (λ (q : Page). content q ≡ content p) (strange p) (λ s. refl) (λ s. swept k)
  where
    swept : (k : Sweep) → content (swept_by k p) ≡ content p
    swept Track = refl
    swept Start = refl
    swept Pause = refl

look-content : (z : State) → Keeps z (goes_by looks z)
unfolding is_in
look-content z = goes-each Keeps looks (λ m. refl, (λ m. refl, tt)) z (λ m. refl)

listed-content : (clock : Clock) (p : Page) → content (listed_page clock p) ≡ content p
unfolding renewed
listed-content clock p =
    either (λ (q : Page). content q ≡ content p) (is_in (goes_by looks p.state) renewed_states) (λ e. look-content p.state p.mark)
    (λ e. look-content p.state p.mark)

export-content : (z : State) → Keeps z (goes_by exports z)
unfolding is_in
export-content z = goes-each Keeps exports (λ m. refl, (λ m. refl, (λ m. refl, (λ m. refl, (λ m. refl, (λ m. refl, (λ m. refl, tt))))))) z (λ m. refl)

-- an entry leaves a strange page
taken-content : (word : ℕ) (w : PageWords) (g : Ground) → g.epoch < 2 ^ 16 → content (page_of (taken_of word w g).words) ≡ content (page_of w)
unfolding unless_strange
taken-content word w g r =
    taken-either (λ (v : PageWords). content (page_of v) ≡ content (page_of w)) word w g
    (λ e.
    ap content (exported-page g.epoch r w)
    ∙ either (λ (q : Page). content q ≡ content (page_of w)) (strange (page_of w)) (λ s. refl) (λ s. export-content (page_of w).state (page_of w).mark))
    refl

-- ---- the pages of a table

-- New: every page is free, and nothing is the guest's
pub zero-page : (n i : ℕ) → page_at (replicate n 0) i ≡ record { state = Free; dirty = false; cached = false; stamp = 0; migrated = 0; mark = 0 }
unfolding words_at page_of record_of plain state_of
zero-page n i =
    either (λ (w : PageWords). page_of w ≡ record { state = Free; dirty = false; cached = false; stamp = 0; migrated = 0; mark = 0 })
    (ltb i (page_count (replicate n 0)))
    (λ q.
    let inside : i < page_count (replicate n 0) = ltb-true _ _ q in
    let whole : length (replicate n 0) ≡ n = length-replicate {A = ℕ} n 0 in
    rw (get_or-replicate {A = ℕ} n (2 * i) 0 0 (omega arith), get_or-replicate {A = ℕ} n (2 * i + 1) 0 0 (omega arith)))
    (λ q. refl)

pub new-content : (n i : ℕ) → content (page_at (replicate n 0) i) ≡ absent
unfolding is_in
new-content n i = ap content (zero-page n i)

pub swept-content : (k : Sweep) (t : List ℕ) (i : ℕ) → content (page_at (sweep_of (on_words (swept_by k)) t) i) ≡ content (page_at t i)
swept-content k t i = go (ltb i (page_count t)) refl
  where
    go : (b : Bool) → ltb i (page_count t) ≡ b → content (page_at (sweep_of (on_words (swept_by k)) t) i) ≡ content (page_at t i)
    go true q = ap content (page-swept (swept_by k) (swept-held k) t i (ltb-true _ _ q)) ∙ sweep-content k (page_at t i)
    go false q = ap (λ (w : PageWords). content (page_of w)) (sweep-past (on_words (swept_by k)) t i (ltb-false _ _ q))

pub range-content : (count : ℕ) (scan : Scan) (t l : List ℕ) → scan.clock.tlb < 2 ^ 16 → 2 * scan.first + 2 * count ≤ length t → (i : ℕ) →
    content (page_at (range_run count scan t l).part i) ≡ content (page_at t i)
range-content count scan t l r fits i =
    ⊎_elim
    (λ same. ap (λ (w : PageWords). content (page_of w)) same)
    (λ seen. ap (λ (w : PageWords). content (page_of w)) seen.1 ∙ ap content (look-page (words_at t i) i scan.clock r)
    ∙ listed-content scan.clock (page_at t i))
    (range-page count scan t l fits i)

-- an entry keeps what a page holds, and so does a run
pub export-run-content : (g : Ground) (last budget : ℕ) (x : Standing) → g.epoch < 2 ^ 16 → (i : ℕ) →
    content (page_at (list_run (export_step g) last budget x).table i) ≡ content (page_at x.table i)
export-run-content g last budget x r i =
    run-each (λ (w : PageWords). content (page_of w) ≡ content (page_at x.table i)) (export_step g)
    (λ word held w e. taken-content word w g r ∙ e) last budget x i refl

-- and so does RESTORE
pub restored-content : (s : Session) (t l : List ℕ) (info budget i : ℕ) →
    content (page_at (restore_out s t l info budget).table i) ≡ content (page_at t i)
unfolding unless_strange
restored-content s t l info budget i =
    restore-each (λ (w : PageWords). content (page_of w) ≡ content (page_at t i)) s t l info budget
    (λ g word held w e.
    restored-either word held w g (λ (v : PageWords). content (page_of v) ≡ content (page_at t i))
    (λ z.
    ap content (restored-page w)
    ∙ either (λ (q : Page). content q ≡ content (page_of w)) (strange (page_of w)) (λ y. refl) (λ y. restore-content (page_of w).state (page_of w).mark)
    ∙ e)
    e)
    i refl

-- ---- a call on one page

-- one that is done has passed its tests
pub call-done : (m : Move) (s : Session) (t : List ℕ) (at : ℕ) → eqb (on_page m s t at).answer.code 0 ≡ true → Done m s (length t) at (page_at t at)
call-done m s t at e = page-passed m s (length t) at (page_at t at) (sym (page-code m s t at) ∙ eqb-true _ _ e)
