-- What RESTORE makes of the pages: an entry that succeeds restores the page that it names, and none changes a strange one.
use mathlib.Core.Path.{◌≡◌, refl, sym, ap, ◌∙◌}
use mathlib.Core.Bool.{Bool, true, false}
use mathlib.Core.List.{List}
use Prim.Native.Nat.{ℕ, ◌<◌}
use lib.Dec.{eqb}
use lib.ListN.{length}
use borrow.Author.Tests.{eqb-true}
use Rattle.words.specs.Codes as codes
use Rattle.words.specs.Entry.{entry_of}
use Rattle.words.specs.Info.{info_of}
use Rattle.words.specs.declared.infos.Info.{Info}
use Rattle.refusals.proofs.Laws.{either}
use Rattle.page.specs.Page.{page_of, strange, unless_strange}
use Rattle.page.specs.Sweeps.{restored}
use Rattle.page.specs.declared.PageWords.{PageWords}
use Rattle.table.specs.Table.{page_count, words_at, page_at}
use Rattle.session.specs.declared.Session.{Session}
use Rattle.entry.specs.declared.Ground.{Ground}
use Rattle.restoring.proofs.Laws.{restored-status, restored-sent, restored-failed, restored-strange, status-known, restored-page}
use Rattle.lists.specs.Run.{Standing, word_of, held_of, gpa_of, taking, stepped}
use Rattle.lists.specs.List.{is_over}
use Rattle.lists.proofs.Moves.{step_words, step_kept, run-each}
use Rattle.restore.specs.Restore.{restore_code, restore_step, ended_at, RestoreOutcome, refused_restore, ran_restore, restore_run, restore_out}

-- a success restores the page that the entry names, and a failure leaves it
pub step-page : (g : Ground) (s : Standing) → gpa_of s < page_count s.table → (taking (restore_step g) s).status ≡ 0 →
    page_at (stepped (restore_step g) s).table (gpa_of s) ≡ restored (page_at s.table (gpa_of s))
unfolding unless_strange
step-page g s h e =
    let w = words_at s.table (gpa_of s) in
    let known = status-known (entry_of (word_of s)) (page_of w) g (sym (restored-status (word_of s) (held_of s) w g) ∙ e) in
    ap page_of (step_words (restore_step g) s h ∙ restored-sent (word_of s) (held_of s) w g e) ∙ (rw known at (restored-page w))

pub step-failed : (g : Ground) (s : Standing) → ((taking (restore_step g) s).status ≡ 0 → ⊥) →
    words_at (stepped (restore_step g) s).table (gpa_of s) ≡ words_at s.table (gpa_of s)
step-failed g s n = step_kept (restore_step g) s (restored-failed (word_of s) (held_of s) (words_at s.table (gpa_of s)) g n)

-- ---- the whole call

-- what holds of the outcome of a run and of the one that gives back what came holds of the call's
pub restore-either : (P : RestoreOutcome → Type 0) (s : Session) (t l : List ℕ) (info budget : ℕ) →
    let code = restore_code s (length t) (length l) (info_of info) in
    (code ≡ 0 → P (ran_restore s (info_of info) (restore_run s t l (info_of info) budget))) →
    (eqb code 0 ≡ false → P (refused_restore code s t l)) →
    P (restore_out s t l info budget)
unfolding restore_out
restore-either P s t l info budget ran kept =
    either P (eqb (restore_code s (length t) (length l) (info_of info)) 0) (λ e. ran (eqb-true _ _ e)) kept

-- what each entry keeps of any page's words the call keeps of every page
pub restore-each : (P : PageWords → Type 0) (s : Session) (t l : List ℕ) (info budget : ℕ) →
    ((g : Ground) (word held : ℕ) (w : PageWords) → P w → P (restore_step g word held w).words) →
    (i : ℕ) → P (words_at t i) → P (words_at (restore_out s t l info budget).table i)
restore-each P s t l info budget keeps i h =
    restore-either (λ (o : RestoreOutcome). P (words_at o.table i)) s t l info budget
    (λ e. run-each P (restore_step _) (keeps _) (info_of info).last budget _ i h)
    (λ e. h)

pub restore-strange : (s : Session) (t l : List ℕ) (info budget i : ℕ) → strange (page_at t i) ≡ true →
    words_at (restore_out s t l info budget).table i ≡ words_at t i
restore-strange s t l info budget i e =
    restore-each (λ (w : PageWords). w ≡ words_at t i) s t l info budget
    (λ g word held w same. restored-strange word held w g (ap (λ (v : PageWords). strange (page_of v)) same ∙ e) ∙ same) i refl

-- ---- the code

-- what holds of 0 and 1 holds of a run's
pub ended-code : (f : ℕ → Bool) (x : Info) (next : ℕ) → f codes.done ≡ true → f codes.interrupted ≡ true → f (ended_at x next).code ≡ true
unfolding ended_at
ended-code f x next a b = either (λ (n : ℕ). f n ≡ true) (is_over x next) (λ e. a) (λ e. b)
