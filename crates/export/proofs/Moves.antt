-- What an export makes of the pages: an entry that succeeds moves the page that it names, and none moves a strange one.
use mathlib.Core.Path.{◌≡◌, refl, sym, ap, ◌∙◌}
use mathlib.Core.Bool.{Bool, true, false, ◌||◌}
use mathlib.Core.List.{List}
use Prim.Native.Nat.{ℕ, ◌^◌, ◌<◌}
use lib.Dec.{eqb}
use lib.ListN.{length}
use Rattle.words.specs.Codes as codes
use Rattle.words.specs.Entry.{entry_of}
use Rattle.words.specs.Info.{info_of}
use Rattle.words.specs.declared.infos.Info.{Info}
use Rattle.refusals.proofs.Laws.{either, or_left_false}
use Rattle.page.specs.Page.{page_of, strange, unless_strange}
use Rattle.page.specs.declared.PageWords.{PageWords}
use Rattle.table.specs.Table.{page_count, words_at, page_at}
use Rattle.session.specs.Session.{work_of}
use Rattle.session.specs.declared.Session.{Session}
use Rattle.entry.specs.declared.Ground.{Ground}
use Rattle.entry.specs.Entry.{ground_of, unexportable, exported_page}
use Rattle.entry.proofs.Laws.{status-success, taken-status, taken-sent, taken-failed, taken-strange, exported-page}
use Rattle.lists.specs.Run.{Standing, standing, word_of, gpa_of, taking, stepped, list_run}
use Rattle.lists.specs.List.{is_over}
use Rattle.lists.specs.declared.runs.Progress.{Progress}
use Rattle.lists.proofs.Moves.{step_words, step_kept, run-each}
use Rattle.export.specs.Export.{export_code, export_step, begun_by, finished_by, ExportAnswer, ExportOutcome, refused_export, ran_export, export_out}

-- a success moves the page that the entry names, and a failure leaves it
sent-known : (g : Ground) (s : Standing) → (taking (export_step g) s).status ≡ 0 → strange (page_at s.table (gpa_of s)) ≡ false
unfolding unexportable
sent-known g s e =
    let w = words_at s.table (gpa_of s) in
    or_left_false (strange (page_of w)) _ (or_left_false (strange (page_of w) || _) _
    (status-success (entry_of (word_of s)) (page_of w) g (sym (taken-status (word_of s) w g) ∙ e)).able)

pub step-page : (g : Ground) (s : Standing) → g.epoch < 2 ^ 16 → gpa_of s < page_count s.table → (taking (export_step g) s).status ≡ 0 →
    page_at (stepped (export_step g) s).table (gpa_of s) ≡ exported_page g.epoch (page_at s.table (gpa_of s))
unfolding unless_strange
step-page g s r h e =
    let w = words_at s.table (gpa_of s) in
    ap page_of (step_words (export_step g) s h ∙ taken-sent (word_of s) w g e) ∙ (rw (sent-known g s e) at (exported-page g.epoch r w))

pub step-failed : (g : Ground) (s : Standing) → ((taking (export_step g) s).status ≡ 0 → ⊥) →
    words_at (stepped (export_step g) s).table (gpa_of s) ≡ words_at s.table (gpa_of s)
step-failed g s n = step_kept (export_step g) s (taken-failed (word_of s) (words_at s.table (gpa_of s)) g n)

-- no entry moves a strange page
run-strange : (g : Ground) (last budget : ℕ) (s : Standing) (i : ℕ) → strange (page_at s.table i) ≡ true →
    words_at (list_run (export_step g) last budget s).table i ≡ words_at s.table i
run-strange g last budget s i e =
    let before = words_at s.table i in
    run-each (λ (w : PageWords). w ≡ before) (export_step g)
    (λ word held w same. taken-strange word w g (ap (λ (v : PageWords). strange (page_of v)) same ∙ e) ∙ same) last budget s i refl

-- ---- the whole call

-- where its entries are left
abbrev pub exported : Session → List ℕ → List ℕ → List ℕ → ℕ → ℕ → ℕ → Standing
exported s t l b stream info budget =
    list_run (export_step (ground_of s)) (info_of info).last budget (standing (begun_by (work_of s stream)) t l b)

-- what holds of the outcome of a run and of the one that gives back what came holds of the export's
pub export-either : (P : ExportOutcome → Type 0) (s : Session) (t l b : List ℕ) (stream : ℕ) (resume : Bool) (info budget : ℕ) →
    P (ran_export s stream (info_of info) (exported s t l b stream info budget)) → P
    (refused_export (export_code s (length t) (length l) (length b) stream resume (info_of info)) s t l b) → P (export_out s t l b stream resume info budget)
unfolding export_out
export-either P s t l b stream resume info budget ran kept =
    let code = export_code s (length t) (length l) (length b) stream resume (info_of info) in
    either P (eqb code 0) (λ e. ran) (λ e. kept)

pub export-strange : (s : Session) (t l b : List ℕ) (stream : ℕ) (resume : Bool) (info budget i : ℕ) → strange (page_at t i) ≡ true →
    words_at (export_out s t l b stream resume info budget).table i ≡ words_at t i
export-strange s t l b stream resume info budget i e =
    export-either (λ (o : ExportOutcome). words_at o.table i ≡ words_at t i) s t l b stream resume info budget
    (run-strange (ground_of s) (info_of info).last budget (standing (begun_by (work_of s stream)) t l b) i e)
    refl

-- an export that ran answers 0 or 1
pub finished-code : (f : ℕ → Bool) (s : Session) (stream : ℕ) (x : Info) (at : Progress) → f codes.done ≡ true → f codes.interrupted ≡ true →
    f (finished_by s stream x at).code ≡ true
unfolding finished_by
finished-code f s stream x at done interrupted =
    either (λ (e : ExportAnswer). f e.code ≡ true) (is_over x at.next) (λ q. done) (λ q. interrupted)
