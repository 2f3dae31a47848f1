-- Export of a list.
use Rattle.std.specs.Prelude.{Bool, false, cond, not, ◌&&◌, List, [], ◌∷◌, ◌++◌, ℕ, ◌+◌, eqb, leb, length, Result, Ok, Err, Option, Some, None}
use Rattle.words.specs.Codes as codes
use Rattle.words.specs.Info.{info_of}
use Rattle.words.specs.declared.infos.Info.{Info}
use Rattle.refusals.specs.Refusals.{Test, ◌gives◌, number_of, ending_number}
use Rattle.refusals.specs.declared.Refusal.{Refusal}
use Rattle.session.specs.Session.{moving, work_of, with_work}
use Rattle.session.specs.Formed.{gated, usable_of, work_resting}
use Rattle.session.specs.declared.Session.{Session}
use Rattle.session.specs.declared.streams.Interruption.{Interruption}
use Rattle.entry.specs.Entry.{ground_of}
use Rattle.entry.specs.declared.Ground.{Ground}
use Rattle.lists.specs.Kinds.{Step, taken_by}
use Rattle.lists.specs.Run.{Standing, standing, list_run}
use Rattle.lists.specs.List.{list_tests, is_over, info_back}
use Rattle.lists.specs.declared.Kind.TheVariants.{Export}
use Rattle.lists.specs.declared.runs.Progress.{Progress}
use Rattle.export.specs.declared.Ended as ended
use Rattle.export.specs.declared.ExportAnswer as answer

-- how a call ends: its numbers, and what its stream does then
pub record Ended : Type 0 where
  pub code : ℕ
  pub info : ℕ
  pub errors : ℕ
  pub buffers : ℕ
  pub work : Option Interruption

abbrev pub end_of : ended.Ended → Ended
end_of e = record { code = ending_number e.ending; info = e.info; errors = e.errors; buffers = e.buffers; work = e.work }

-- what it answers
pub record ExportAnswer : Type 0 where
  pub code : ℕ
  pub info : ℕ
  pub errors : ℕ
  pub buffers : ℕ
  pub session : Session

-- a refusal has all other numbers 0, and brings back the session that came
abbrev pub export_answer_of : Session → Result answer.ExportAnswer Refusal → ExportAnswer
export_answer_of s (Ok a) =
    record { code = ending_number a.ending; info = a.info; errors = a.errors; buffers = a.buffers; session = a.session }
export_answer_of s (Err r) = record { code = number_of r; info = 0; errors = 0; buffers = 0; session = s }

-- ---- the tests, each by its name

abbrev pub other_buffer : ℕ → ℕ → Bool
other_buffer entries room = not (eqb room entries)

-- interrupted, with this FIRST and LAST
abbrev pub resumable : Option Interruption → Info → Bool
resumable None x = false
resumable (Some i) x = eqb x.first i.next && eqb x.last i.last

abbrev pub no_resumption : Bool → Option Interruption → Info → Bool
no_resumption resume work x = resume && not (resumable work x)

abbrev pub no_new_call : Bool → Option Interruption → Bool
no_new_call resume work = not resume && not (work_resting work)

abbrev pub not_from_0 : Bool → Info → Bool
not_from_0 resume x = not resume && not (eqb x.first 0)

-- 42, of which it cannot be seen which test comes first; 44; then 42
abbrev pub export_asks : ℕ → Option Interruption → ℕ → ℕ → ℕ → Bool → Info → List Test
export_asks created work entries room stream resume x =
    not (usable_of created stream) gives codes.operand_invalid
    ∷ other_buffer entries room gives codes.operand_invalid
    ∷ (list_tests entries x
    ++ no_resumption resume work x gives codes.invalid_resumption
    ∷ no_new_call resume work gives codes.invalid_resumption
    ∷ not_from_0 resume x gives codes.operand_invalid
    ∷ [])

abbrev pub export_tests : Session → ℕ → ℕ → ℕ → Bool → Info → List Test
export_tests s entries room stream resume x = export_asks s.fixed.created (work_of s stream) entries room stream resume x

unfoldable pub export_code : Session → ℕ → ℕ → ℕ → ℕ → Bool → Info → ℕ
export_code s len entries room stream resume x = gated s len moving (export_tests s entries room stream resume x)

-- ---- the call

-- what becomes of one entry
abbrev pub export_step : Ground → Step
export_step g = taken_by Export g

-- a new call begins at entry 0 with no counts; a resumed one goes on
abbrev pub begun_by : Option Interruption → Progress
begun_by None = record { next = 0; errors = 0; filled = 0 }
begun_by (Some i) = record { next = i.next; errors = i.errors; filled = i.filled }

-- 1 for MACs, 2 if LAST ≥ 256
unfoldable pub mac_pages : ℕ → ℕ
mac_pages last = cond (leb 256 last) 2 1

-- at the end the errors of the whole operation, 1 buffer for the list, those for MACs and the data pages; the stream at rest
abbrev pub done_end : Info → Progress → Ended
done_end x at =
    record { code = codes.done; info = info_back x at.next; errors = at.errors; buffers = 1 + mac_pages x.last + at.filled; work = None }

-- before it both counts 0; the stream interrupted
abbrev pub interrupted_end : Info → Progress → Ended
interrupted_end x at =
    record {
      code = codes.interrupted;
      info = info_back x at.next;
      errors = 0;
      buffers = 0;
      work = Some (record { next = at.next; last = x.last; errors = at.errors; filled = at.filled });
    }

unfoldable pub ended_by : Info → Progress → Ended
ended_by x at = cond (is_over x at.next) (done_end x at) (interrupted_end x at)

-- the answer, with the session in which the stream does that
abbrev pub ending : Session → ℕ → Ended → ExportAnswer
ending s stream e = record { code = e.code; info = e.info; errors = e.errors; buffers = e.buffers; session = with_work s stream e.work }

abbrev pub done_by : Session → ℕ → Info → Progress → ExportAnswer
done_by s stream x at = ending s stream (done_end x at)

abbrev pub interrupted_by : Session → ℕ → Info → Progress → ExportAnswer
interrupted_by s stream x at = ending s stream (interrupted_end x at)

-- all done is tested before the budget
unfoldable pub finished_by : Session → ℕ → Info → Progress → ExportAnswer
finished_by s stream x at = cond (is_over x at.next) (done_by s stream x at) (interrupted_by s stream x at)

pub record ExportOutcome : Type 0 where
  pub answer : ExportAnswer
  pub table : List ℕ
  pub list : List ℕ
  pub buffer : List ℕ

-- a refusal: the code, all other numbers 0, and everything as it came
abbrev pub refused_export : ℕ → Session → List ℕ → List ℕ → List ℕ → ExportOutcome
refused_export code s t l b =
    record { answer = record { code = code; info = 0; errors = 0; buffers = 0; session = s }; table = t; list = l; buffer = b }

abbrev pub ran_export : Session → ℕ → Info → Standing → ExportOutcome
ran_export s stream x e =
    record { answer = finished_by s stream x e.at; table = e.table; list = e.list; buffer = e.buffer }

unfoldable pub export_out : Session → List ℕ → List ℕ → List ℕ → ℕ → Bool → ℕ → ℕ → ExportOutcome
export_out s t l b stream resume info budget =
    let x = info_of info in
    let code = export_code s (length t) (length l) (length b) stream resume x in
    cond (eqb code codes.done)
    (ran_export s stream x (list_run (export_step (ground_of s)) x.last budget (standing (begun_by (work_of s stream)) t l b)))
    (refused_export code s t l b)
