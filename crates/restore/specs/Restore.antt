-- RESTORE of a list.
use Rattle.std.specs.Prelude.{Bool, cond, List, [], ◌∷◌, ◌++◌, ℕ, eqb, ltb, length, Result, Ok, Err}
use Rattle.words.specs.Codes as codes
use Rattle.words.specs.Info.{info_of}
use Rattle.words.specs.declared.infos.Info.{Info}
use Rattle.refusals.specs.Refusals.{Test, ◌gives◌, number_of, ending_number}
use Rattle.refusals.specs.declared.Refusal.{Refusal}
use Rattle.session.specs.Formed.{gated}
use Rattle.session.specs.declared.Phase.TheVariants.{Idle}
use Rattle.session.specs.declared.Session.{Session}
use Rattle.entry.specs.Entry.{ground_of}
use Rattle.entry.specs.declared.Ground.{Ground}
use Rattle.lists.specs.Kinds.{Step, taken_by}
use Rattle.lists.specs.Run.{Standing, standing, list_run}
use Rattle.lists.specs.List.{list_tests, is_over, info_back}
use Rattle.lists.specs.declared.Kind.TheVariants.{Restore}
use Rattle.lists.specs.declared.runs.Progress.{Progress}
use Rattle.restore.specs.declared.Ended as ended
use Rattle.restore.specs.declared.ListAnswer as answer

-- how a call ends
pub record Ended : Type 0 where
  pub code : ℕ
  pub info : ℕ

abbrev pub end_of : ended.Ended → Ended
end_of e = record { code = ending_number e.ending; info = e.info }

-- what it answers
pub record ListAnswer : Type 0 where
  pub code : ℕ
  pub info : ℕ
  pub session : Session

-- a refusal has the info word 0, and brings back the session that came
abbrev pub list_answer_of : Session → Result answer.ListAnswer Refusal → ListAnswer
list_answer_of s (Ok a) = record { code = ending_number a.ending; info = a.info; session = a.session }
list_answer_of s (Err r) = record { code = number_of r; info = 0; session = s }

-- ---- the tests

abbrev pub first_beyond : Info → Bool
first_beyond x = ltb x.last x.first

-- 42, of which it cannot be seen which test comes first; no stream, no buffer, and nothing to resume
abbrev pub restore_asks : ℕ → Info → List Test
restore_asks entries x = list_tests entries x ++ (first_beyond x gives codes.operand_invalid ∷ [])

unfoldable pub restore_code : Session → ℕ → ℕ → Info → ℕ
restore_code s len entries x = gated s len (Idle ∷ []) (restore_asks entries x)

-- ---- the call

-- what becomes of one entry
abbrev pub restore_step : Ground → Step
restore_step g = taken_by Restore g

-- every call begins at FIRST: the session keeps no record of one before
abbrev pub begun_at : Info → Progress
begun_at x = record { next = x.first; errors = 0; filled = 0 }

-- all done is tested before the budget; FIRST tells where the operation goes on
unfoldable pub ended_at : Info → ℕ → Ended
ended_at x next = record { code = cond (is_over x next) codes.done codes.interrupted; info = info_back x next }

-- the session comes back as it came
abbrev pub ending : Session → Ended → ListAnswer
ending s e = record { code = e.code; info = e.info; session = s }

pub record RestoreOutcome : Type 0 where
  pub answer : ListAnswer
  pub table : List ℕ
  pub list : List ℕ

-- a refusal: the code, the info word 0, and everything as it came
abbrev pub refused_restore : ℕ → Session → List ℕ → List ℕ → RestoreOutcome
refused_restore code s t l = record { answer = record { code = code; info = 0; session = s }; table = t; list = l }

abbrev pub ran_restore : Session → Info → Standing → RestoreOutcome
ran_restore s x e = record { answer = ending s (ended_at x e.at.next); table = e.table; list = e.list }

-- the entries, with no buffer
abbrev pub restore_run : Session → List ℕ → List ℕ → Info → ℕ → Standing
restore_run s t l x budget = list_run (restore_step (ground_of s)) x.last budget (standing (begun_at x) t l [])

unfoldable pub restore_out : Session → List ℕ → List ℕ → ℕ → ℕ → RestoreOutcome
restore_out s t l info budget =
    let x = info_of info in
    let code = restore_code s (length t) (length l) x in
    cond (eqb code codes.done) (ran_restore s x (restore_run s t l x budget)) (refused_restore code s t l)
