-- What a call leaves: its answer, in which the session comes back, and the table.
use Rattle.std.specs.Prelude.{cond, List, ℕ, eqb, Result, Ok, Err}
use Rattle.refusals.specs.Refusals.{number_of}
use Rattle.refusals.specs.declared.Refusal.{Refusal}
use Rattle.page.specs.Page.{Page, on_words}
use Rattle.table.specs.Table.{sweep_of}
use Rattle.session.specs.declared.Session.{Session}
use Rattle.session.specs.declared.changes.Change.{Change}
use Rattle.session.specs.declared.changes.Change.TheVariants.{Nothing}

-- what a call answers that has no numbers of its own
pub record Answer : Type 0 where
  pub code : ℕ
  pub session : Session

-- what such a call comes to: its code, and with 0 what it changes
pub record Verdict : Type 0 where
  pub code : ℕ
  pub change : Change

-- the answer, and the verdict, that code gives as a `Result`: a refusal brings back the session that came, and changes nothing
abbrev pub answer_of : Session → Result Session Refusal → Answer
answer_of s (Ok s') = record { code = 0; session = s' }
answer_of s (Err r) = record { code = number_of r; session = s }

abbrev pub verdict_of : Result Change Refusal → Verdict
verdict_of (Ok change) = record { code = 0; change = change }
verdict_of (Err r) = record { code = number_of r; change = Nothing }

pub record Outcome : Type 0 where
  pub answer : Answer
  pub table : List ℕ

abbrev pub outcome : ℕ → Session → List ℕ → Outcome
outcome code s t = record { answer = record { code = code; session = s }; table = t }

-- with code 0 the session that the call makes; with any other, the one that came
abbrev pub answer_for : ℕ → Session → Session → Answer
answer_for code s s' = record { code = code; session = cond (eqb code 0) s' s }

-- the same as a change: with any other code, none
abbrev pub verdict_for : ℕ → Change → Verdict
verdict_for code change = record { code = code; change = cond (eqb code 0) change Nothing }

-- and so the table
unfoldable pub answered : ℕ → Session → List ℕ → Session → List ℕ → Outcome
answered code s t s' t' = record { answer = answer_for code s s'; table = cond (eqb code 0) t' t }

-- a call that moves every page
abbrev pub answered_by : (Page → Page) → ℕ → Session → Session → List ℕ → Outcome
answered_by f code s s' t = answered code s t s' (sweep_of (on_words f) t)
