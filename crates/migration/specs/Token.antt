-- The start token.
use Rattle.std.specs.Prelude.{Bool, cond, not, ◌||◌, List, [], ◌∷◌, ◌++◌, ℕ, eqb, length, Option, Some, None, Result, Ok, Err}
use Rattle.words.specs.Codes as codes
use Rattle.refusals.specs.Refusals.{Test, ◌gives◌, number_of}
use Rattle.page.specs.Page.{gives53, gives54}
use Rattle.table.specs.Table.{page_count, lowest, some, found}
use Rattle.session.specs.Session.{with_phase}
use Rattle.session.specs.Formed.{gated, busy}
use Rattle.session.specs.declared.Phase.TheVariants.{Blackout, Done}
use Rattle.session.specs.declared.Session.{Session}
use Rattle.session.specs.declared.changes.Change.{Change}
use Rattle.session.specs.declared.changes.Change.TheVariants.{Nothing, ToPhase}
use Rattle.migration.specs.declared.token.Obstacle.{Obstacle}
use Rattle.migration.specs.declared.token.Obstacle.TheVariants as obstacle
use Rattle.migration.specs.declared.token.Token as told
use Rattle.migration.specs.declared.token.Token.TheVariants as named

pub data Token : Type 0 where
  Granted : Token
  Refused : ℕ → Token
  -- the lowest page that is in the way
  InTheWay : ℕ → ℕ → Token

pub record TokenAnswer : Type 0 where
  pub token : Token
  pub session : Session

-- the refusal that stands for an obstacle
abbrev pub refused_by : Obstacle → Token
refused_by (obstacle.Refused r) = Refused (number_of r)
refused_by (obstacle.InTheWay r page) = InTheWay (number_of r) page

-- the token, and the answer, that code gives as a `Result`: a refusal brings back the session that came
abbrev pub token_of : {T : Type 0} → Result T Obstacle → Token
token_of (Ok x) = Granted
token_of (Err o) = refused_by o

abbrev pub token_answer_of : Session → Result Session Obstacle → TokenAnswer
token_answer_of s (Ok s') = record { token = Granted; session = s' }
token_answer_of s (Err o) = record { token = refused_by o; session = s }

pub record TokenNumbers : Type 0 where
  pub code : ℕ
  pub page : ℕ

-- document 01's numbers for each case: the page is 0 but for 53 and 54
abbrev pub token_says : Token → TokenNumbers
token_says Granted = record { code = codes.done; page = 0 }
token_says (Refused code) = record { code = code; page = 0 }
token_says (InTheWay code page) = record { code = code; page = page }

-- what is asked of the session alone: 43, 52
abbrev pub token_asks : Bool → Bool → List Test
token_asks busy complete = busy gives codes.operand_busy ∷ not complete gives codes.mem_scan_dcheck_not_done ∷ []

abbrev pub token_gate : Session → List Test
token_gate s = token_asks (busy s) s.check.complete

-- then 53, 54
abbrev pub token_tests : Session → List ℕ → List Test
token_tests s t =
    token_gate s
    ++ (some gives53 t gives codes.exported_dirty_pages_remain ∷ some gives54 t gives codes.unexported_memory_remains ∷ [])

unfoldable pub token_code : Session → List ℕ → ℕ
token_code s t = gated s (length t) (Blackout ∷ []) (token_tests s t)

-- 53 and 54 each have the lowest such page
unfoldable pub in_the_way : ℕ → List ℕ → ℕ
in_the_way code t =
    cond (eqb code codes.exported_dirty_pages_remain) (lowest gives53 (page_count t) 0 t)
    (cond (eqb code codes.unexported_memory_remains) (lowest gives54 (page_count t) 0 t) 0)

-- the case that stands for a code
unfoldable pub token_for : ℕ → List ℕ → Token
token_for code t =
    cond (eqb code codes.done) Granted
    (cond (eqb code codes.exported_dirty_pages_remain || eqb code codes.unexported_memory_remains) (InTheWay code (in_the_way code t))
    (Refused code))

-- Done where it is granted; the table stays
unfoldable pub token_out : Session → List ℕ → TokenAnswer
token_out s t =
    record { token = token_for (token_code s t) t; session = cond (eqb (token_code s t) codes.done) (with_phase s Done) s }

-- the case, told the lowest pages that give 53 and 54
abbrev pub token_found : Option ℕ → Option ℕ → Token
token_found (Some page) first54 = InTheWay codes.exported_dirty_pages_remain page
token_found None (Some page) = InTheWay codes.unexported_memory_remains page
token_found None None = Granted

-- the same, told the code before 53, how many pages there are, and where the searches ended
unfoldable pub token_told : ℕ → ℕ → ℕ → ℕ → Token
token_told gate pages first53 first54 =
    cond (not (eqb gate codes.done)) (Refused gate) (token_found (found pages first53) (found pages first54))

-- the case that code's own names, with the same numbers
abbrev pub token_named : told.Token → Token
token_named named.Granted = Granted
token_named (named.Refused code) = Refused code
token_named (named.InTheWay code page) = InTheWay code page

-- and what it changes: Done where it is granted
abbrev pub token_change : Token → Change
token_change Granted = ToPhase Done
token_change (Refused code) = Nothing
token_change (InTheWay code page) = Nothing
