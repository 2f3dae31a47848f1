-- What only the contracts of the functions inside cite.
use Rattle.std.specs.Prelude.{◌≡◌, Bool, true, false, ◌&&◌, List, [], ◌∷◌, ℕ, ◌/◌, eqb, length}
use Rattle.words.specs.Codes as codes
use Rattle.refusals.specs.Refusals.{◌gives◌, first_of}
use Rattle.page.specs.Sweeps.{swept_by}
use Rattle.page.specs.declared.sweeps.Sweep.{Sweep}
use Rattle.session.specs.Session.{changed_by}
use Rattle.session.specs.Formed.{formed}
use Rattle.session.specs.Outcome.{Verdict, answered_by}
use Rattle.session.specs.declared.Phase.{Phase}
use Rattle.session.specs.declared.Session.{Session}
use Rattle.migration.specs.Migration.{on_all}
use Rattle.migration.specs.Token.{Token, token_out, token_change}
use Rattle.calls.specs.Calls.{effect_of}
use Rattle.calls.specs.Promises.{is_new}
use Rattle.calls.specs.declared.Call.{Call}
use Rattle.wire.specs.Bytes.{words_of}
use Rattle.wire.specs.Sessions.{fits, session_of}
use Rattle.host.specs.Host.{session_bytes, is_table}
use Rattle.host.specs.Promises.{first_group}

-- past 40, of a call that reads its session: session and table are in their layouts, and the session is well-formed
unfoldable pub sound : List ℕ → ℕ → Bool
sound s len = eqb (length s) session_bytes && is_table len && (fits (words_of s) && formed (session_of (words_of s)) (len / 8))

-- what a call on every page comes to is the engine's, of what the bytes mean
abbrev pub SweepTold : Sweep → List ℕ → List ℕ → Verdict → Type 0
SweepTold k s t v =
    let session = session_of (words_of s) in
    answered_by (swept_by k) v.code session (changed_by v.change session) (words_of t) ≡ on_all k session (words_of t)

-- and so is the token
abbrev pub TokenTold : List ℕ → List ℕ → Token → Type 0
TokenTold s t token =
    let session = session_of (words_of s) in
    record { token = token; session = changed_by (token_change token) session } ≡ token_out session (words_of t)

-- 40 and 41 come before the 42 of a list that is none, and every other code after it
abbrev pub before42 : ℕ → ℕ
before42 code =
    first_of (eqb code codes.malformed gives codes.malformed ∷ eqb code codes.op_state_incorrect gives codes.op_state_incorrect ∷ true gives codes.operand_invalid
    ∷ [])

-- a call that reads its session and comes in these phases
pub record ComesIn (c : Call) (phases : List Phase) : Type 0 where
  pub reads : is_new c ≡ false
  pub place : (s : Session) (t l b : List ℕ) → before42 (effect_of c s t l b).returned.code ≡ first_group s (length t) phases
