-- What holds of all eighteen functions.
use Rattle.std.specs.Prelude.{◌≡◌, Bool, true, false, List, [], ◌∷◌, ℕ, ◌/◌, ◌<◌, eqb, length, replicate}
use Rattle.words.specs.Codes as codes
use Rattle.refusals.specs.Refusals.{◌gives◌}
use Rattle.page.specs.declared.sweeps.Sweep.TheVariants.{Track}
use Rattle.session.specs.Session.{moving, new_session, begun}
use Rattle.session.specs.Formed.{gated}
use Rattle.session.specs.declared.Phase.{Phase}
use Rattle.session.specs.declared.Phase.TheVariants.{Idle, Live, Blackout}
use Rattle.session.specs.declared.Session.{Session}
use Rattle.calls.specs.Promises.{named, refusal}
use Rattle.calls.specs.declared.Call.{Call}
use Rattle.calls.specs.declared.Call.TheVariants.{OnAll, Dscan, Dcheck, Export, Restore}
use Rattle.wire.specs.Bytes.{words_of, bytes_of}
use Rattle.wire.specs.Sessions.{session_of, session_words}
use Rattle.host.specs.Host.{Numbers, Lent, lent, lent_all, Left, in_layout, is_list, code_alone, host_of}

-- what a function's contract says of its numbers, those that C does not get being 0, and of each slice that it was lent
pub record Meets (c : Call) (x : Lent) (l : Left) : Type 0 where
  pub answer : l.answer ≡ (host_of c x).answer
  pub session : l.session ≡ (host_of c x).session
  pub table : l.table ≡ (host_of c x).table
  pub list : l.list ≡ (host_of c x).list
  pub buffer : l.buffer ≡ (host_of c x).buffer

-- no second outcome satisfies it: two that do are the same in every part
pub record OneOutcome : Type 0 where
  pub one : (c : Call) (x : Lent) (l l' : Left) → Meets c x l → Meets c x l' → l ≡ l'

-- every byte as it came
pub record Untouched (x : Lent) (l : Left) : Type 0 where
  pub session : l.session ≡ x.session
  pub table : l.table ≡ x.table
  pub list : l.list ≡ x.list
  pub buffer : l.buffer ≡ x.buffer

-- the code, and a page; all other numbers 0
abbrev pub code_and_page : ℕ → ℕ → Numbers
code_and_page code page = record { code = code; page = page; next = 0; first = 0; last = 0; info = 0; errors = 0; buffers = 0 }

-- a refusal writes no byte, and its answer is the code, and the page for 53 and 54
pub record RefusalWritesNothing : Type 0 where
  pub all : (c : Call) (x : Lent) → refusal (host_of c x).answer.code ≡ true → Untouched x (host_of c x)
  pub answer : (c : Call) (x : Lent) → refusal (host_of c x).answer.code ≡ true →
      (host_of c x).answer ≡ code_and_page (host_of c x).answer.code (host_of c x).answer.page
  pub page : (c : Call) (x : Lent) → eqb (host_of c x).answer.code codes.exported_dirty_pages_remain ≡ false →
      eqb (host_of c x).answer.code codes.unexported_memory_remains ≡ false → (host_of c x).answer.page ≡ 0

-- any bytes and any numbers get one of document 01's codes
pub record NamedToC : Type 0 where
  pub code : (c : Call) (x : Lent) → named (host_of c x).answer.code ≡ true

-- bytes that fit no layout are 40
pub record NoLayout : Type 0 where
  pub all : (c : Call) (x : Lent) → in_layout c x ≡ false → (host_of c x).answer ≡ code_alone codes.malformed

-- 40, 41, and then 42: the place of the first 42 in the order of the calls that take a list
abbrev pub first_group : Session → ℕ → List Phase → ℕ
first_group s len phases = gated s len phases (true gives codes.operand_invalid ∷ [])

-- that code alone, in these phases
abbrev pub no_list_in : List Phase → Lent → Numbers
no_list_in phases x = code_alone (first_group (session_of (words_of x.session)) (length x.table / 8) phases)

-- a list or a buffer that is not in whole words, or is longer than 512, is 42 in that place; so is a resume above 1
pub record NoList : Type 0 where
  pub dscan : (first count budget : ℕ) (x : Lent) → in_layout (Dscan first count budget) x ≡ true → is_list (length x.list) ≡ false →
      (host_of (Dscan first count budget) x).answer ≡ no_list_in (Live ∷ []) x
  pub dcheck : (budget : ℕ) (x : Lent) → in_layout (Dcheck budget) x ≡ true → is_list (length x.list) ≡ false →
      (host_of (Dcheck budget) x).answer ≡ no_list_in (Blackout ∷ []) x
  pub list : (stream : ℕ) (resume : Bool) (info budget : ℕ) (x : Lent) → in_layout (Export stream resume info budget) x ≡ true →
      is_list (length x.list) ≡ false → (host_of (Export stream resume info budget) x).answer ≡ no_list_in moving x
  pub buffer : (stream : ℕ) (resume : Bool) (info budget : ℕ) (x : Lent) → in_layout (Export stream resume info budget) x ≡ true →
      is_list (length x.buffer) ≡ false → (host_of (Export stream resume info budget) x).answer ≡ no_list_in moving x
  pub resume : (stream : ℕ) (resume : Bool) (info budget : ℕ) (x : Lent) → in_layout (Export stream resume info budget) x ≡ true → 1 < x.resume →
      (host_of (Export stream resume info budget) x).answer ≡ no_list_in moving x
  pub restore : (info budget : ℕ) (x : Lent) → in_layout (Restore info budget) x ≡ true → is_list (length x.list) ≡ false →
      (host_of (Restore info budget) x).answer ≡ no_list_in (Idle ∷ []) x

-- ---- each hypothesis above is met

-- a session of one page and two streams, as New makes it and in a migration
abbrev pub fresh : Session
fresh = new_session 1 2

abbrev pub going : Phase → Session
going phase = begun fresh phase 1

-- it, its table, and so many bytes for a list and a buffer
abbrev pub one_page : Session → ℕ → ℕ → ℕ → Lent
one_page s list buffer resume =
    lent_all (bytes_of (session_words s)) (replicate 16 0) (replicate list 0) (replicate buffer 0) resume

-- in their layouts, with an operand that is none: 42
abbrev pub Gives42 : Call → Lent → Type 0
Gives42 c x = (in_layout c x ≡ true) × ((host_of c x).answer ≡ code_alone codes.operand_invalid)

pub record Met : Type 0 where
  -- no bytes
  pub layout : in_layout (OnAll Track) (lent [] []) ≡ false
  pub refused : refusal (host_of (OnAll Track) (lent [] [])).answer.code ≡ true
  -- seven bytes for a list or a buffer, a list of 513, a resume of 2
  pub dscan : Gives42 (Dscan 0 1 1) (one_page (going Live) 7 0 0) × (is_list 7 ≡ false)
  pub dcheck : Gives42 (Dcheck 1) (one_page (going Blackout) 4104 0 0) × (is_list 4104 ≡ false)
  pub list : Gives42 (Export 0 false 0 1) (one_page (going Live) 7 8 0) × (is_list 7 ≡ false)
  pub buffer : Gives42 (Export 0 false 0 1) (one_page (going Live) 8 7 0) × (is_list 7 ≡ false)
  pub resume : Gives42 (Export 0 false 0 1) (one_page (going Live) 8 8 2) × (1 < 2)
  pub restore : Gives42 (Restore 0 1) (one_page fresh 7 0 0) × (is_list 7 ≡ false)
