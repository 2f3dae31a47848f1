-- Words go in, words come out: of every call, the numbers, the session, the table, the list and the buffer.
use Rattle.std.specs.Prelude.{◌≡◌, List, ℕ, length}
use Rattle.page.specs.declared.moves.Move.{Move}
use Rattle.page.specs.declared.moves.Move.TheVariants.{Write, Add, Accept, Block, Unblock, Remove}
use Rattle.session.specs.Session.{stream_places}
use Rattle.session.specs.declared.Session.{Session}
use Rattle.calls.specs.Calls.{Effect, effect_of}
use Rattle.calls.specs.declared.Call.{Call}
use Rattle.calls.specs.declared.Call.TheVariants.{New, OnPage, OnAll, OnSession, StartToken, Dscan, Dcheck, Export, Restore}
use Rattle.calls.specs.declared.Returned.{Returned}
use Rattle.wire.specs.Bytes.{words_of, bytes_of, Words}
use Rattle.wire.specs.Sessions.{session_of, session_words}
use Rattle.wire.specs.Promises.{Word, Numbers}

-- the numbers that a call is given are words; of those on one page, the mark
abbrev pub MoveWords : Move → Type 0
MoveWords (Write mark) = Word mark
MoveWords Add = Unit
MoveWords Accept = Unit
MoveWords Block = Unit
MoveWords Unblock = Unit
MoveWords Remove = Unit

abbrev pub CallWords : Call → Type 0
CallWords (New created) = Word created
CallWords (OnPage page m) = Word page × MoveWords m
CallWords (OnAll k) = Unit
CallWords (OnSession k) = Unit
CallWords StartToken = Unit
CallWords (Dscan first count budget) = Word first × Word count × Word budget
CallWords (Dcheck budget) = Word budget
CallWords (Export stream resume info budget) = Word stream × Word info × Word budget
CallWords (Restore info budget) = Word info × Word budget

-- a session whose numbers are words, with its eight streams
pub record SessionWords (s : Session) : Type 0 where
  pub numbers : Numbers s
  pub streams : length s.streams ≡ stream_places

-- the numbers that a call answers
pub record AnswerWords (r : Returned) : Type 0 where
  pub code : Word r.code
  pub page : Word r.page
  pub next : Word r.next
  pub first : Word r.first
  pub last : Word r.last
  pub info : Word r.info
  pub errors : Word r.errors
  pub buffers : Word r.buffers

-- all that comes out
pub record WordsOut (e : Effect) : Type 0 where
  pub answer : AnswerWords e.returned
  pub session : SessionWords e.returned.session
  pub table : Words e.table
  pub list : Words e.list
  pub buffer : Words e.buffer

-- and all that goes in
pub record WordsIn (c : Call) (s : Session) (t l b : List ℕ) : Type 0 where
  pub call : CallWords c
  pub session : SessionWords s
  pub table : Words t
  pub list : Words l
  pub buffer : Words b

-- the bytes of all that a call left, read again
pub record ReadAgain (e : Effect) : Type 0 where
  pub session : session_of (words_of (bytes_of (session_words e.returned.session))) ≡ e.returned.session
  pub table : words_of (bytes_of e.table) ≡ e.table
  pub list : words_of (bytes_of e.list) ≡ e.list
  pub buffer : words_of (bytes_of e.buffer) ≡ e.buffer

pub record StaysSmall : Type 0 where
  pub words : (c : Call) (s : Session) (t l b : List ℕ) → WordsIn c s t l b → WordsOut (effect_of c s t l b)
  -- so they read back
  pub back : (c : Call) (s : Session) (t l b : List ℕ) → WordsIn c s t l b → ReadAgain (effect_of c s t l b)
