-- The C side's calls: what the bytes that a caller lends mean, and what each call leaves in them. One definition for all eighteen, over `effect_of`.
use Rattle.std.specs.Prelude.{Bool, cond, not, ◌&&◌, ◌||◌, Result, List, [], ◌∷◌, ℕ, ◌*◌, ◌/◌, ◌%◌, eqb, leb, length, replicate}
use Rattle.words.specs.Codes as codes
use Rattle.refusals.specs.Refusals.{Test, ◌gives◌, first_of}
use Rattle.table.specs.Table.{legal}
use Rattle.session.specs.Formed.{most_entries}
use Rattle.session.specs.declared.Session.{Session}
use Rattle.migration.specs.Token.{token_of, token_says}
use Rattle.migration.specs.declared.token.Obstacle.{Obstacle}
use Rattle.calls.specs.Calls.{Effect, effect_of}
use Rattle.calls.specs.Promises.{refusal, is_new}
use Rattle.calls.specs.declared.Call.{Call}
use Rattle.calls.specs.declared.Returned.{Returned}
use Rattle.wire.specs.Bytes.{words_of, bytes_of}
use Rattle.wire.specs.Sessions.{session_length, fits, session_of, session_words}

-- what a caller lends, in bytes, and an export's resume, which is a number in C; a call that takes no list or no buffer is lent none
pub record Lent : Type 0 where
  pub session : List ℕ
  pub table : List ℕ
  pub list : List ℕ
  pub buffer : List ℕ
  pub resume : ℕ

abbrev pub lent_all : List ℕ → List ℕ → List ℕ → List ℕ → ℕ → Lent
lent_all s t l b resume = record { session = s; table = t; list = l; buffer = b; resume = resume }

abbrev pub lent_list : List ℕ → List ℕ → List ℕ → Lent
lent_list s t l = lent_all s t l [] 0

abbrev pub lent : List ℕ → List ℕ → Lent
lent s t = lent_list s t []

-- what a call answers; numbers that it does not give are 0
pub record Numbers : Type 0 where
  pub code : ℕ
  pub page : ℕ
  pub next : ℕ
  pub first : ℕ
  pub last : ℕ
  pub info : ℕ
  pub errors : ℕ
  pub buffers : ℕ

-- what a call leaves: its numbers, and the bytes
pub record Left : Type 0 where
  pub answer : Numbers
  pub session : List ℕ
  pub table : List ℕ
  pub list : List ℕ
  pub buffer : List ℕ

-- ---- what the bytes mean

-- a session is 384 bytes
abbrev pub session_bytes : ℕ
session_bytes = 8 * session_length

-- 16 bytes a page, 1 to 4,096 pages
abbrev pub is_table : ℕ → Bool
is_table len = eqb (len % 8) 0 && legal (len / 8)

-- session and table are in their layouts; New reads no session, of which only the length must be right
abbrev pub in_layout : Call → Lent → Bool
in_layout c x =
    eqb (length x.session) session_bytes && is_table (length x.table) && (is_new c || fits (words_of x.session))

-- New takes a session of zeros
abbrev pub session_read : Call → List ℕ → Session
session_read c s = session_of (cond (is_new c) (replicate session_length 0) (words_of s))

-- whole words, 512 at most
abbrev pub is_list : ℕ → Bool
is_list len = eqb (len % 8) 0 && leb len (8 * most_entries)

-- list and buffer are in whole words, 512 at most, and resume is 0 or 1
abbrev pub in_words : Lent → Bool
in_words x = is_list (length x.list) && is_list (length x.buffer) && leb x.resume 1

-- ---- what a call leaves

-- the code alone
abbrev pub code_alone : ℕ → Numbers
code_alone code = record { code = code; page = 0; next = 0; first = 0; last = 0; info = 0; errors = 0; buffers = 0 }

-- the token's, of what came of it
abbrev pub token_numbers : {T : Type 0} → Result T Obstacle → Numbers
token_numbers r =
    let says = token_says (token_of r) in
    record { code = says.code; page = says.page; next = 0; first = 0; last = 0; info = 0; errors = 0; buffers = 0 }

-- and every byte as it was
abbrev pub refused : ℕ → Lent → Left
refused code x =
    record { answer = code_alone code; session = x.session; table = x.table; list = x.list; buffer = x.buffer }

abbrev pub numbers_of : Returned → Numbers
numbers_of r =
    record {
      code = r.code;
      page = r.page;
      next = r.next;
      first = r.first;
      last = r.last;
      info = r.info;
      errors = r.errors;
      buffers = r.buffers;
    }

-- bytes after a call: as they were where it refused, else those of the words that it made
abbrev pub unless : Returned → List ℕ → List ℕ → List ℕ
unless r came made = cond (refusal r.code) came (bytes_of made)

-- the engine's numbers, session, table, list and buffer
abbrev pub leaving : Effect → Lent → Left
leaving e x =
    let r = e.returned in
    record {
      answer = numbers_of r;
      session = unless r x.session (session_words r.session);
      table = unless r x.table e.table;
      list = unless r x.list e.list;
      buffer = unless r x.buffer e.buffer;
    }

-- the engine's call on what the bytes mean, the session being s
unfoldable pub played : Call → Session → Lent → Left
played c s x = leaving (effect_of c s (words_of x.table) (words_of x.list) (words_of x.buffer)) x

-- 40: session or table in no layout; 40 and 41 as the engine gives them; then, before the engine's other codes, 42: list, buffer or resume
abbrev pub host_tests : Call → Lent → ℕ → List Test
host_tests c x engine =
    not (in_layout c x) gives codes.malformed
    ∷ eqb engine codes.malformed gives codes.malformed
    ∷ eqb engine codes.op_state_incorrect gives codes.op_state_incorrect
    ∷ not (in_words x) gives codes.operand_invalid
    ∷ []

-- nothing is touched where one of these holds; else it is the engine's call
unfoldable pub host_of : Call → Lent → Left
host_of c x =
    let left = played c (session_read c x.session) x in
    let code = first_of (host_tests c x left.answer.code) in
    cond (eqb code codes.done) left (refused code x)
