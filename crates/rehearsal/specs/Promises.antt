-- Demand 3, over every rehearsal of a C host.
use Rattle.std.specs.Prelude.{◌≡◌, Bool, true, false, cond, List, [], ◌∷◌, ◌++◌, ℕ, ◌≤◌, eqb, length, replicate}
use Rattle.words.specs.Codes as codes
use Rattle.table.specs.Table.{page_count, page_at}
use Rattle.session.specs.declared.Session.{Session}
use Rattle.calls.specs.Calls.{Effect}
use Rattle.bundle.specs.Bundle.{absent, Sent, nothing, replay, Order, Once, Fits}
use Rattle.history.specs.History as history
use Rattle.history.specs.Earning.{most_lists}
use Rattle.history.specs.Promises.{content}
use Rattle.wire.specs.Bytes.{words_of, bytes_of}
use Rattle.wire.specs.Sessions.{session_length, session_of, session_words}
use Rattle.host.specs.Host.{Lent, lent_all, lent_list, lent, Left, in_words, refused, numbers_of}
use Rattle.chirpsteeple.specs.Functions.{new_left}
use Rattle.rehearsal.specs.Rehearsal.{Function, new, write, add, accept, block, unblock, remove, track, start, pause, abort, new_epoch, reset, start_token}
use Rattle.rehearsal.specs.Rehearsal.{dscan, dcheck, export, restore, Operands, call_of, Host, left_in, Rehearsal, at_end}
use Rattle.rehearsal.specs.Driver.{granted, Paused, check, driven}

-- ---- the history that a rehearsal plays

-- what each function is lent
abbrev pub lent_to : Function → List ℕ → List ℕ → Lent
lent_to (new streams) s t = lent s t
lent_to (write page mark) s t = lent s t
lent_to (add page) s t = lent s t
lent_to (accept page) s t = lent s t
lent_to (block page) s t = lent s t
lent_to (unblock page) s t = lent s t
lent_to (remove page) s t = lent s t
lent_to track s t = lent s t
lent_to start s t = lent s t
lent_to pause s t = lent s t
lent_to abort s t = lent s t
lent_to new_epoch s t = lent s t
lent_to reset s t = lent s t
lent_to start_token s t = lent s t
lent_to (dscan first count list budget) s t = lent_list s t list
lent_to (dcheck list budget) s t = lent_list s t list
lent_to (export list buffer stream resume info budget) s t = lent_all s t list buffer resume
lent_to (restore list info budget) s t = lent_list s t list

-- list and buffer are in whole words, 512 at most, and resume is 0 or 1: else the C side refuses it, and there is no such call of the engine
abbrev pub is_played : Function → Bool
is_played f = in_words (lent_to f [] [])

-- the engine's call, on what list and buffer mean
abbrev pub given_by : Function → history.Given
given_by f = history.given (call_of f) (words_of (lent_to f [] []).list) (words_of (lent_to f [] []).buffer)

abbrev pub played_by : List Function → List history.Given
played_by [] = []
played_by (f ∷ l) = cond (is_played f) (given_by f ∷ played_by l) (played_by l)

-- `chirp_new` reads no session: the engine's New is given one of zeros
abbrev pub unread : Session
unread = session_of (replicate session_length 0)

abbrev pub new_played : Rehearsal → Effect
new_played r = history.new_effect unread (words_of r.table) r.streams

-- New being accepted there too
abbrev pub history_of : (r : Rehearsal) → history.accepted (new_played r) ≡ true → history.History
history_of r accepted =
    record { session = unread; words = words_of r.table; created = r.streams; new = accepted; calls = played_by r.calls }

-- ---- every answer and every byte

-- what a function left is what the engine left: its numbers, and the bytes of its session, table, list and buffer
pub record Engines (e : Effect) (left : Left) : Type 0 where
  pub answer : left.answer ≡ numbers_of e.returned
  pub session : left.session ≡ bytes_of (session_words e.returned.session)
  pub table : left.table ≡ bytes_of e.table
  pub list : left.list ≡ bytes_of e.list
  pub buffer : left.buffer ≡ bytes_of e.buffer

-- the engine's 41 goes before the C side's 42
abbrev pub own42 : Effect → ℕ
own42 e = cond (eqb e.returned.code codes.op_state_incorrect) codes.op_state_incorrect codes.operand_invalid

-- a function called by a host where the history stands at w: the engine's call, or the C side's own refusal, which leaves every byte; never 40
pub record Answers (w : history.World) (h : Host) (f : Function) : Type 0 where
  pub played : is_played f ≡ true → Engines (history.effect_in w (given_by f)) (left_in h f)
  pub refused : is_played f ≡ false → left_in h f ≡ refused (own42 (history.effect_in w (given_by f))) (lent_to f h.session h.table)
  pub formed : (left_in h f).answer.code ≡ codes.malformed → ⊥

-- what a host has, and where a history stands: the bytes of its session and table, and the same notes
pub record Same (h : Host) (w : history.World) : Type 0 where
  pub session : h.session ≡ bytes_of (session_words w.session)
  pub table : h.table ≡ bytes_of w.table
  pub log : h.log ≡ w.log
  pub memory : h.memory ≡ w.memory
  pub copy : h.copy ≡ w.copy
  -- and the bytes mean these
  pub reads : session_of (words_of h.session) ≡ w.session
  pub words : words_of h.table ≡ w.table

-- every rehearsal plays a history
pub record Plays : Type 0 where
  pub new : (r : Rehearsal) → history.accepted (new_played r) ≡ true
  pub first : (r : Rehearsal) → Engines (new_played r) (new_left r.session r.table r.streams)
  -- any call behind its end, and so, since what comes before a call of a rehearsal is one too, every call of it
  pub call : (r : Rehearsal) (f : Function) → Operands f → Answers (history.at_end (history_of r (new r))) (at_end r) f
  pub same : (r : Rehearsal) → Same (at_end r) (history.at_end (history_of r (new r)))

-- ---- safety

-- in every order of the log that keeps the epochs in order
abbrev pub InEveryOrder : Host → (List Sent → Type 0) → Type 0
InEveryOrder h P = (l : List Sent) → Order h.log l → P l

-- where `chirp_start_token`, called at the end, is granted
pub record SafeOnBytes : Type 0 where
  -- every such order replays to the copy taken at the last pause
  pub copy : (r : Rehearsal) → granted (at_end r) ≡ true → InEveryOrder (at_end r) (λ l. (i : ℕ) → replay nothing l i ≡ (at_end r).copy i)
  -- and to what the table's bytes hold of each page
  pub table : (r : Rehearsal) → granted (at_end r) ≡ true →
      InEveryOrder (at_end r) (λ l. (i : ℕ) → replay nothing l i ≡ content (page_at (words_of (at_end r).table) i))
  -- beyond the table, nothing
  pub beyond : (r : Rehearsal) → granted (at_end r) ≡ true →
      InEveryOrder (at_end r) (λ l. (i : ℕ) → page_count (words_of (at_end r).table) ≤ i → replay nothing l i ≡ absent)
  -- the log as it was made is such an order
  pub order : (r : Rehearsal) → Order (at_end r).log (at_end r).log
  -- at any time the marks in the table's bytes are the guest's true memory, by the calls on it
  pub marks : (r : Rehearsal) (i : ℕ) → content (page_at (words_of (at_end r).table) i) ≡ (at_end r).memory i
  -- granted or not, in every such order each entry fits where it lands; and an epoch has at most one successful entry of a page
  pub turn : (r : Rehearsal) (before after : List Sent) (x : Sent) → Order (at_end r).log (before ++ (x ∷ after)) →
      Fits x.operation (replay nothing before x.page)
  pub once : (r : Rehearsal) → Once (at_end r).log

-- ---- liveness

-- the end of a rehearsal
pub record Reached (h : Host) : Type 0 where
  pub rehearsal : Rehearsal
  pub there : at_end rehearsal ≡ h

-- from every paused end reset, check, one new epoch and at most eight lists
pub record EarnedOnBytes : Type 0 where
  -- always earn the token
  pub always : (r : Rehearsal) → Paused (at_end r) → (granted (driven (at_end r)) ≡ true) × (length (check (at_end r)).lists ≤ most_lists)
  -- and all these calls are a rehearsal's too, so that the token means there what it means at the end of every other
  pub reached : (r : Rehearsal) → Reached (driven (at_end r))
