-- Rehearsals of a C host: an accepted `chirp_new`, and then any calls of the eighteen functions with any operands and any list and buffer bytes, each given
-- the session and table bytes that the one before left. What the host notes beside them it reads out of operands, answers and returned bytes alone.
use Rattle.std.specs.Prelude.{◌≡◌, Bool, true, cond, List, [], ◌∷◌, ◌++◌, ℕ, ◌-◌, eqb, get_or}
use Rattle.words.specs.Codes as codes
use Rattle.words.specs.Info.{info_of}
use Rattle.page.specs.declared.moves.Move.TheVariants as move
use Rattle.page.specs.declared.sweeps.Sweep.TheVariants as sweep
use Rattle.migration.specs.declared.Alone.TheVariants as alone
use Rattle.calls.specs.declared.Call.{Call}
use Rattle.calls.specs.declared.Call.TheVariants as call
use Rattle.bundle.specs.Bundle.{Holding, Sent, nothing}
use Rattle.history.specs.History.{came_by, sent_from, remembered_by, copied_by}
use Rattle.wire.specs.Bytes.{words_of, Bytes}
use Rattle.wire.specs.Promises.{Word}
use Rattle.host.specs.Host.{Left}
use Rattle.chirpsteeple.specs.Functions.{new_left, write_left, add_left, accept_left, block_left, unblock_left, remove_left, track_left, start_left, pause_left}
use Rattle.chirpsteeple.specs.Functions.{abort_left, new_epoch_left, reset_left, token_left, dscan_left, dcheck_left, export_left, restore_left}

-- ---- the eighteen functions

-- each with its operands behind session and table, in the order of the header; lists and buffers are bytes
pub data Function : Type 0 where
  new : (streams : ℕ) → Function
  write : (page mark : ℕ) → Function
  add accept block unblock remove : (page : ℕ) → Function
  track start pause abort new_epoch reset start_token : Function
  dscan : (first count : ℕ) (list : List ℕ) (budget : ℕ) → Function
  dcheck : (list : List ℕ) (budget : ℕ) → Function
  export : (list buffer : List ℕ) (stream resume info budget : ℕ) → Function
  restore : (list : List ℕ) (info budget : ℕ) → Function

-- what C's types give: numbers of 64 bits, and bytes
abbrev pub Operands : Function → Type 0
Operands (new streams) = Word streams
Operands (write page mark) = Word page × Word mark
Operands (add page) = Word page
Operands (accept page) = Word page
Operands (block page) = Word page
Operands (unblock page) = Word page
Operands (remove page) = Word page
Operands track = Unit
Operands start = Unit
Operands pause = Unit
Operands abort = Unit
Operands new_epoch = Unit
Operands reset = Unit
Operands start_token = Unit
Operands (dscan first count list budget) = Word first × Word count × Bytes list × Word budget
Operands (dcheck list budget) = Bytes list × Word budget
Operands (export list buffer stream resume info budget) = Bytes list × Bytes buffer × Word stream × Word resume × Word info × Word budget
Operands (restore list info budget) = Bytes list × Word info × Word budget

-- what each leaves of session and table bytes: the definitions that the exported functions' contracts cite
abbrev pub left_by : Function → List ℕ → List ℕ → Left
left_by (new streams) s t = new_left s t streams
left_by (write page mark) s t = write_left s t page mark
left_by (add page) s t = add_left s t page
left_by (accept page) s t = accept_left s t page
left_by (block page) s t = block_left s t page
left_by (unblock page) s t = unblock_left s t page
left_by (remove page) s t = remove_left s t page
left_by track s t = track_left s t
left_by start s t = start_left s t
left_by pause s t = pause_left s t
left_by abort s t = abort_left s t
left_by new_epoch s t = new_epoch_left s t
left_by reset s t = reset_left s t
left_by start_token s t = token_left s t
left_by (dscan first count list budget) s t = dscan_left s t first count list budget
left_by (dcheck list budget) s t = dcheck_left s t list budget
left_by (export list buffer stream resume info budget) s t = export_left s t list buffer stream resume info budget
left_by (restore list info budget) s t = restore_left s t list info budget

-- the call that each stands for
abbrev pub call_of : Function → Call
call_of (new streams) = call.New streams
call_of (write page mark) = call.OnPage page (move.Write mark)
call_of (add page) = call.OnPage page move.Add
call_of (accept page) = call.OnPage page move.Accept
call_of (block page) = call.OnPage page move.Block
call_of (unblock page) = call.OnPage page move.Unblock
call_of (remove page) = call.OnPage page move.Remove
call_of track = call.OnAll sweep.Track
call_of start = call.OnAll sweep.Start
call_of pause = call.OnAll sweep.Pause
call_of abort = call.OnSession alone.Abort
call_of new_epoch = call.OnSession alone.NewEpoch
call_of reset = call.OnSession alone.Reset
call_of start_token = call.StartToken
call_of (dscan first count list budget) = call.Dscan first count budget
call_of (dcheck list budget) = call.Dcheck budget
call_of (export list buffer stream resume info budget) = call.Export stream (eqb resume 1) info budget
call_of (restore list info budget) = call.Restore info budget

abbrev pub accepted : Left → Bool
accepted left = eqb left.answer.code codes.done

-- ---- what the host notes

-- the migration epoch is word 3 of a session
abbrev pub epoch_word : List ℕ → ℕ
epoch_word s = get_or (words_of s) 3 0

-- the entries that an export took, in the epoch of the session that was handed in: words of the list and of the buffer as they came back, from FIRST as it
-- was given to where its answer says that it came
abbrev pub sent_between : List ℕ → Left → ℕ → List Sent
sent_between s left info =
    let first = (info_of info).first in
    sent_from (epoch_word s) (words_of left.list) (words_of left.buffer) first
    (came_by info left.answer.code left.answer.info - first)

-- an accepted start begins a new log, and only an export adds to it
abbrev pub logged_by : Function → List ℕ → Left → List Sent → List Sent
logged_by (new streams) s left log = log
logged_by (write page mark) s left log = log
logged_by (add page) s left log = log
logged_by (accept page) s left log = log
logged_by (block page) s left log = log
logged_by (unblock page) s left log = log
logged_by (remove page) s left log = log
logged_by track s left log = log
logged_by start s left log = cond (accepted left) [] log
logged_by pause s left log = log
logged_by abort s left log = log
logged_by new_epoch s left log = log
logged_by reset s left log = log
logged_by start_token s left log = log
logged_by (dscan first count list budget) s left log = log
logged_by (dcheck list budget) s left log = log
logged_by (export list buffer stream resume info budget) s left log = log ++ sent_between s left info
logged_by (restore list info budget) s left log = log

-- ---- rehearsals

-- what the host has between two calls: the bytes as they came back, and what it noted
pub record Host : Type 0 where
  pub session : List ℕ
  pub table : List ℕ
  -- the successful entries since the last accepted start
  pub log : List Sent
  -- what the guest has of each page, by the calls on its memory
  pub memory : ℕ → Holding
  -- and what it had at the last accepted pause
  pub copy : ℕ → Holding

-- what a function does with the bytes that the host has
abbrev pub left_in : Host → Function → Left
left_in h f = left_by f h.session h.table

-- and what the host then has
abbrev pub after : Host → Function → Host
after h f =
    let left = left_in h f in
    record {
      session = left.session;
      table = left.table;
      log = logged_by f h.session left h.log;
      memory = cond (accepted left) (remembered_by (call_of f) h.memory) h.memory;
      copy = cond (accepted left) (copied_by (call_of f) h.memory h.copy) h.copy;
    }

abbrev pub run : Host → List Function → Host
run h [] = h
run h (f ∷ l) = run (after h f) l

-- what `chirp_new` makes of any bytes
abbrev pub new_host : List ℕ → List ℕ → ℕ → Host
new_host s t streams =
    record { session = (new_left s t streams).session; table = (new_left s t streams).table; log = []; memory = nothing; copy = nothing }

abbrev pub AllOperands : List Function → Type 0
AllOperands [] = Unit
AllOperands (f ∷ l) = Operands f × AllOperands l

-- `chirp_new` is accepted, on any bytes of the right lengths, of which it reads none, and with any legal N; then come any calls, refused ones among them
pub record Rehearsal : Type 0 where
  pub session : List ℕ
  pub table : List ℕ
  pub streams : ℕ
  pub new : accepted (new_left session table streams) ≡ true
  pub calls : List Function
  pub operands : AllOperands calls

abbrev pub at_end : Rehearsal → Host
at_end r = run (new_host r.session r.table r.streams) r.calls
