-- The guest of `history`'s example, moved by a C host: whatever the promises ask for is met by it.
use Rattle.std.specs.Prelude.{◌≡◌, true, false, List, [], ◌∷◌, ◌++◌, ℕ, ◌*◌, replicate}
use Rattle.page.specs.declared.moves.Move.TheVariants as move
use Rattle.session.specs.Session.{new_session}
use Rattle.calls.specs.declared.Call.TheVariants as call
use Rattle.bundle.specs.Bundle.{Order}
use Rattle.history.specs.Example.{up_to, scanned, left, sent, reordered}
use Rattle.wire.specs.Bytes.{bytes_of}
use Rattle.host.specs.Host.{session_bytes}
use Rattle.chirpsteeple.specs.Functions.{new_left}
use Rattle.rehearsal.specs.Small.{WordsIn}
use Rattle.rehearsal.specs.Rehearsal.{Function, write, add, accept, block, remove, track, start, pause, abort, new_epoch, reset, start_token, dscan, dcheck}
use Rattle.rehearsal.specs.Rehearsal.{export, restore, Operands, accepted, AllOperands, Rehearsal, at_end}
use Rattle.rehearsal.specs.Driver.{granted, Paused}
use Rattle.rehearsal.specs.Promises.{is_played}

-- whatever was there before: a session's bytes, and a table's of four pages
abbrev pub session : List ℕ
session = replicate session_bytes 7

abbrev pub table : List ℕ
table = replicate 64 7

-- bytes of zeros for so many words
abbrev zeros : ℕ → List ℕ
zeros n = replicate (8 * n) 0

-- seven bytes, which are no list
abbrev pub no_list : Function
no_list = dcheck (replicate 7 0) 1

-- exported, aborted, and a page written
abbrev pub to_abort : List Function
to_abort =
    add 0
    ∷ accept 0
    ∷ write 0 7
    ∷ add 1
    ∷ accept 1
    ∷ write 1 8
    ∷ add 2
    ∷ start
    ∷ dscan 0 4 (zeros 4) 10
    ∷ track
    ∷ export (bytes_of scanned) (zeros 3) 0 0 (up_to 2 0) 5
    ∷ abort
    ∷ write 0 6
    ∷ []

-- restored in two calls, and started again
abbrev pub again : List Function
again =
    restore (bytes_of scanned) (up_to 2 0) 1
    ∷ restore (bytes_of scanned) (up_to 2 1) 5
    ∷ start
    ∷ dscan 0 4 (zeros 4) 10
    ∷ write 0 9
    ∷ track
    ∷ export (bytes_of scanned) (zeros 3) 0 0 (up_to 2 0) 2
    ∷ export (bytes_of scanned) (zeros 3) 0 1 (up_to 2 2) 5
    ∷ write 1 5
    ∷ block 0
    ∷ track
    ∷ remove 0
    ∷ []

abbrev pub live : List Function
live = to_abort ++ again

abbrev pub paused : List Function
paused = pause ∷ start_token ∷ no_list ∷ []

abbrev pub to_pause : List Function
to_pause = live ++ paused

abbrev pub earning : List Function
earning = reset ∷ dcheck (zeros 4) 10 ∷ new_epoch ∷ export (bytes_of left) (zeros 2) 0 0 (up_to 1 0) 5 ∷ []

abbrev pub to_token : List Function
to_token = to_pause ++ earning

-- the rehearsal of some calls, `chirp_new` being accepted
abbrev pub moved : accepted (new_left session table 3) ≡ true → (calls : List Function) → AllOperands calls → Rehearsal
moved new calls operands = record { session = session; table = table; streams = 3; new = new; calls = calls; operands = operands }

pub record Met : Type 0 where
  pub new : accepted (new_left session table 3) ≡ true
  pub paused : AllOperands to_pause
  pub stopped : Paused (at_end (moved new to_pause paused))
  pub operands : AllOperands to_token
  pub token : granted (at_end (moved new to_token operands)) ≡ true
  pub log : (at_end (moved new to_token operands)).log ≡ sent
  pub order : Order (at_end (moved new to_token operands)).log reordered
  -- a call that the engine plays, and one that the C side refuses
  pub played : is_played track ≡ true
  pub refused : is_played no_list ≡ false
  pub lent : Operands no_list
  -- a call with words
  pub words : WordsIn (call.OnPage 0 (move.Write 7)) (new_session 4 3) (replicate 8 0) [] []
