-- The rehearsal plays the history of `history`'s example, call by call as the bytes compute, so what is met there is met here.
use mathlib.Core.Path.{◌≡◌, refl, sym, ap, ap₂, subst, ◌∙◌}
use mathlib.Core.Bool.{true}
use mathlib.Core.List.{List, [], ◌∷◌, ◌++◌}
use lib.Dec.{lit<}
use Rattle.table.specs.Table.{legal}
use Rattle.session.specs.Session.{new_session}
use Rattle.session.specs.Formed.{formed, busy}
use Rattle.session.specs.Outcome.{answered}
use Rattle.memory.specs.Memory.{new_code, new_out}
use Rattle.bundle.specs.Bundle.{Sent, Order}
use Rattle.history.specs.History as history
use Rattle.history.specs.Earning as earning
use Rattle.history.specs.Example as before
use Rattle.history.proofs.Example as computed
use Rattle.wire.specs.Bytes.{word_at, words_of}
use Rattle.wire.proofs.Promises.{reads-back, zeros-bytes}
use Rattle.host.specs.Host.{played, host_of}
use Rattle.chirpsteeple.specs.Functions.{new_left}
use Rattle.rehearsal.specs.Rehearsal.{Function, accepted, AllOperands, at_end}
use Rattle.rehearsal.specs.Promises.{played_by, unread}
use Rattle.rehearsal.specs.Example.{session, table, to_abort, again, live, paused, to_pause, earning, to_token, moved, Met}
use Rattle.rehearsal.proofs.Words.{zero-words, bytes-bytes}
use Rattle.rehearsal.proofs.Plays.{playing, end-tied, granted-same}
use Rattle.rehearsal.proofs.Paused.{there-paused}

new-accepted : accepted (new_left session table 3) ≡ true
unfolding host_of played new_out new_code answered legal words_of
new-accepted = refl

-- ---- the operands

-- of calls one after the other
both : (l m : List Function) → AllOperands l → AllOperands m → AllOperands (l ++ m)
both [] m a b = b
both (f ∷ l) m a b = (a.0, both l m a.1 b)

abort-operands : AllOperands to_abort
abort-operands = search (lit<, bytes-bytes, zeros-bytes)

again-operands : AllOperands again
again-operands = search (lit<, bytes-bytes, zeros-bytes)

paused-operands : AllOperands paused
paused-operands = search (lit<, bytes-bytes, zeros-bytes)

earning-operands : AllOperands earning
earning-operands = search (lit<, bytes-bytes, zeros-bytes)

pause-operands : AllOperands to_pause
pause-operands = both live paused (both to_abort again abort-operands again-operands) paused-operands

token-operands : AllOperands to_token
token-operands = both to_pause earning pause-operands earning-operands

-- ---- the history

calls-pause : played_by to_pause ≡ before.to_pause
unfolding words_of word_at
calls-pause = refl

calls-token : played_by to_token ≡ before.to_token
unfolding words_of word_at
calls-token = refl

new-same : history.new_world unread (words_of table) 3 ≡ history.new_world before.before before.words 3
unfolding new_out new_code answered legal words_of
new-same = refl

paused-same : history.at_end (playing (moved new-accepted to_pause pause-operands)) ≡ history.at_end (before.moved (computed.met).new before.to_pause)
paused-same = ap₂ history.run new-same calls-pause

token-same : history.at_end (playing (moved new-accepted to_token token-operands)) ≡ history.at_end (before.moved (computed.met).new before.to_token)
token-same = ap₂ history.run new-same calls-token

-- ---- what is met

pub met : Met
unfolding formed busy legal
met =
    let stopped = moved new-accepted to_pause pause-operands in
    let ended = moved new-accepted to_token token-operands in
    let log = (end-tied ended).log ∙ ap (λ (w : history.World). w.log) token-same in
    record {
      new = new-accepted;
      paused = pause-operands;
      stopped = there-paused (at_end stopped) _ (end-tied stopped) (subst earning.Paused (sym paused-same) (computed.met).stopped);
      operands = token-operands;
      token = granted-same (at_end ended) _ (end-tied ended) ∙ ap earning.granted token-same ∙ (computed.met).token;
      log = log ∙ (computed.met).log;
      order = subst (λ (l : List Sent). Order l before.reordered) (sym log) (computed.met).order;
      played = refl;
      refused = refl;
      lent = (zeros-bytes 7, lit< tt);
      words = record {
        call = (lit< tt, lit< tt);
        session = record { numbers = reads-back.formed (new_session 4 3) 8 refl; streams = refl };
        table = zero-words 8;
        list = zero-words 0;
        buffer = zero-words 0;
      };
    }
