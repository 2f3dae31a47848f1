-- What a driver does with a paused guest, in C functions on bytes: reset, DCHECKs until one answers 3, a new epoch, and the lists exported, each in one call.
use Rattle.std.specs.Prelude.{◌≡◌, Bool, cond, List, [], map, ℕ, zero, suc, ◌-◌, ◌*◌, ◌/◌, ◌<◌, eqb, length, get_or, take, drop, replicate}
use Rattle.words.specs.Codes as codes
use Rattle.words.specs.Info.{info_word}
use Rattle.session.specs.Session.{stream_places}
use Rattle.session.specs.Formed.{most_entries, last_epoch, within}
use Rattle.history.specs.Earning.{most_lists, with_list}
use Rattle.wire.specs.Bytes.{words_of}
use Rattle.wire.specs.Sessions.{stream_place}
use Rattle.host.specs.Host.{Left}
use Rattle.rehearsal.specs.Rehearsal.{Function, new_epoch, reset, start_token, dcheck, export, accepted, epoch_word, Host, left_in, after, run}

-- `chirp_start_token`, called now, is granted
abbrev pub granted : Host → Bool
granted h = accepted (left_in h start_token)

-- Blackout, no stream interrupted, and the migration epoch below its limit: words of the session's bytes
pub record Paused (h : Host) : Type 0 where
  pub phase : get_or (words_of h.session) 0 0 ≡ 2
  pub rest : (i : ℕ) → i < stream_places → get_or (words_of h.session) (stream_place i) 0 ≡ 0
  pub epoch : epoch_word h.session < last_epoch

-- ---- the check

-- a DCHECK with 4,096 bytes of zeros for a list, and a budget of 512
abbrev pub asking : Function
asking = dcheck (replicate (8 * most_entries) 0) most_entries

-- the bytes of the entries that it wrote, by the first and the last one that it answers with 1, 2 or 3; an empty list answers 511 and 0
abbrev pub entry_bytes : Left → List ℕ
entry_bytes left =
    cond (within codes.interrupted codes.check_complete left.answer.code)
    (take (8 * (suc left.answer.last - left.answer.first)) (drop (8 * left.answer.first) left.list))
    []

pub record Checked : Type 0 where
  pub host : Host
  pub lists : List (List ℕ)

-- one DCHECK after the other until one answers 3, n at most, and the lists that they gave but for empty ones, in bytes
abbrev pub checked : Host → ℕ → Checked
checked h zero = record { host = h; lists = [] }
checked h (suc n) =
    let left = left_in h asking in
    let g = after h asking in
    let rest = cond (eqb left.answer.code codes.check_complete) (record { host = g; lists = [] }) (checked g n) in
    record { host = rest.host; lists = with_list (entry_bytes left) rest.lists }

-- a reset, and then the DCHECKs, eight at most
abbrev pub check : Host → Checked
check h = checked (after h reset) most_lists

-- ---- the lists

-- a list's bytes on the first stream, with a buffer of zeros, from FIRST 0 to LAST, its last entry, and a budget of its length
abbrev pub exporting : List ℕ → Function
exporting l =
    let entries = length l / 8 in
    export l (replicate (length l) 0) 0 0 (info_word (record { format = 0; first = 0; hpa = 0; zero52 = 0; last = entries - 1 })) entries

-- a new epoch behind the check, and each list
abbrev pub driven : Host → Host
driven h = run (after (check h).host new_epoch) (map exporting (check h).lists)
