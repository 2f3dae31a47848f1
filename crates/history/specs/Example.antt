-- A guest of four pages, moved while it runs, after a migration that was aborted: whatever the promises ask for is met by it.
use Rattle.std.specs.Prelude.{◌≡◌, Bool, true, false, List, [], ◌∷◌, ◌++◌, map, ℕ, ◌+◌, ◌*◌, ◌^◌, ◌≤◌, length, replicate}
use Rattle.words.specs.Codes as codes
use Rattle.page.specs.declared.moves.Move.{Move}
use Rattle.page.specs.declared.moves.Move.TheVariants.{Write, Add, Accept, Block, Remove}
use Rattle.page.specs.declared.sweeps.Sweep.{Sweep}
use Rattle.page.specs.declared.sweeps.Sweep.TheVariants.{Track, Start, Pause}
use Rattle.session.specs.Session.{new_session}
use Rattle.session.specs.declared.Session.{Session}
use Rattle.migration.specs.declared.Alone.{Alone}
use Rattle.migration.specs.declared.Alone.TheVariants.{NewEpoch, Reset, Abort}
use Rattle.calls.specs.declared.Call.{Call}
use Rattle.calls.specs.declared.Call.TheVariants.{OnPage, OnAll, OnSession, StartToken, Dscan, Dcheck, Export, Restore}
use Rattle.bundle.specs.Bundle.{Operation, migrate, cancel, remigrate, Sent, Order}
use Rattle.history.specs.History.{Given, given, effect_in, accepted, new_effect, History, at_end}
use Rattle.table.specs.Table.{page_count}
use Rattle.session.specs.Formed.{busy, most_entries}
use Rattle.history.specs.Earning.{granted, Paused, Ask, Fair, Full, All, check, complete, most_lists, prepared, cut_anew}
use Rattle.history.specs.Earning.{Sending, sending_all, Plan, at_once, Exporting, exporting_all, TookEvery}

-- whatever was there before
abbrev pub before : Session
before = new_session 0 0

abbrev pub words : List ℕ
words = replicate 8 7

-- a call without lists
abbrev plain : Call → Given
plain c = given c [] []

abbrev on : ℕ → Move → Given
on page m = plain (OnPage page m)

abbrev on_every : Sweep → Given
on_every k = plain (OnAll k)

abbrev on_none : Alone → Given
on_none k = plain (OnSession k)

-- LAST and FIRST of an info word
abbrev pub up_to : ℕ → ℕ → ℕ
up_to last first = last * 2 ^ 55 + first * 8

-- what the scan lists: pages 0 and 1, and 2, which is pending
abbrev pub scanned : List ℕ
scanned = 0x0010000000000000 ∷ 0x0010000000001000 ∷ 0x0010000000002004 ∷ []

-- two pages are the guest's and one is pending; they are exported, and then the migration is aborted and page 0 written
abbrev pub to_abort : List Given
to_abort =
    on 0 Add
    ∷ on 0 Accept
    ∷ on 0 (Write 7)
    ∷ on 1 Add
    ∷ on 1 Accept
    ∷ on 1 (Write 8)
    ∷ on 2 Add
    ∷ on_every Start
    ∷ given (Dscan 0 4 10) (replicate 4 0) []
    ∷ on_every Track
    ∷ given (Export 0 false (up_to 2 0) 5) scanned (replicate 3 0)
    ∷ on_none Abort
    ∷ on 0 (Write 6)
    ∷ []

-- a start now, and RESTORE of the list that was exported, in two calls
abbrev pub again : Given
again = on_every Start

abbrev pub restoring : Given
restoring = given (Restore (up_to 2 0) 1) scanned []

abbrev pub restoring_on : Given
restoring_on = given (Restore (up_to 2 1) 5) scanned []

-- the second start; the scan comes, and then page 0 is written, unseen; after a track the list is exported, in two calls; then page 1 is written again and
-- page 0 removed
abbrev pub live : List Given
live =
    to_abort
    ++ restoring
    ∷ restoring_on
    ∷ again
    ∷ given (Dscan 0 4 10) (replicate 4 0) []
    ∷ on 0 (Write 9)
    ∷ on_every Track
    ∷ given (Export 0 false (up_to 2 0) 2) scanned (replicate 3 0)
    ∷ given (Export 0 true (up_to 2 2) 5) scanned (replicate 3 0)
    ∷ on 1 (Write 5)
    ∷ on 0 Block
    ∷ on_every Track
    ∷ on 0 Remove
    ∷ []

-- paused; a token that is asked for at once is refused
abbrev pub to_pause : List Given
to_pause = live ++ (on_every Pause ∷ plain StartToken ∷ [])

-- what the check lists: page 0, removed, and page 1, written
abbrev pub left : List ℕ
left = 0x0010000000000018 ∷ 0x0010000000001008 ∷ []

-- and its entries sent in a new epoch
abbrev pub to_token : List Given
to_token =
    to_pause
    ++ (on_none Reset ∷ given (Dcheck 10) (replicate 4 0) [] ∷ on_none NewEpoch ∷ given (Export 0 false (up_to 1 0) 5) left (replicate 2 0) ∷ [])

-- what was sent: the list in epoch 1, and what was left of it in epoch 2
abbrev sent_first : ℕ → Bool → ℕ → Sent
sent_first page pending contents = record { epoch = 1; page = page; operation = migrate; pending = pending; contents = contents }

abbrev sent_last : ℕ → Operation → ℕ → Sent
sent_last page operation contents = record { epoch = 2; page = page; operation = operation; pending = false; contents = contents }

abbrev rest : List Sent
rest = sent_first 2 true 0 ∷ sent_last 0 cancel 0 ∷ sent_last 1 remigrate 5 ∷ []

abbrev pub sent : List Sent
sent = sent_first 0 false 9 ∷ sent_first 1 false 8 ∷ rest

-- two entries of epoch 1 the other way round
abbrev pub reordered : List Sent
reordered = sent_first 1 false 8 ∷ sent_first 0 false 9 ∷ rest

-- ---- what is met

-- the history of some calls, New being accepted
abbrev pub moved : accepted (new_effect before words 3) ≡ true → List Given → History
moved new calls = record { session = before; words = words; created = 3; new = new; calls = calls }

-- a driver's way from the pause to the token
abbrev pub asks : List Ask
asks = replicate most_lists (record { list = replicate most_entries 7; budget = 4 })

-- or a page at a time, with room for one entry
abbrev pub small_asks : List Ask
small_asks = replicate 4 (record { list = 7 ∷ []; budget = 1 })

abbrev pub sendings : List Sending
sendings = record { list = left; buffer = replicate 2 0; stream = 1; hpa = 5; budgets = 1 ∷ 0 ∷ 1 ∷ [] } ∷ []

-- or its two entries in lists of their own, on two streams by turns
abbrev pub alone : ℕ → ℕ → Bool → ℕ → Exporting
alone word stream resume budget =
    record { stream = stream; resume = resume; info = up_to 0 0; budget = budget; list = word ∷ []; buffer = 0 ∷ [] }

abbrev pub by_turns : List Exporting
by_turns = alone 0x0010000000000018 0 false 0 ∷ alone 0x0010000000001008 1 false 5 ∷ alone 0x0010000000000018 0 true 5 ∷ []

pub record Met : Type 0 where
  pub new : accepted (new_effect before words 3) ≡ true
  pub unready : (effect_in (at_end (moved new to_abort)) again).returned.code ≡ codes.ept_entry_state_incorrect
  pub interrupted : (effect_in (at_end (moved new to_abort)) restoring).returned.code ≡ codes.interrupted
  pub restored : accepted (effect_in (at_end (moved new (to_abort ++ (restoring ∷ [])))) restoring_on) ≡ true
  pub ready : accepted (effect_in (at_end (moved new (to_abort ++ (restoring ∷ restoring_on ∷ [])))) again) ≡ true
  pub token : granted (at_end (moved new to_token)) ≡ true
  pub log : (at_end (moved new to_token)).log ≡ sent
  pub order : Order (at_end (moved new to_token)).log reordered
  pub stopped : Paused (at_end (moved new to_pause))
  pub fair : All Fair asks
  pub enough : page_count (at_end (moved new to_pause)).table ≤ length asks
  pub full : All (Full (page_count (at_end (moved new to_pause)).table)) asks
  pub eight : length asks ≡ 8
  pub ended : complete (check (at_end (moved new to_pause)) asks).world ≡ true
  pub plan : Plan (at_end (moved new to_pause)) (check (at_end (moved new to_pause)) asks).lists sendings
  pub earned : granted (sending_all (prepared (at_end (moved new to_pause)) asks) sendings) ≡ true
  pub taken : TookEvery (prepared (at_end (moved new to_pause)) asks) (check (at_end (moved new to_pause)) asks).lists by_turns
  pub rests : busy (exporting_all (prepared (at_end (moved new to_pause)) asks) by_turns).session ≡ false
  pub anyhow : granted (exporting_all (prepared (at_end (moved new to_pause)) asks) by_turns) ≡ true
  pub small : All Fair small_asks
  pub reach : page_count (at_end (moved new to_pause)).table ≤ length small_asks
  pub slow : complete (check (at_end (moved new to_pause)) small_asks).world ≡ true
  pub cut : cut_anew (check (at_end (moved new to_pause)) small_asks).lists ≡ left ∷ []
  pub anew : granted (sending_all (prepared (at_end (moved new to_pause)) small_asks) (map at_once (left ∷ []))) ≡ true
