-- What a driver does with a paused guest: reset, DCHECKs until one answers 3, a new epoch, and the lists exported, one after the other or in any other way.
use Rattle.std.specs.Prelude.{◌≡◌, Bool, true, false, cond, ℕ, zero, suc, ◌+◌, ◌-◌, ◌/◌, ◌^◌, min, ◌≤◌, ◌<◌, length, take, drop, replicate, eqb}
use mathlib.Core.List.{List, [], ◌∷◌, ◌++◌, map, Memᴰ, Permᴰ}
use Rattle.words.specs.Codes as codes
use Rattle.words.specs.Info.{info_of, info_word}
use Rattle.table.specs.Table.{most_pages}
use Rattle.session.specs.Formed.{most_entries, last_epoch, within, busy}
use Rattle.session.specs.declared.Phase.TheVariants.{Blackout}
use Rattle.migration.specs.declared.Alone.TheVariants.{NewEpoch, Reset}
use Rattle.calls.specs.Calls.{Effect}
use Rattle.calls.specs.declared.Call.TheVariants.{OnSession, StartToken, Dcheck, Export}
use Rattle.history.specs.History.{Given, given, World, effect_in, accepted, came_to, after}

-- the token, asked for now, is granted
abbrev pub granted : World → Bool
granted w = accepted (effect_in w (given StartToken [] []))

-- paused, with streams at rest and the migration epoch below its limit
pub record Paused (w : World) : Type 0 where
  pub phase : w.session.phase ≡ Blackout
  pub rest : busy w.session ≡ false
  pub epoch : w.session.epoch < last_epoch

abbrev pub reset : World → World
reset w = after w (given (OnSession Reset) [] [])

abbrev pub next_epoch : World → World
next_epoch w = after w (given (OnSession NewEpoch) [] [])

-- ---- the check

-- one DCHECK: the list that is lent, with any words in it, and the budget
pub record Ask : Type 0 where
  pub list : List ℕ
  pub budget : ℕ

-- room for 1 to 512 entries and a budget of at least 1
pub record Fair (a : Ask) : Type 0 where
  pub some : 1 ≤ length a.list
  pub most : length a.list ≤ most_entries
  pub budget : 1 ≤ a.budget

-- room for 512 entries and a budget of at least 512, or of every page if these are fewer
pub record Full (pages : ℕ) (a : Ask) : Type 0 where
  pub room : length a.list ≡ most_entries
  pub budget : min pages most_entries ≤ a.budget

-- every ask is of a kind
abbrev pub All : (Ask → Type 0) → List Ask → Type 0
All P asks = (a : Ask) → Memᴰ a asks → P a

-- the entries that a DCHECK wrote, by the first and the last one that it answers with 1, 2 or 3; an empty list answers 511 and 0
abbrev pub entries_of : Effect → List ℕ
entries_of e =
    cond (within codes.interrupted codes.check_complete e.returned.code)
    (take (suc e.returned.last - e.returned.first) (drop e.returned.first e.list))
    []

-- the bench refuses a list of no entries, so a driver keeps none
abbrev pub with_list : List ℕ → List (List ℕ) → List (List ℕ)
with_list [] ls = ls
with_list (x ∷ l) ls = (x ∷ l) ∷ ls

pub record Checked : Type 0 where
  pub world : World
  pub lists : List (List ℕ)

abbrev pub asking : Ask → Given
asking a = given (Dcheck a.budget) a.list []

-- one DCHECK after the other until one answers 3, and the lists that they gave
abbrev pub checked : World → List Ask → Checked
checked w [] = record { world = w; lists = [] }
checked w (a ∷ l) =
    let e = effect_in w (asking a) in
    let v = after w (asking a) in
    let rest = cond (eqb e.returned.code codes.check_complete) (record { world = v; lists = [] }) (checked v l) in
    record { world = rest.world; lists = with_list (entries_of e) rest.lists }

-- a reset, and then the DCHECKs
abbrev pub check : World → List Ask → Checked
check w asks = checked (reset w) asks

-- run to its end
abbrev pub complete : World → Bool
complete w = w.session.check.complete

-- as many lists of 512 as the largest guest can fill: eight
abbrev pub most_lists : ℕ
most_lists = most_pages / most_entries

-- eight DCHECKs with rooms and budgets of 512, which are enough for every guest
abbrev pub full_asks : List Ask
full_asks = replicate most_lists (record { list = replicate most_entries 0; budget = most_entries })

-- after the check, a new epoch
abbrev pub prepared : World → List Ask → World
prepared w asks = next_epoch (check w asks).world

-- ---- the lists, cut anew

-- their entries, one list's behind the other's
abbrev pub joined : List (List ℕ) → List ℕ
joined [] = []
joined (l ∷ ls) = l ++ joined ls

-- some entries, as many more and so on, at most n times; the last list may be shorter, and none is empty
abbrev pub cut_into : ℕ → ℕ → List ℕ → List (List ℕ)
cut_into size zero l = []
cut_into size (suc n) l = with_list (take size l) (cut_into size n (drop size l))

-- lists of 512 entries: each takes one at least, so there are no more of them than entries
abbrev pub cut_anew : List (List ℕ) → List (List ℕ)
cut_anew ls = cut_into most_entries (length (joined ls)) (joined ls)

-- ---- the lists, one after the other

-- how a list is exported: on which stream, with which buffer and HPA, and the budgets of the first call and of each that resumes it
pub record Sending : Type 0 where
  pub list : List ℕ
  pub buffer : List ℕ
  pub stream : ℕ
  pub hpa : ℕ
  pub budgets : List ℕ

abbrev pub total : List ℕ → ℕ
total [] = 0
total (n ∷ l) = n + total l

-- a usable stream, a buffer of the list's length, and budgets that come to the list's end
pub record Whole (w : World) (x : Sending) : Type 0 where
  pub usable : x.stream + 1 < w.session.fixed.created
  pub buffer : length x.buffer ≡ length x.list
  pub hpa : x.hpa < 2 ^ 40
  pub budgets : length x.list ≤ total x.budgets

-- from FIRST 0 to LAST, the last entry of the list
abbrev pub first_info : Sending → ℕ
first_info x = info_word (record { format = 0; first = 0; hpa = x.hpa; zero52 = 0; last = length x.list - 1 })

-- an export, and while it answers 1 a call that resumes it with the info, the list and the buffer as they came back
abbrev pub exported : World → ℕ → Bool → ℕ → List ℕ → List ℕ → List ℕ → World
exported w stream resume info l b [] = w
exported w stream resume info l b (n ∷ budgets) =
    let g = given (Export stream resume info n) l b in
    let e = effect_in w g in
    cond (eqb e.returned.code codes.interrupted) (exported (after w g) stream true e.returned.info e.list e.buffer budgets) (after w g)

abbrev pub sending : World → Sending → World
sending w x = exported w x.stream false (first_info x) x.list x.buffer x.budgets

abbrev pub sending_all : World → List Sending → World
sending_all w [] = w
sending_all w (x ∷ l) = sending_all (sending w x) l

-- the lists in any order, each exported to its end
pub record Plan (w : World) (lists : List (List ℕ)) (xs : List Sending) : Type 0 where
  pub same : Permᴰ lists (map (λ (x : Sending). x.list) xs)
  pub whole : (x : Sending) → Memᴰ x xs → Whole w x

-- a list on the first stream, in one call
abbrev pub at_once : List ℕ → Sending
at_once l = record { list = l; buffer = replicate (length l) 0; stream = 0; hpa = 0; budgets = length l ∷ [] }

-- ---- or by any calls of export: lists cut anew, streams by turns, whatever else beside

pub record Exporting : Type 0 where
  pub stream : ℕ
  pub resume : Bool
  pub info : ℕ
  pub budget : ℕ
  pub list : List ℕ
  pub buffer : List ℕ

abbrev pub exporting : Exporting → Given
exporting x = given (Export x.stream x.resume x.info x.budget) x.list x.buffer

abbrev pub exporting_all : World → List Exporting → World
exporting_all w [] = w
exporting_all w (x ∷ l) = exporting_all (after w (exporting x)) l

-- the words that a call took, as they were lent to it: from FIRST as it was given to where it came
abbrev pub took : World → Exporting → List ℕ
took w x =
    let first = (info_of x.info).first in
    take (came_to x.info (effect_in w (exporting x)).returned - first) (drop first x.list)

abbrev pub took_all : World → List Exporting → List ℕ
took_all w [] = []
took_all w (x ∷ l) = took w x ++ took_all (after w (exporting x)) l

-- every entry of some lists is among them
abbrev pub TookEvery : World → List (List ℕ) → List Exporting → Type 0
TookEvery w lists xs = (l : List ℕ) → Memᴰ l lists → (word : ℕ) → Memᴰ word l → Memᴰ word (took_all w xs)
