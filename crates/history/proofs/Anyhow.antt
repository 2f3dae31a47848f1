-- Any calls of export, in Blackout: a call takes from what waits the pages that the words that it took name, and a refused one takes none. Where the calls
-- together took every entry of the lists that are left, nothing waits behind the last one.
use mathlib.Core.Path.{◌≡◌, sym, ◌∙◌, subst}
use mathlib.Core.Logic.{inl, inr, ⊎_elim}
use mathlib.Core.Bool.{true, false}
use mathlib.Core.List.Memᴰ
use mathlib.Core.List.{List, [], ◌∷◌, ◌++◌, Memᴰ}
use Prim.Native.Nat.{ℕ, ◌+◌, ◌-◌, ◌≤◌, ◌<◌}
use native.Mathlib.Omega.{arith}
use lib.Dec.{eqb}
use lib.ListN.{length, get_or, take, drop, length-take}
use lib.Seq.{get_or-take, get_or-drop}
use borrow.Author.Tests.{eqb-true}
use Rattle.words.specs.Info.{info_of}
use Rattle.refusals.proofs.Laws.{either}
use Rattle.table.specs.Table.{page_count, page_at}
use Rattle.session.specs.Session.{with_streams}
use Rattle.session.specs.Formed.{formed, busy}
use Rattle.session.specs.declared.Phase.TheVariants.{Blackout}
use Rattle.session.specs.declared.Session.{Session}
use Rattle.session.specs.declared.streams.Stream.{Stream}
use Rattle.session.proofs.FormedLaws.{busy-means}
use Rattle.migration.proofs.Grant.{resting-is, granted-exactly}
use Rattle.lists.specs.Run.{Standing}
use Rattle.export.specs.Export.{export_code, ExportOutcome, refused_export, ran_export, export_out}
use Rattle.export.proofs.Moves.{exported}
use Rattle.calls.specs.Calls.{export_numbers}
use Rattle.history.specs.History.{World, came_to, after}
use Rattle.history.specs.Earning.{granted, Exporting, exporting, exporting_all, took, took_all}
use Rattle.history.proofs.Formed.{formed-after}
use Rattle.history.proofs.Exports.{ran-came, none_came, finished-streams}
use Rattle.history.proofs.Waiting.{Names, Listed, Left, Named}
use Rattle.history.proofs.Ahead.{Ahead, Waits, waits-map, place_of, none_ahead, Along, call_along}

-- paused and checked, with some words left to take
record Until (s : Session) (t : List ℕ) (words : List ℕ) : Type 0 where
  formed : formed s (length t) ≡ true
  phase : s.phase ≡ Blackout
  complete : s.check.complete ≡ true
  pages : (i : ℕ) → i < page_count t → Waits (Named words i) s.epoch (page_at t i)

-- a word among those from `first` on, before `to`
place-between : (l : List ℕ) (first to word : ℕ) → Memᴰ word (take (to - first) (drop first l)) → (j : ℕ) × (first ≤ j) × (j < to) × (get_or l j 0 ≡ word)
place-between l first to word m =
    let at = place_of word (take (to - first) (drop first l)) m in
    let low : at.0 < to - first = omega (arith, at.1, length-take (to - first) (drop first l)) in
    (first + at.0, omega arith, omega (arith, low), sym (get_or-drop first l at.0 0) ∙ sym (get_or-take (to - first) (drop first l) at.0 0 low) ∙ at.2)

named-ahead : (l : List ℕ) (first to : ℕ) (words : List ℕ) (i : ℕ) → Named (take (to - first) (drop first l) ++ words) i → Ahead l first to (Named words) i
named-ahead l first to words i x =
    ⊎_elim
    (λ m. let at = place-between l first to x.0 m in inl (at.0, at.1, at.2, subst (λ (word : ℕ). Names word i) (sym at.3) x.2))
    (λ m. inr (x.0, m, x.2))
    (Memᴰ.append_cases (take (to - first) (drop first l)) x.1)

-- ---- one call

module _ (w : World) (x : Exporting) (words : List ℕ) where
  abbrev s : Session
  s = w.session

  abbrev t : List ℕ
  t = w.table

  abbrev code : ℕ
  code = export_code s (length t) (length x.list) (length x.buffer) x.stream x.resume (info_of x.info)

  abbrev ran : Standing
  ran = exported s t x.list x.buffer x.stream x.info x.budget

  -- what was waited for before the call, where it came to some entry
  abbrev Before : ℕ → Type 0
  Before to = Until s t (take (to - (info_of x.info).first) (drop (info_of x.info).first x.list) ++ words)

  ran-until : code ≡ 0 → Before ran.at.next → (streams : List Stream) → formed (with_streams s streams) (length ran.table) ≡ true →
      Until (with_streams s streams) ran.table words
  ran-until e k streams f =
      let first = (info_of x.info).first in
      let to = ran.at.next in
      let along : Along s.epoch (Named words) (length t) (length x.list) to ran
      = call_along s t x.list x.buffer x.stream x.resume x.info x.budget (Named words) to k.phase e
      (λ i h. waits-map s.epoch (page_at t i) (named-ahead x.list first to words i) (k.pages i h)) in
      record {
        formed = f;
        phase = k.phase;
        complete = k.complete;
        pages = λ i h. waits-map s.epoch (page_at ran.table i) (none_ahead ran.list to to (Named words) i (omega arith))
            (along.waits i (rw along.table at h));
      }

  abbrev Then : ExportOutcome → Type 0
  Then o =
      Before (came_to x.info (export_numbers o.answer)) → formed o.answer.session (length o.table) ≡ true →
      Until o.answer.session o.table words

  ran_then : code ≡ 0 → Then (ran_export s x.stream (info_of x.info) ran)
  ran_then e k =
      finished-streams (λ (s' : Session). formed s' (length ran.table) ≡ true → Until s' ran.table words) s x.stream (info_of x.info) ran.at
      (ran-until e (rw (ran-came s t x.list x.buffer x.stream x.resume x.info x.budget e) at k))

  refused-then : eqb code 0 ≡ false → Then (refused_export code s t x.list x.buffer)
  refused-then e k f = rw (none_came x.info code s e) at k

  out-then : Then (export_out s t x.list x.buffer x.stream x.resume x.info x.budget)
  unfolding export_out
  out-then = either Then (eqb code 0) (λ e. ran_then (eqb-true _ _ e)) refused-then

  call-until : Until s t (took w x ++ words) → Until (after w (exporting x)).session (after w (exporting x)).table words
  call-until k = out-then k (formed-after w (exporting x) k.formed)

-- ---- all calls

calls-until : (w : World) (xs : List Exporting) → Until w.session w.table (took_all w xs) →
    Until (exporting_all w xs).session (exporting_all w xs).table []
calls-until w [] k = k
calls-until w (x ∷ xs) k =
    calls-until (after w (exporting x)) xs (call-until w x (took_all (after w (exporting x)) xs) k)

pub left-anyhow : (w : World) (n : ℕ) (ls : List (List ℕ)) (xs : List Exporting) → Left w n ls →
    ((l : List ℕ) → Memᴰ l ls → (word : ℕ) → Memᴰ word l → Memᴰ word (took_all w xs)) → busy (exporting_all w xs).session ≡ false →
    granted (exporting_all w xs) ≡ true
left-anyhow w n ls xs k all rest =
    let end = calls-until w xs
    (record {
      formed = k.formed;
      phase = k.phase;
      complete = k.complete;
      pages = λ i h. waits-map w.session.epoch (page_at w.table i) (λ (y : Listed ls i). (y.2.0, all y.0 y.1 y.2.0 y.2.1, y.2.2))
          (k.pages i h);
    }) in
    rw (granted-exactly.whenever (exporting_all w xs).session (exporting_all w xs).table end.formed
    (record {
      paused = end.phase;
      rest = λ i h. resting-is _ (busy-means (exporting_all w xs).session rest i h);
      complete = end.complete;
      ready = λ i h. ⊎_elim (λ r. r) (λ y. absurd (Memᴰ.not-nil y.2.1)) (end.pages i h);
    }))
