-- The first half of liveness, from a paused world to the lists that are left: what a DCHECK keeps of session, table and lists holds along all of them, whatever
-- their lists and budgets. Where the check is complete every page lies below its place, and a new epoch is later than every page's own.
use mathlib.Core.Path.{◌≡◌, refl, ap}
use mathlib.Core.Logic.{inl, inr, ⊎_elim}
use mathlib.Core.Bool.{true, false}
use mathlib.Core.List.Memᴰ
use mathlib.Core.List.{List, [], ◌∷◌, ◌++◌, append-nil, append_assoc, Memᴰ}
use Prim.Native.Nat.{ℕ, zero, suc, ◌+◌, ◌*◌, ◌≤◌, ◌<◌}
use native.Mathlib.Omega.{arith}
use native.Mathlib.Nat.{zero-mul, suc-mul, mul-one}
use lib.Dec.{eqb}
use lib.ListN.{length}
use borrow.Author.Tests.{lt-leb}
use Rattle.words.specs.Codes as codes
use Rattle.refusals.proofs.Laws.{either}
use Rattle.table.specs.Table.{page_count, page_at}
use Rattle.session.specs.Session.{among, moving, stream_places, unchecked, with_epoch, with_check}
use Rattle.session.specs.Formed.{formed, busy, most_entries, last_epoch}
use Rattle.session.specs.Outcome.{outcome}
use Rattle.session.specs.declared.Phase.TheVariants.{Blackout}
use Rattle.session.specs.declared.Session.{Session}
use Rattle.session.proofs.FormedLaws.{formed-means}
use Rattle.migration.specs.Migration.{on_session}
use Rattle.migration.specs.declared.Alone.TheVariants.{NewEpoch, Reset}
use Rattle.migration.proofs.Laws.{alone-done}
use Rattle.scan.specs.Scan.{dcheck_out}
use Rattle.calls.specs.declared.Call.TheVariants.{OnSession}
use Rattle.history.specs.History.{given, World, effect_in, after}
use Rattle.history.specs.Earning.{Paused, reset, next_epoch, Ask, Fair, Full, entries_of, with_list, Checked, asking, checked, complete, most_lists}
use Rattle.history.specs.Earning.{joined, cut_anew}
use Rattle.history.proofs.Pages.{moment_of, while-has}
use Rattle.history.proofs.Sessions.{not-idle}
use Rattle.history.proofs.Formed.{formed-after, streams-after}
use Rattle.history.proofs.Sound.{Sound, sound-after, sound-ok}
use Rattle.history.proofs.Waiting.{Left}
use Rattle.history.proofs.Cut.{with_append, with-few, anew-few}
use Rattle.history.proofs.Looks.{Calm, paused-calm}
use Rattle.history.proofs.Dchecks.{Between, GetsOn, dcheck-between, dcheck-gets-on}

-- ---- between two DCHECKs

-- what holds of the world there
record Mid (w : World) (n c : ℕ) (ls : List (List ℕ)) : Type 0 where
  sound : Sound w
  formed : formed w.session (length w.table) ≡ true
  between : Between w.session w.table n c ls

mid-calm : (w : World) (n c : ℕ) (ls : List (List ℕ)) → Mid w n c ls → (k : ℕ) → k < page_count w.table → Calm (page_at w.table k)
mid-calm w n c ls m k l =
    let x = sound-ok w m.sound k l in
    paused-calm (moment_of w.session) (page_at w.table k) x.0 m.between.phase x.1

asked-mid : (w : World) (n c : ℕ) (ls : List (List ℕ)) (a : Ask) → Mid w n c ls →
    Mid (after w (asking a)) n c (ls ++ with_list (entries_of (effect_in w (asking a))) [])
asked-mid w n c ls a m =
    record {
      sound = sound-after w (asking a) m.sound;
      formed = formed-after w (asking a) m.formed;
      between = dcheck-between w.session w.table a.list a.budget m.formed (mid-calm w n c ls m) n c ls m.between;
    }

checked-mid : (asks : List Ask) (w : World) (n c : ℕ) (ls : List (List ℕ)) → Mid w n c ls → Mid (checked w asks).world n c (ls ++ (checked w asks).lists)
checked-mid [] w n c ls m = rw (append-nil ls) m
checked-mid (a ∷ l) w n c ls m =
    let e = effect_in w (asking a) in
    let v = after w (asking a) in
    let next = asked-mid w n c ls a m in
    let rest = checked-mid l v n c (ls ++ with_list (entries_of e) []) next in
    either (λ (r : Checked). Mid r.world n c (ls ++ with_list (entries_of e) r.lists)) (eqb e.returned.code codes.check_complete)
    (λ z. next)
    (λ z. rw (with_append (entries_of e) (checked v l).lists, ← append_assoc ls (with_list (entries_of e) []) (checked v l).lists) rest)

-- ---- to the end

-- a list and a budget with which a DCHECK of n pages gets on by d of them
record Enough (d n : ℕ) (a : Ask) : Type 0 where
  room : d ≤ length a.list
  most : length a.list ≤ most_entries
  spent : (i : ℕ) → a.budget ≤ i → i < n → d ≤ i

to_end : (d : ℕ) (asks : List Ask) (w : World) (n c : ℕ) (ls : List (List ℕ)) → Mid w n c ls → complete w ≡ false → w.session.check.place < n →
    ((a : Ask) → Memᴰ a asks → Enough d n a) → n ≤ w.session.check.place + length asks * d → complete (checked w asks).world ≡ true
to_end d [] w n c ls m unfinished inside enough far = absurd (omega (arith, inside, far, zero-mul d))
to_end d (a ∷ l) w n c ls m unfinished inside enough far =
    go (dcheck-gets-on w.session w.table a.list a.budget m.formed (mid-calm w n c ls m) d n c ls m.between unfinished first.most
    first.room first.spent)
    (to_end d l v n c (ls ++ with_list (entries_of (effect_in w (asking a))) []) (asked-mid w n c ls a m))
  where
    first : Enough d n a
    first = enough a (Memᴰ.head refl)

    v : World
    v = after w (asking a)

    go : GetsOn d w.session.check.place n (dcheck_out w.session w.table a.list a.budget).answer →
        (complete v ≡ false → v.session.check.place < n → ((a : Ask) → Memᴰ a l → Enough d n a) → n ≤ v.session.check.place + length l * d →
        complete (checked v l).world ≡ true) → complete (checked w (a ∷ l)).world ≡ true
    go (inl x) rest = rw x.0 x.1
    go (inr x) rest = rw x.code (rest x.incomplete x.inside (λ b k. enough b (Memᴰ.tail k)) (omega (arith, far, x.far, suc-mul (length l) d)))

-- and they give at most as many lists as there are parts of d pages
few-lists : (d : ℕ) (asks : List Ask) (k : ℕ) (w : World) (n c : ℕ) (ls : List (List ℕ)) → Mid w n c ls → complete w ≡ false → w.session.check.place < n →
    ((a : Ask) → Memᴰ a asks → Enough d n a) → n ≤ w.session.check.place + k * d → length (checked w asks).lists ≤ k
few-lists d [] k w n c ls m unfinished inside enough far = omega arith
few-lists d (a ∷ l) zero w n c ls m unfinished inside enough far = absurd (omega (arith, inside, far, zero-mul d))
few-lists d (a ∷ l) (suc k) w n c ls m unfinished inside enough far =
    go (dcheck-gets-on w.session w.table a.list a.budget m.formed (mid-calm w n c ls m) d n c ls m.between unfinished first.most
    first.room first.spent)
    (few-lists d l k v n c (ls ++ with_list (entries_of (effect_in w (asking a))) []) (asked-mid w n c ls a m))
  where
    first : Enough d n a
    first = enough a (Memᴰ.head refl)

    v : World
    v = after w (asking a)

    go : GetsOn d w.session.check.place n (dcheck_out w.session w.table a.list a.budget).answer →
        (complete v ≡ false → v.session.check.place < n → ((a : Ask) → Memᴰ a l → Enough d n a) → n ≤ v.session.check.place + k * d →
        length (checked v l).lists ≤ k) → length (checked w (a ∷ l)).lists ≤ suc k
    go (inl x) rest = rw x.0 (omega (arith, with-few (entries_of (effect_in w (asking a))) []))
    go (inr x) rest =
        rw x.code
        (omega (
          arith,
          with-few (entries_of (effect_in w (asking a))) (checked v l).lists,
          rest x.incomplete x.inside (λ b k. enough b (Memᴰ.tail k)) (omega (arith, far, x.far, suc-mul k d)),
        ))

-- ---- the reset

-- a reset of a paused guest is done
abbrev Resets : Session → List ℕ → Type 0
Resets s t = on_session Reset s t ≡ outcome 0 (with_check s unchecked) t

reset-makes : (s : Session) (t : List ℕ) → formed s (length t) ≡ true → s.phase ≡ Blackout → Resets s t
reset-makes s t f p = alone-done Reset s t (record { formed = f; comes = rw p; passed = tt })

reset-mid : (w : World) → Sound w → formed w.session (length w.table) ≡ true → Paused w →
    Mid (reset w) w.session.fixed.pages w.session.fixed.created []
unfolding busy
reset-mid w sound f p =
    record {
      sound = sound-after w (given (OnSession Reset) [] []) sound;
      formed = formed-after w (given (OnSession Reset) [] []) f;
      between =
          rw (reset-makes w.session w.table f p.phase)
          (record {
            pages = refl;
            phase = p.phase;
            rest = p.rest;
            epoch = p.epoch;
            created = refl;
            unfailed = refl;
            lists = λ l k. absurd (Memᴰ.not-nil k);
            few = omega arith;
            passed = λ i k. absurd (omega (arith, k));
          });
    }

module _ (w : World) (sound : Sound w) (f : formed w.session (length w.table) ≡ true) (p : Paused w) (asks : List Ask) where
  -- DCHECKs that get on by d pages each come to the end, if there are enough of them
  enough-end : (d : ℕ) → ((a : Ask) → Memᴰ a asks → Enough d w.session.fixed.pages a) → w.session.fixed.pages ≤ length asks * d →
      complete (checked (reset w) asks).world ≡ true
  enough-end d enough far =
      let s : Resets w.session w.table = reset-makes w.session w.table f p.phase in
      let place : (reset w).session.check.place ≡ 0 = rw s in
      let some : 1 ≤ w.session.fixed.pages = (formed-means w.session (length w.table) f).pages.low in
      to_end d asks (reset w) w.session.fixed.pages w.session.fixed.created [] (reset-mid w sound f p) (rw s) (omega (arith, place, some)) enough
      (omega (arith, place, far))

  pub check-ends : ((a : Ask) → Memᴰ a asks → Fair a) → page_count w.table ≤ length asks → complete (checked (reset w) asks).world ≡ true
  check-ends fair far =
      let ours : page_count w.table ≡ w.session.fixed.pages = (formed-means w.session (length w.table) f).ours in
      enough-end 1
      (λ a k. record { room = omega (arith, (fair a k).some); most = (fair a k).most; spent = λ i h l. omega (arith, (fair a k).budget, h) })
      (omega (arith, mul-one (length asks), ours, far))

  full-enough : ((a : Ask) → Memᴰ a asks → Full (page_count w.table) a) → (a : Ask) → Memᴰ a asks → Enough most_entries w.session.fixed.pages a
  full-enough full a k =
      let m = formed-means w.session (length w.table) f in
      record { room = omega (arith, (full a k).room); most = omega (arith, (full a k).room); spent = λ i h l. omega (arith, (full a k).budget, h, l, m.ours) }

  pub check-eight : ((a : Ask) → Memᴰ a asks → Full (page_count w.table) a) → most_lists ≤ length asks → complete (checked (reset w) asks).world ≡ true
  check-eight full eight =
      let m = formed-means w.session (length w.table) f in
      enough-end most_entries (full-enough full) (omega (arith, eight, m.pages.high))

  pub check-few : ((a : Ask) → Memᴰ a asks → Full (page_count w.table) a) → length (checked (reset w) asks).lists ≤ most_lists
  check-few full =
      let m = formed-means w.session (length w.table) f in
      let s : Resets w.session w.table = reset-makes w.session w.table f p.phase in
      let place : (reset w).session.check.place ≡ 0 = rw s in
      few-lists most_entries asks most_lists (reset w) w.session.fixed.pages w.session.fixed.created [] (reset-mid w sound f p) (rw s)
      (omega (arith, place, m.pages.low)) (full-enough full) (omega (arith, place, m.pages.high))

  -- whatever their rooms and budgets, they give at most as many entries as there are pages
  check-entries : length (joined (checked (reset w) asks).lists) ≤ page_count w.table
  check-entries =
      let end = checked-mid asks (reset w) w.session.fixed.pages w.session.fixed.created [] (reset-mid w sound f p) in
      let m = formed-means (checked (reset w) asks).world.session (length (checked (reset w) asks).world.table) end.formed in
      omega (arith, end.between.few, end.between.pages, m.place, (formed-means w.session (length w.table) f).ours)

  -- and so at most eight lists, cut anew
  pub check-anew : length (cut_anew (checked (reset w) asks).lists) ≤ most_lists
  check-anew =
      let m = formed-means w.session (length w.table) f in
      anew-few most_lists (checked (reset w) asks).lists (omega (arith, check-entries, m.ours, m.pages.high))

-- ---- the new epoch

-- a new epoch is done where streams are at rest and the limit is not reached
abbrev Advances : Session → List ℕ → Type 0
Advances s t = on_session NewEpoch s t ≡ outcome 0 (with_epoch s (s.epoch + 1)) t

epoch-makes : (s : Session) (t : List ℕ) → formed s (length t) ≡ true → s.phase ≡ Blackout → busy s ≡ false → s.epoch < last_epoch → Advances s t
epoch-makes s t f p b l = alone-done NewEpoch s t (record { formed = f; comes = rw p; passed = (b, (lt-leb last_epoch s.epoch l, tt)) })

epoch-left : (w : World) (n c : ℕ) (ls : List (List ℕ)) → Mid w n c ls → length w.session.streams ≡ stream_places → complete w ≡ true →
    Left (next_epoch w) c ls
unfolding busy
epoch-left w n c ls m streams done =
    let g = m.between in
    let made : Advances w.session w.table = epoch-makes w.session w.table m.formed g.phase g.rest g.epoch in
    let r = formed-means w.session (length w.table) m.formed in
    let moves = not-idle moving w.session.phase refl (ap (among moving) g.phase) in
    record {
      formed = formed-after w (given (OnSession NewEpoch) [] []) m.formed;
      phase = rw made g.phase;
      rest = rw made g.rest;
      streams = streams-after w (given (OnSession NewEpoch) [] []) streams;
      complete = rw made done;
      created = rw made g.created;
      lists = g.lists;
      pages =
          rw made
          (λ i k.
          let young = (while-has w.session.phase moves (sound-ok w m.sound i k).1.abroad).young in
          ⊎_elim (λ x. inl x) (λ x. inr (x.0, omega (arith, young), x.1)) (g.passed i (omega (arith, k, r.ours, r.complete done))));
    }

checked-streams : (asks : List Ask) (w : World) → length w.session.streams ≡ stream_places → length (checked w asks).world.session.streams ≡ stream_places
checked-streams [] w e = e
checked-streams (a ∷ l) w e =
    let v = after w (asking a) in
    let next = streams-after w (asking a) e in
    let rest = checked-streams l v next in
    either (λ (r : Checked). length r.world.session.streams ≡ stream_places) (eqb (effect_in w (asking a)).returned.code codes.check_complete) (λ z. next)
    (λ z. rest)

pub check-left : (w : World) → Sound w → formed w.session (length w.table) ≡ true → length w.session.streams ≡ stream_places → Paused w →
    (asks : List Ask) → complete (checked (reset w) asks).world ≡ true →
    Left (next_epoch (checked (reset w) asks).world) w.session.fixed.created (checked (reset w) asks).lists
check-left w sound f streams p asks done =
    epoch-left (checked (reset w) asks).world w.session.fixed.pages w.session.fixed.created (checked (reset w) asks).lists
    (checked-mid asks (reset w) w.session.fixed.pages w.session.fixed.created [] (reset-mid w sound f p))
    (checked-streams asks (reset w) (streams-after w (given (OnSession Reset) [] []) streams))
    done
