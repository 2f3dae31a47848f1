-- The lists one after the other, in any order or cut anew: each takes the pages that it names from what waits, and where no list is left nothing waits and the
-- token is granted.
use Rattle.std.specs.Prelude.{Option, None}
use mathlib.Core.Path.{◌≡◌, refl}
use mathlib.Core.Bool.{true, false}
use mathlib.Core.List.Memᴰ
use mathlib.Core.List.Permᴰ
use mathlib.Core.List.{List, [], ◌∷◌, map, Memᴰ, Permᴰ}
use Prim.Native.Nat.{ℕ, ◌-◌}
use native.Mathlib.Omega.{arith}
use lib.Dec.{ltb}
use lib.ListN.{length}
use borrow.Author.Tests.{ltb-true}
use Rattle.words.specs.Info.{info_of}
use Rattle.words.specs.declared.infos.Info.{Info}
use Rattle.words.proofs.InfoLaws.{info-word}
use Rattle.refusals.proofs.Laws.{either}
use Rattle.table.specs.Table.{page_at}
use Rattle.session.specs.Session.{stream_places, work_of}
use Rattle.session.specs.Formed.{busy}
use Rattle.session.specs.declared.Session.{Session}
use Rattle.session.specs.declared.streams.Interruption.{Interruption}
use Rattle.session.proofs.FormedLaws.{busy-means}
use Rattle.migration.proofs.Grant.{resting-is}
use Rattle.bundle.proofs.Replay.{perm-mem}
use Rattle.history.specs.History.{World}
use Rattle.history.specs.Earning.{granted, cut_anew, Sending, Whole, first_info, sending, sending_all}
use Rattle.history.proofs.Waiting.{Listed, Short, Left}
use Rattle.history.proofs.Cut.{anew-short, anew-listed}
use Rattle.history.proofs.Ahead.{waits-map, listed-ahead}
use Rattle.history.proofs.Anyhow.{left-anyhow}
use Rattle.history.proofs.Resuming.{Going, exported-left}

-- ---- other lists with the same entries

left_other : (w : World) (n : ℕ) (ls ms : List (List ℕ)) → ((l : List ℕ) → Memᴰ l ms → Short l) → ((i : ℕ) → Listed ls i → Listed ms i)
    → Left w n ls → Left w n ms
left_other w n ls ms short listed k =
    record {
      formed = k.formed;
      phase = k.phase;
      rest = k.rest;
      streams = k.streams;
      complete = k.complete;
      created = k.created;
      lists = short;
      pages = λ i h. waits-map w.session.epoch (page_at w.table i) (listed i) (k.pages i h);
    }

-- in another order
left-same : (w : World) (n : ℕ) (ls ms : List (List ℕ)) → Permᴰ ls ms → Left w n ls → Left w n ms
left-same w n ls ms p k = left_other w n ls ms (λ l m. k.lists l (perm-mem (Permᴰ.symm p) m)) (λ i x. (x.0, perm-mem p x.1, x.2)) k

-- cut anew
pub left-anew : (w : World) (n : ℕ) (ls : List (List ℕ)) → Left w n ls → Left w n (cut_anew ls)
left-anew w n ls k = left_other w n ls (cut_anew ls) (anew-short ls) (anew-listed ls) k

-- ---- one list

run-rests : (s : Session) → busy s ≡ false → (i : ℕ) → work_of s i ≡ None
unfolding work_of
run-rests s e i = either (λ (r : Option Interruption). r ≡ None) (ltb i stream_places) (λ q. resting-is _ (busy-means s e i (ltb-true _ _ q))) (λ q. refl)

module _ (u w : World) (x : Sending) (rest : List (List ℕ)) (whole : Whole u x) (k : Left w u.session.fixed.created (x.list ∷ rest)) where
  short : Short x.list
  short = k.lists x.list (Memᴰ.head refl)

  abbrev info : Info
  info = record { format = 0; first = 0; hpa = x.hpa; zero52 = 0; last = length x.list - 1 }

  first-info : info_of (first_info x) ≡ info
  first-info =
      info-word info
      (record { format = omega arith; first = omega arith; hpa = whole.hpa; zero52 = omega arith; last = omega (arith, short.most) })

  begins : Going u.session.fixed.created x.stream (length x.list) rest w false (first_info x) x.list x.buffer 0
  begins =
      record {
        formed = k.formed;
        phase = k.phase;
        streams = k.streams;
        complete = k.complete;
        created = k.created;
        others = λ i h ne. busy-means w.session k.rest i h;
        work = rw (run-rests w.session k.rest x.stream) (refl, refl);
        format = rw first-info;
        zeros = rw first-info;
        first = rw first-info;
        last = rw first-info (omega (arith, short.some));
        ordered = omega arith;
        list = refl;
        buffer = whole.buffer;
        waits = λ i h. waits-map w.session.epoch (page_at w.table i) (listed-ahead x.list rest i) (k.pages i h);
      }

  left-sending : Left (sending w x) u.session.fixed.created rest
  left-sending =
      exported-left u.session.fixed.created x.stream (length x.list) rest whole.usable short.most (λ l m. k.lists l (Memᴰ.tail m))
      x.budgets w false (first_info x) x.list x.buffer 0 begins (omega (arith, whole.budgets))

-- ---- all lists

left-all : (u w : World) (xs : List Sending) → ((x : Sending) → Memᴰ x xs → Whole u x) →
    Left w u.session.fixed.created (map (λ (x : Sending). x.list) xs) → Left (sending_all w xs) u.session.fixed.created []
left-all u w [] whole k = k
left-all u w (x ∷ xs) whole k =
    left-all u (sending w x) xs (λ y m. whole y (Memᴰ.tail m)) (left-sending u w x (map (λ (x : Sending). x.list) xs) (whole x (Memᴰ.head refl)) k)

-- `u` is a world with the streams that were created, as the one in which the check began
pub left-granted : (u w : World) (ls : List (List ℕ)) (xs : List Sending) → Left w u.session.fixed.created ls →
    Permᴰ ls (map (λ (x : Sending). x.list) xs) → ((x : Sending) → Memᴰ x xs → Whole u x) → granted (sending_all w xs) ≡ true
left-granted u w ls xs k p whole =
    let end = left-all u w xs whole (left-same w u.session.fixed.created ls (map (λ (x : Sending). x.list) xs) p k) in
    left-anyhow (sending_all w xs) u.session.fixed.created [] [] end (λ l m. absurd (Memᴰ.not-nil m)) end.rest
