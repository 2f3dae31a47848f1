-- From a paused guest to the token: the check leaves each page ready, or due and listed; the lists, exported, leave each ready. Eight DCHECKs with
-- rooms of 512, and each list exported in one call, are always such a way; so are the entries of any check cut anew.
use mathlib.Core.Path.{◌≡◌, refl, sym, ap, subst}
use mathlib.Core.Logic.{⊎_elim}
use mathlib.Core.Bool.{true, false}
use mathlib.Core.List.Memᴰ
use mathlib.Core.List.Permᴰ
use mathlib.Core.List.{List, [], ◌∷◌, map, Memᴰ, Permᴰ}
use Prim.Native.Nat.{ℕ, zero, suc, ◌<◌}
use native.Mathlib.Omega.{arith}
use lib.Dec.{lit<}
use lib.ListN.{length, replicate, length-replicate}
use Rattle.table.specs.Table.{page_count}
use Rattle.session.specs.Formed.{busy, most_entries}
use Rattle.session.proofs.FormedLaws.{formed-means}
use Rattle.history.specs.History.{World, History, at_end}
use Rattle.history.specs.Earning.{granted, Paused, Ask, Full, All, check, complete, most_lists, full_asks, prepared, cut_anew}
use Rattle.history.specs.Earning.{Sending, Whole, sending_all, Plan, at_once, Exporting, exporting_all, TookEvery}
use Rattle.history.specs.Promises.{Earned}
use Rattle.history.proofs.Sound.{sound-end}
use Rattle.history.proofs.Formed.{stays-formed, streams-end}
use Rattle.history.proofs.Waiting.{Left}
use Rattle.history.proofs.Checks.{check-left, check-ends, check-eight, check-few, check-anew}
use Rattle.history.proofs.Anyhow.{left-anyhow}
use Rattle.history.proofs.Lists.{left-anew, left-granted}

-- what the check leaves to be exported
left : (h : History) → Paused (at_end h) → (asks : List Ask) → complete (check (at_end h) asks).world ≡ true →
    Left (prepared (at_end h) asks) (at_end h).session.fixed.created (check (at_end h) asks).lists
left h p asks c = check-left (at_end h) (sound-end h) (stays-formed.formed h) (streams-end h) p asks c

lists-earn : (h : History) → Paused (at_end h) → (asks : List Ask) → complete (check (at_end h) asks).world ≡ true → (xs : List Sending) →
    Plan (at_end h) (check (at_end h) asks).lists xs → granted (sending_all (prepared (at_end h) asks) xs) ≡ true
lists-earn h p asks c xs plan =
    left-granted (at_end h) (prepared (at_end h) asks) (check (at_end h) asks).lists xs (left h p asks c) plan.same plan.whole

exports-earn : (h : History) → Paused (at_end h) → (asks : List Ask) → complete (check (at_end h) asks).world ≡ true → (xs : List Exporting) →
    TookEvery (prepared (at_end h) asks) (check (at_end h) asks).lists xs → busy (exporting_all (prepared (at_end h) asks) xs).session ≡ false →
    granted (exporting_all (prepared (at_end h) asks) xs) ≡ true
exports-earn h p asks c xs all rest = left-anyhow (prepared (at_end h) asks) (at_end h).session.fixed.created (check
    (at_end h) asks).lists xs (left h p asks c) all rest

-- ---- always

-- some of the same
pub alike : {A : Type 0} (P : A → Type 0) (x : A) → P x → (n : ℕ) (y : A) → Memᴰ y (replicate n x) → P y
alike P x p zero y m = absurd (Memᴰ.not-nil m)
alike P x p (suc n) y m = ⊎_elim (λ q. subst P (sym q) p) (λ k. alike P x p n y k) (Memᴰ.cases_cons m)

asks-full : (h : History) → All (Full (page_count (at_end h).table)) full_asks
asks-full h =
    alike (Full (page_count (at_end h).table)) _ (record { room = length-replicate {A = ℕ} most_entries 0; budget = omega arith }) most_lists

lists_of : (ls : List (List ℕ)) → map (λ (x : Sending). x.list) (map at_once ls) ≡ ls
lists_of [] = refl
lists_of (l ∷ ls) = ap (λ (r : List (List ℕ)). l ∷ r) (lists_of ls)

at-once : (w : World) → 1 < w.session.fixed.created → (ls : List (List ℕ)) (x : Sending) → Memᴰ x (map at_once ls) → Whole w x
at-once w c [] x m = absurd (Memᴰ.not-nil m)
at-once w c (l ∷ ls) x m =
    ⊎_elim
    (λ q. subst (Whole w) (sym q) (record { usable = omega (arith, c); buffer = length-replicate {A = ℕ} (length l) 0; hpa = lit< tt; budgets = omega arith }))
    (λ k. at-once w c ls x k)
    (Memᴰ.cases_cons m)

-- each list in one call
once-plan : (h : History) (ls : List (List ℕ)) → Plan (at_end h) ls (map at_once ls)
once-plan h ls =
    let f = formed-means (at_end h).session (length (at_end h).table) (stays-formed.formed h) in
    record {
      same = subst (λ (r : List (List ℕ)). Permᴰ ls r) (sym (lists_of ls)) (Permᴰ.refl ls);
      whole = at-once (at_end h) (omega (arith, f.created.low)) ls;
    }

always-earns : (h : History) → Paused (at_end h) → granted (sending_all (prepared (at_end h) full_asks) (map at_once (check (at_end h) full_asks).lists)) ≡ true
always-earns h p =
    let w = at_end h in
    let eight = length-replicate {A = Ask} most_lists (record { list = replicate most_entries 0; budget = most_entries }) in
    lists-earn h p full_asks (check-eight w (sound-end h) (stays-formed.formed h) p full_asks (asks-full h) (omega (arith, eight))) _
    (once-plan h (check w full_asks).lists)

anew-earns : (h : History) → Paused (at_end h) → (asks : List Ask) → complete (check (at_end h) asks).world ≡ true
    → granted (sending_all (prepared (at_end h) asks) (map at_once (cut_anew (check (at_end h) asks).lists))) ≡ true
anew-earns h p asks c =
    let ls = (check (at_end h) asks).lists in
    let w = prepared (at_end h) asks in
    let plan = once-plan h (cut_anew ls) in
    left-granted (at_end h) w (cut_anew ls) (map at_once (cut_anew ls)) (left-anew w (at_end h).session.fixed.created ls (left h p asks c)) plan.same
    plan.whole

pub earned : Earned
earned =
    record {
      always = λ h p. (always-earns h p, check-few (at_end h) (sound-end h) (stays-formed.formed h) p full_asks (asks-full h));
      ends = λ h p asks fair n. check-ends (at_end h) (sound-end h) (stays-formed.formed h) p asks fair n;
      eight = λ h p asks full n. check-eight (at_end h) (sound-end h) (stays-formed.formed h) p asks full n;
      few = λ h p asks full. check-few (at_end h) (sound-end h) (stays-formed.formed h) p asks full;
      earned = lists-earn;
      anew = λ h p asks c. (anew-earns h p asks c, check-anew (at_end h) (sound-end h) (stays-formed.formed h) p asks);
      anyhow = exports-earn;
    }
