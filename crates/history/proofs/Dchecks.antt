-- One DCHECK of a paused guest. Whatever list and budget it has, what stood below the place stays and what it passes is added to it, with at most an entry for
-- each page; and if it has room and budget it comes to the end or gets on.
use mathlib.Core.Path.{◌≡◌, refl}
use mathlib.Core.Logic.{◌⊎◌, inl, inr, ⊎_elim}
use mathlib.Core.Bool.{true, false, cond, not}
use mathlib.Core.List.Memᴰ
use mathlib.Core.List.{List, [], ◌∷◌, ◌++◌, append-nil, Memᴰ}
use Prim.Native.Nat.{ℕ, suc, ◌+◌, ◌-◌, ◌≤◌, ◌<◌}
use native.Mathlib.Omega.{arith}
use native.Mathlib.Decide.{dec_lt}
use lib.Dec.{eqb}
use lib.ListN.{length, take, drop, length-take, length-append}
use borrow.Author.Tests.{ltb-false, le-ltb, eqb-true, eqb-false}
use Rattle.words.specs.Codes as codes
use Rattle.refusals.specs.Refusals.{first_of}
use Rattle.refusals.proofs.Laws.{either, first-all, not-true}
use Rattle.table.specs.Table.{page_count, page_at}
use Rattle.session.specs.Formed.{formed, gate_tests, gated, within, busy, most_entries, last_epoch}
use Rattle.session.specs.declared.Phase.TheVariants.{Blackout}
use Rattle.session.specs.declared.Session.{Session}
use Rattle.session.proofs.Laws.{gate-open, open-gate}
use Rattle.session.proofs.FormedLaws.{formed-means, tlb-fits}
use Rattle.migration.specs.Grant.{Ready}
use Rattle.scan.specs.Scan.{ScanAnswer, ScanOut, written_of, answer_of, checked_by, ScanOutcome, ran_scan, refused_scan, dcheck_tests, dcheck_code, dcheck_of, dcheck_out}
use Rattle.scan.specs.declared.Written.{Written}
use Rattle.scan.proofs.Laws.{dcheck-fits}
use Rattle.scan.proofs.Outcomes.{answer-session, answer-code, dchecked, dcheck-either}
use Rattle.calls.specs.Calls.{scan_effect}
use Rattle.history.specs.Earning.{entries_of, with_list, joined}
use Rattle.history.proofs.Waiting.{Due, Listed, Short, Named}
use Rattle.history.proofs.Cut.{with-short, joined-with}
use Rattle.history.proofs.Looks.{Calm}
use Rattle.history.proofs.Passing.{Ending, Swept, range-swept}

-- page i is ready, or due and named in one of the lists
abbrev pub ReadyOrListed : List ℕ → List (List ℕ) → ℕ → Type 0
ReadyOrListed t ls i = Ready (page_at t i) ⊎ (Due (page_at t i) × Listed ls i)

-- between two DCHECKs of a guest of n pages, created with c: what is asked of session, table and the lists so far
pub record Between (s : Session) (t : List ℕ) (n c : ℕ) (ls : List (List ℕ)) : Type 0 where
  pub pages : s.fixed.pages ≡ n
  pub phase : s.phase ≡ Blackout
  pub rest : busy s ≡ false
  pub epoch : s.epoch < last_epoch
  pub created : s.fixed.created ≡ c
  pub unfailed : s.check.failed ≡ false
  pub lists : (l : List ℕ) → Memᴰ l ls → Short l
  pub few : length (joined ls) ≤ s.check.place
  pub passed : (i : ℕ) → i < s.check.place → ReadyOrListed t ls i

-- ---- the entries

listed_more : (ls ms : List (List ℕ)) (i : ℕ) → Listed ls i → Listed (ls ++ ms) i
listed_more ls ms i x = (x.0, Memᴰ.append_left ms x.1, x.2)

named-listed : (l : List ℕ) (i : ℕ) → Named l i → Listed (with_list l []) i
named-listed [] i x = absurd (Memᴰ.not-nil x.1)
named-listed (w ∷ l) i x = (w ∷ l, Memᴰ.head refl, x)

-- a DCHECK that ran gives the words that it wrote
ran-entries : (s : Session) (o : ScanOut) → within codes.interrupted codes.check_complete o.scanned.code ≡ true →
    entries_of (scan_effect (ran_scan s o) []) ≡ take o.scanned.put o.list
unfolding answer_of written_of
ran-entries s o e =
    either
    (λ (w : Written). cond (within codes.interrupted codes.check_complete o.scanned.code) (take (suc w.last - w.first) (drop w.first o.list)) [] ≡
    take o.scanned.put o.list)
    (eqb o.scanned.put 0)
    (λ z. rw (e, eqb-true o.scanned.put 0 z))
    (λ z.
    let none = eqb-false o.scanned.put 0 z in
    let count : suc (o.scanned.put - 1) - 0 ≡ o.scanned.put = omega (arith, none) in
    rw (e, count))

-- a refusal gives none
refused-entries : (s : Session) (t l : List ℕ) → entries_of (scan_effect (refused_scan (dcheck_code s (length t) (length l)) s t l) []) ≡ []
unfolding dcheck_code gated
refused-entries s t l =
    rw (not-true (within codes.interrupted codes.check_complete (first_of (gate_tests s (length t) (Blackout ∷ []) (dcheck_tests s (length l)))))
    (first-all (λ (n : ℕ). not (within codes.interrupted codes.check_complete n)) (gate_tests s (length t) (Blackout ∷ []) (dcheck_tests s (length l))) refl refl))

-- the codes of a DCHECK that ran
ending-codes : (budget space code i n : ℕ) → Ending budget space code i n →
    (within codes.interrupted codes.check_complete code ≡ true) × (eqb code codes.mem_scan_failed_blocked_range ≡ false)
ending-codes budget space code i n (inl x) = rw x.code (refl, refl)
ending-codes budget space code i n (inr (inl x)) = rw x.code (refl, refl)
ending-codes budget space code i n (inr (inr x)) = rw x.code (refl, refl)

-- at least d pages further, and not to the end
pub record Further (d place n : ℕ) (a : ScanAnswer) : Type 0 where
  pub code : eqb a.code codes.check_complete ≡ false
  pub incomplete : a.session.check.complete ≡ false
  pub far : place + d ≤ a.session.check.place
  pub inside : a.session.check.place < n

-- a DCHECK from a place on comes to the end, or further
abbrev pub GetsOn : ℕ → ℕ → ℕ → ScanAnswer → Type 0
GetsOn d place n a = ((eqb a.code codes.check_complete ≡ true) × (a.session.check.complete ≡ true)) ⊎ Further d place n a

-- ---- the call

module _ (s : Session) (t l : List ℕ) (budget : ℕ) (f : formed s (length t) ≡ true) (calm : (k : ℕ) → k < page_count t → Calm (page_at t k)) where
  abbrev count : ℕ
  count = s.fixed.pages - s.check.place

  abbrev ran : ScanOut
  ran = dchecked s t l budget

  swept : dcheck_code s (length t) (length l) ≡ 0 → Swept (dcheck_of s budget) count t l ran
  swept z =
      let m = formed-means s (length t) f in
      range-swept count (dcheck_of s budget) t l (dcheck-fits s (length t) (length l) z).1.0 refl (tlb-fits s (length t) f)
      (omega (arith, m.place, m.pages.high)) calm

  -- what a DCHECK passed is added to what stood below the place
  ran-passed : (n c : ℕ) (ls : List (List ℕ)) → Between s t n c ls → Swept (dcheck_of s budget) count t l ran → (i : ℕ) → i < ran.scanned.next →
      ReadyOrListed ran.part (ls ++ with_list (take ran.scanned.put ran.list) []) i
  ran-passed n c ls g w i h = go (dec_lt i s.check.place)
    where
      new : List (List ℕ)
      new = with_list (take ran.scanned.put ran.list) []

      go : Dec (i < s.check.place) → ReadyOrListed ran.part (ls ++ new) i
      go (yes b) = rw (w.before i b) (⊎_elim (λ x. inl x) (λ x. inr (x.0, listed_more ls new i x.1)) (g.passed i b))
      go (no b) =
          ⊎_elim (λ x. inl x)
          (λ x.
          let m = named-listed (take ran.scanned.put ran.list) i x.1 in
          inr (x.0, (m.0, Memᴰ.append_right ls m.1, m.2)))
          (w.passed i (omega (arith, b)) (omega (arith, h, w.next)))

  ran-lists : (ls : List (List ℕ)) → ((m : List ℕ) → Memᴰ m ls → Short m) → dcheck_code s (length t) (length l) ≡ 0 → (m : List ℕ) →
      Memᴰ m (ls ++ with_list (take ran.scanned.put ran.list) []) → Short m
  unfolding dcheck_code
  ran-lists ls old z m k =
      let w = swept z in
      let room : length l ≤ most_entries = ltb-false _ _ (gate-open s (length t) (Blackout ∷ []) (dcheck_tests s (length l)) refl z).passed.0 in
      let short : length (take ran.scanned.put ran.list) ≤ most_entries =
      rw (length-take ran.scanned.put ran.list) (omega (arith, room, w.long)) in
      ⊎_elim
      (λ x. old m x)
      (λ x. with-short (take ran.scanned.put ran.list) [] short (λ o n. absurd (Memᴰ.not-nil n)) m x)
      (Memᴰ.append_cases ls k)

  -- it gives at most an entry for each page that it passed
  ran-few : (ls : List (List ℕ)) → length (joined ls) ≤ s.check.place → Swept (dcheck_of s budget) count t l ran
      → length (joined (ls ++ with_list (take ran.scanned.put ran.list) [])) ≤ ran.scanned.next
  ran-few ls old w =
      let new = take ran.scanned.put ran.list in
      rw (joined-with ls new, length-append (joined ls) new, length-take ran.scanned.put ran.list) (omega (arith, w.few, w.next))

  pub dcheck-between : (n c : ℕ) (ls : List (List ℕ)) → Between s t n c ls →
      Between (dcheck_out s t l budget).answer.session (dcheck_out s t l budget).table n c
      (ls ++ with_list (entries_of (scan_effect (dcheck_out s t l budget) [])) [])
  unfolding checked_by busy
  dcheck-between n c ls g =
      dcheck-either s t l budget (λ (o : ScanOutcome). Between o.answer.session o.table n c (ls ++ with_list (entries_of (scan_effect o [])) []))
      (λ z.
      let w = swept z in
      let known = ending-codes budget (length l) ran.scanned.code w.at count w.how in
      rw (answer-session ran.scanned (checked_by s ran.scanned), ran-entries (checked_by s ran.scanned) ran known.0)
      (record {
        pages = g.pages;
        phase = g.phase;
        rest = g.rest;
        epoch = g.epoch;
        created = g.created;
        unfailed = known.1;
        lists = ran-lists ls g.lists z;
        few = ran-few ls g.few w;
        passed = ran-passed n c ls g w;
      }))
      (rw (refused-entries s t l, append-nil ls) g)

  dcheck-runs : dcheck_code s (length t) (length l) ≡ 0 → dcheck_out s t l budget ≡ ran_scan (checked_by s ran.scanned) ran
  unfolding dcheck_out
  dcheck-runs z = rw z

  -- where it was not complete, and the list and the budget are enough for d pages
  pub dcheck-gets-on : (d n c : ℕ) (ls : List (List ℕ)) → Between s t n c ls → s.check.complete ≡ false → length l ≤ most_entries → d ≤ length l →
      ((i : ℕ) → budget ≤ i → i < n → d ≤ i) → GetsOn d s.check.place n (dcheck_out s t l budget).answer
  unfolding checked_by dcheck_code
  dcheck-gets-on d n c ls g unfinished most room spent =
      let z : dcheck_code s (length t) (length l) ≡ 0
      = open-gate s (length t) (Blackout ∷ []) (dcheck_tests s (length l))
      (record { formed = f; comes = rw g.phase; passed = (le-ltb most_entries (length l) most, (rw (unfinished, g.unfailed), tt)) }) in
      let w = swept z in
      rw (dcheck-runs z) (go w w.how)
    where
      made : ScanAnswer
      made = answer_of ran.scanned (checked_by s ran.scanned)

      place : s.check.place ≤ s.fixed.pages
      place = (formed-means s (length t) f).place

      further : (w : Swept (dcheck_of s budget) count t l ran) → eqb ran.scanned.code codes.check_complete ≡ false → d ≤ w.at → w.at < count →
          Further d s.check.place n made
      further w e far inside =
          record {
            code = rw (answer-code ran.scanned (checked_by s ran.scanned)) e;
            incomplete = rw (answer-session ran.scanned (checked_by s ran.scanned)) e;
            far = rw (answer-session ran.scanned (checked_by s ran.scanned)) (omega (arith, w.next, far));
            inside = rw (answer-session ran.scanned (checked_by s ran.scanned)) (omega (arith, w.next, inside, g.pages, place));
          }

      go : (w : Swept (dcheck_of s budget) count t l ran) → Ending budget (length l) ran.scanned.code w.at count → GetsOn d s.check.place n made
      go w (inl x) = inl (
        rw (answer-code ran.scanned (checked_by s ran.scanned), x.code),
        rw (answer-session ran.scanned (checked_by s ran.scanned), x.code),
      )
      go w (inr (inl x)) = inr (further w (rw x.code) (spent w.at x.spent (omega (arith, x.place, g.pages))) x.place)
      go w (inr (inr x)) = inr (further w (rw x.code) (omega (arith, x.full, room)) x.place)
