-- The driver's calls, tied one by one to those that a driver makes of the engine: what a DCHECK lists, cut out of the returned bytes, is the bytes of what it
-- lists there, and a list's bytes exported are the list exported.
use mathlib.Core.Path.{◌≡◌, refl, sym, ap, subst, ◌∙◌}
use mathlib.Core.Bool.{Bool, true, false, cond}
use mathlib.Core.List.{List, [], ◌∷◌, map}
use Prim.Native.Nat.{ℕ, zero, suc, ◌-◌, ◌*◌, ◌/◌, ◌%◌, ◌≤◌}
use native.Mathlib.Omega.{arith}
use lib.Dec.{eqb, lit<}
use lib.ListN.{length, take, drop, replicate, length-take, length-drop, length-replicate}
use borrow.Author.Tests.{le-leb}
use Rattle.words.specs.Codes as codes
use Rattle.words.proofs.InfoLaws.{info-lt}
use Rattle.refusals.proofs.Laws.{either}
use Rattle.session.specs.Formed.{most_entries, within}
use Rattle.session.specs.declared.Session.{Session}
use Rattle.scan.specs.Scan.{ScanOutcome, dcheck_of}
use Rattle.scan.proofs.Outcomes.{dcheck-either}
use Rattle.calls.specs.Calls.{Effect, effect_of}
use Rattle.calls.specs.declared.Call.TheVariants.{Dcheck, Export}
use Rattle.history.specs.History as history
use Rattle.history.specs.Earning as earning
use Rattle.wire.specs.Bytes.{words_of, bytes_of, Words}
use Rattle.wire.proofs.BytesLaws.{bytes-length, words_back, zero-bytes}
use Rattle.wire.proofs.Promises.{zeros-bytes}
use Rattle.host.specs.Host.{Numbers, Left, is_list, numbers_of}
use Rattle.rehearsal.specs.Rehearsal.{new_epoch, reset, Operands, Host, left_in, after, run}
use Rattle.rehearsal.specs.Driver.{asking, entry_bytes, Checked, checked, check, exporting, driven}
use Rattle.rehearsal.specs.Promises.{is_played, given_by, Engines}
use Rattle.rehearsal.proofs.Words.{zero-words, take_words, drop-words, bytes-bytes, take-bytes, drop-bytes}
use Rattle.rehearsal.proofs.Scans.{range_small}
use Rattle.rehearsal.proofs.Small.{words-out}
use Rattle.rehearsal.proofs.Functions.{in_c}
use Rattle.rehearsal.proofs.Tied.{Tied, played-engines}
use Rattle.rehearsal.proofs.After.{goes_in, after-played}

-- ---- lists of zeros

zeros-words : (n : ℕ) → words_of (replicate (8 * n) 0) ≡ replicate n 0
zeros-words n = ap words_of (sym (zero-bytes n)) ∙ words_back (replicate n 0) (zero-words n)

list_of : (n : ℕ) → n ≤ most_entries → is_list (8 * n) ≡ true
list_of n h =
    let whole : 8 * n % 8 ≡ 0 = omega arith in
    let most : 8 * n ≤ 8 * most_entries = omega arith in
    rw (whole, le-leb (8 * n) (8 * most_entries) most)

-- ---- one DCHECK

abbrev ask : earning.Ask
ask = record { list = replicate most_entries 0; budget = most_entries }

asking-played : is_played asking ≡ true
asking-played = refl

asking-given : given_by asking ≡ earning.asking ask
unfolding words_of
asking-given = ap (λ (l : List ℕ). history.given (Dcheck most_entries) l []) (zeros-words most_entries)

pub asking-operands : Operands asking
asking-operands = (zeros-bytes (8 * most_entries), lit< tt)

-- what it wrote, cut out of the bytes
entries-cut : (e : Effect) (left : Left) → left.answer ≡ numbers_of e.returned → left.list ≡ bytes_of e.list →
    entry_bytes left ≡ bytes_of (earning.entries_of e)
entries-cut e left a l =
    rw (a, l) (go (within codes.interrupted codes.check_complete e.returned.code))
  where
    go : (b : Bool) → cond b (take (8 * (suc e.returned.last - e.returned.first)) (drop (8 * e.returned.first) (bytes_of e.list))) [] ≡ bytes_of
        (cond b (take (suc e.returned.last - e.returned.first) (drop e.returned.first e.list)) [])
    go true = rw (drop-bytes e.returned.first e.list) (take-bytes (suc e.returned.last - e.returned.first) (drop e.returned.first e.list))
    go false = refl

-- an empty list is none, in words and in bytes
with-bytes : (l : List ℕ) (ls : List (List ℕ)) → earning.with_list (bytes_of l) (map bytes_of ls) ≡ map bytes_of (earning.with_list l ls)
with-bytes [] ls = refl
with-bytes (x ∷ l) ls = refl

-- lists that can be exported: words, 512 at most
pub record Short (l : List ℕ) : Type 0 where
  pub words : Words l
  pub most : length l ≤ most_entries

abbrev pub AllShort : List (List ℕ) → Type 0
AllShort [] = Unit
AllShort (l ∷ ls) = Short l × AllShort ls

with-short : (l : List ℕ) (ls : List (List ℕ)) → Short l → AllShort ls → AllShort (earning.with_list l ls)
with-short [] ls s a = a
with-short (x ∷ l) ls s a = (s, a)

part-short : (first size : ℕ) (l : List ℕ) → Short l → Short (take size (drop first l))
part-short first size l s =
    record {
      words = take_words size (drop first l) (drop-words first l s.words);
      most = rw (length-take size (drop first l), length-drop first l) (omega (arith, s.most));
    }

no_short : Short []
no_short = record { words = λ i. lit< tt; most = omega arith }

entries-short : (e : Effect) → Short e.list → Short (earning.entries_of e)
entries-short e s =
    either Short (within codes.interrupted codes.check_complete e.returned.code)
    (λ q. part-short e.returned.first (suc e.returned.last - e.returned.first) e.list s) (λ q. no_short)

-- a DCHECK leaves the list's length
list-long : (s : Session) (t l b : List ℕ) (budget : ℕ) → Words t → Words l → length (effect_of (Dcheck budget) s t l b).list ≡ length l
list-long s t l b budget ht hl =
    dcheck-either s t l budget (λ (o : ScanOutcome). length o.list ≡ length l)
    (λ e. (range_small (s.fixed.pages - s.check.place) (dcheck_of s budget) t l ht hl).long) refl

record Asked (h : Host) (w : history.World) : Type 0 where
  tied : Tied (after h asking) (history.after w (earning.asking ask))
  code : (left_in h asking).answer.code ≡ (history.effect_in w (earning.asking ask)).returned.code
  cut : entry_bytes (left_in h asking) ≡ bytes_of (earning.entries_of (history.effect_in w (earning.asking ask)))
  short : Short (earning.entries_of (history.effect_in w (earning.asking ask)))

asked : (h : Host) (w : history.World) → Tied h w → Asked h w
asked h w k =
    let n = subst (λ (g : history.Given). Engines (history.effect_in w g) (left_in h asking)) asking-given
    (played-engines h w k asking (in_c asking asking-operands) asking-played) in
    let e = history.effect_in w (earning.asking ask) in
    let out = subst (λ (g : history.Given). Words (history.effect_in w g).list) asking-given
    (words-out _ _ _ _ _ (goes_in h w k asking asking-operands)).list in
    let z = zero-words most_entries in
    let long = list-long w.session w.table (replicate most_entries 0) [] most_entries k.small z ∙ length-replicate {A = ℕ} most_entries 0 in
    record {
      tied = subst (λ (g : history.Given). Tied (after h asking) (history.after w g)) asking-given (after-played h w k asking asking-operands asking-played);
      code = ap (λ (x : Numbers). x.code) n.answer;
      cut = entries-cut e (left_in h asking) n.answer n.list;
      short = entries-short e (record { words = out; most = omega (arith, long) });
    }

-- ---- the check

pub record Both (c : Checked) (d : earning.Checked) : Type 0 where
  pub tied : Tied c.host d.world
  pub lists : c.lists ≡ map bytes_of d.lists
  pub short : AllShort d.lists

-- one DCHECK more, the rest being known: it ends the check or not
abbrev more : Bool → List ℕ → Checked → Checked → Checked
more b l ends goes = record { host = (cond b ends goes).host; lists = earning.with_list l (cond b ends goes).lists }

abbrev more_there : Bool → List ℕ → earning.Checked → earning.Checked → earning.Checked
more_there b l ends goes = record { world = (cond b ends goes).world; lists = earning.with_list l (cond b ends goes).lists }

more-both : (b : Bool) (l : List ℕ) (ends goes : Checked) (ends' goes' : earning.Checked) → Short l → Both ends ends' → Both goes goes' →
    Both (more b (bytes_of l) ends goes) (more_there b l ends' goes')
more-both b l ends goes ends' goes' s x y = go b
  where
    joins : (c : Checked) (d : earning.Checked) → Both c d →
        Both (record { host = c.host; lists = earning.with_list (bytes_of l) c.lists }) (record { world = d.world; lists = earning.with_list l d.lists })
    joins c d r =
        record {
          tied = r.tied;
          lists = ap (earning.with_list (bytes_of l)) r.lists ∙ with-bytes l d.lists;
          short = with-short l d.lists s r.short;
        }

    go : (b : Bool) → Both (more b (bytes_of l) ends goes) (more_there b l ends' goes')
    go true = joins ends ends' x
    go false = joins goes goes' y

checked-both : (n : ℕ) (h : Host) (w : history.World) → Tied h w → Both (checked h n) (earning.checked w (replicate n ask))
checked-both zero h w k = record { tied = k; lists = refl; short = tt }
checked-both (suc n) h w k =
    let a = asked h w k in
    let e = history.effect_in w (earning.asking ask) in
    let v = history.after w (earning.asking ask) in
    let g = after h asking in
    let rest = earning.checked v (replicate n ask) in
    let done = eqb e.returned.code codes.check_complete in
    subst
    (λ (code : ℕ). Both (more (eqb code codes.check_complete) (entry_bytes (left_in h asking)) (record { host = g; lists = [] }) (checked g n))
    (more_there done (earning.entries_of e) (record { world = v; lists = [] }) rest))
    (sym a.code)
    (subst
    (λ (l : List ℕ). Both (more done l (record { host = g; lists = [] }) (checked g n))
    (more_there done (earning.entries_of e) (record { world = v; lists = [] }) rest))
    (sym a.cut)
    (more-both done (earning.entries_of e) _ _ _ _ a.short (record { tied = a.tied; lists = refl; short = tt }) (checked-both n g v a.tied)))

-- ---- the lists

-- a list in one call
abbrev one_call : List ℕ → history.Given
one_call l = history.given (Export 0 false (earning.first_info (earning.at_once l)) (length l)) l (replicate (length l) 0)

module _ (l : List ℕ) (s : Short l) where
  entries-of : length (bytes_of l) / 8 ≡ length l
  entries-of = rw (bytes-length l) (omega arith)

  exporting-played : is_played (exporting (bytes_of l)) ≡ true
  exporting-played = rw (length-replicate {A = ℕ} (length (bytes_of l)) 0, bytes-length l, list_of (length l) s.most)

  pub exporting-operands : Operands (exporting (bytes_of l))
  exporting-operands =
      (bytes-bytes l, zeros-bytes (length (bytes_of l)), lit< tt, lit< tt, info-lt _, rw entries-of (omega (arith, s.most)))

  exporting-given : given_by (exporting (bytes_of l)) ≡ one_call l
  exporting-given = rw (entries-of, words_back l s.words, bytes-length l, zeros-words (length l))

-- one call is all of it
sending-once : (w : history.World) (l : List ℕ) → earning.sending w (earning.at_once l) ≡ history.after w (one_call l)
sending-once w l =
    either (λ (v : history.World). v ≡ history.after w (one_call l)) (eqb (history.effect_in w (one_call l)).returned.code codes.interrupted)
    (λ e. refl) (λ e. refl)

exports-tied : (ls : List (List ℕ)) → AllShort ls → (h : Host) (w : history.World) → Tied h w →
    Tied (run h (map exporting (map bytes_of ls))) (earning.sending_all w (map earning.at_once ls))
exports-tied [] a h w k = k
exports-tied (l ∷ ls) a h w k =
    let f = exporting (bytes_of l) in
    exports-tied ls a.1 (after h f) (earning.sending w (earning.at_once l))
    (subst (Tied (after h f)) (sym (sending-once w l))
    (subst (λ (g : history.Given). Tied (after h f) (history.after w g)) (exporting-given l a.0)
    (after-played h w k f (exporting-operands l a.0) (exporting-played l a.0))))

-- ---- all of it

module _ (h : Host) (w : history.World) (k : Tied h w) where
  pub check_both : Both (check h) (earning.check w earning.full_asks)
  unfolding words_of
  check_both = checked-both earning.most_lists (after h reset) (earning.reset w) (after-played h w k reset tt refl)

  pub driven-tied : Tied (driven h) (earning.sending_all (earning.prepared w earning.full_asks) (map earning.at_once (earning.check w earning.full_asks).lists))
  unfolding words_of
  driven-tied =
      let c = check_both in
      subst
      (λ (ls : List (List ℕ)). Tied (run (after (check h).host new_epoch) (map exporting ls))
      (earning.sending_all (earning.prepared w earning.full_asks) (map earning.at_once (earning.check w earning.full_asks).lists)))
      (sym c.lists)
      (exports-tied (earning.check w earning.full_asks).lists c.short (after (check h).host new_epoch) (earning.prepared w earning.full_asks)
      (after-played (check h).host (earning.check w earning.full_asks).world c.tied new_epoch tt refl))
