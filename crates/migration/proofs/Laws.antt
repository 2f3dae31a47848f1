-- What a call knows once its code is 0, what it answers from what it is told, and the numbers of the token's cases.
use mathlib.Core.Path.{◌≡◌, refl, ap, ◌∙◌}
use mathlib.Core.Bool.{Bool, true, false, cond, not, ◌||◌}
use mathlib.Core.List.{List, [], ◌∷◌}
use Prim.Native.Nat.{ℕ, ◌≤◌}
use lib.Dec.{eqb, ltb}
use lib.ListN.{length}
use borrow.Author.Tests.{eqb-true, ltb-false}
use Rattle.std.specs.Prelude.{Result, Ok, Err}
use Rattle.words.specs.Codes as codes
use Rattle.refusals.specs.Refusals.{Test, ◌gives◌, first_of, number_of}
use Rattle.refusals.specs.declared.Refusal.{Refusal}
use Rattle.refusals.proofs.Laws.{not-true, all_codes, first-all, refuses, refuses-coded, number-pos}
use Rattle.page.specs.Page.{on_words, gives53, gives54}
use Rattle.page.specs.Sweeps.{swept_by}
use Rattle.page.specs.declared.sweeps.Sweep.{Sweep}
use Rattle.page.specs.declared.sweeps.Sweep.TheVariants.{Track, Start, Pause}
use Rattle.table.specs.Table.{page_count, sweep_of, lowest, first_page, some}
use Rattle.session.specs.Session.{phases_of, changed_by}
use Rattle.session.specs.Formed.{busy, gate_tests, gated, behind}
use Rattle.session.specs.Outcome.{Outcome, outcome, answered, answered_by}
use Rattle.session.specs.declared.When.TheVariants as when
use Rattle.session.specs.declared.Session.{Session}
use Rattle.session.specs.declared.changes.Change.TheVariants.{Nothing}
use Rattle.session.proofs.Laws.{Open, first_then, gate-first, gate-refused, behind-gate, gate-open, open-gate, verdict-answered, verdict-session, answered-either}
use Rattle.migration.specs.Migration.{sweep_when, stops_at, stopped, sweep_tests, sweep_change, sweep_next, sweep_code, sweep_verdict, on_all}
use Rattle.migration.specs.Migration.{alone_when, alone_tests, alone_change, alone_next, alone_code, alone_verdict, alone_answer, on_session}
use Rattle.migration.specs.Token.{Granted, Refused, InTheWay, TokenNumbers, TokenAnswer, token_says, token_gate, token_code, in_the_way, token_for, token_out, token_told, token_change, refused_by, token_of, token_answer_of, token_found}
use Rattle.migration.specs.declared.token.Obstacle.{Obstacle}
use Rattle.migration.specs.declared.token.Obstacle.TheVariants as obstacle
use Rattle.migration.specs.declared.Alone.{Alone}
use Rattle.migration.specs.declared.Alone.TheVariants.{NewEpoch, Reset, Abort}

-- ---- the calls on every page

-- their tests have codes of refusals
pub sweep-refuses : (k : Sweep) (s : Session) (stops : Bool) → all_codes refuses (sweep_tests k s stops) ≡ true
sweep-refuses Track s stops = refl
sweep-refuses Start s stops = refl
sweep-refuses Pause s stops = refl

-- past its gate and its tests
abbrev pub SweepOpen : Sweep → Session → List ℕ → Type 0
SweepOpen k s t = Open s (length t) (phases_of (sweep_when k)) (sweep_tests k s (stopped (stops_at k) t))

pub sweep-open : (k : Sweep) (s : Session) (t : List ℕ) → sweep_code k s t ≡ 0 → SweepOpen k s t
unfolding sweep_code
sweep-open k s t e = gate-open s (length t) (phases_of (sweep_when k)) (sweep_tests k s _) (refuses-coded (sweep_tests k s _) (sweep-refuses k s _)) e

module _ (P : Outcome → Type 0) (k : Sweep) (s : Session) (t : List ℕ) where
  -- what holds of the outcome of a call that is done and of the one that gives back what came
  pub all_either :
      (SweepOpen k s t → P (outcome 0 (sweep_next k s) (sweep_of (on_words (swept_by k)) t))) →
      (eqb (sweep_code k s t) 0 ≡ false → P (outcome (sweep_code k s t) s t)) →
      P (on_all k s t)
  unfolding on_all
  all_either made kept =
      answered-either P (sweep_code k s t) s t (sweep_next k s) (sweep_of (on_words (swept_by k)) t)
      (λ q. let z = eqb-true (sweep_code k s t) 0 q in rw z (made (sweep-open k s t z)))
      kept

-- the call is what it comes to from what it is told: the table is asked for only where the gate is passed
pub sweep-told : (k : Sweep) (s : Session) (t : List ℕ) (gate : ℕ) (stops : Bool) → gate ≡ gated s (length t) (phases_of (sweep_when k)) [] →
    (gate ≡ 0 → stops ≡ stopped (stops_at k) t) →
    let v = sweep_verdict k gate s.clock (busy s) stops in
    answered_by (swept_by k) v.code s (changed_by v.change s) t ≡ on_all k s t
unfolding sweep_verdict on_all sweep_code
sweep-told k s t gate stops e f =
    rw (behind-gate s (length t) (phases_of (sweep_when k)) (sweep_tests k s stops) (sweep_tests k s (stopped (stops_at k) t)) gate e
    (λ z. ap (λ (b : Bool). first_of (sweep_tests k s b)) (f z)))
    (verdict-answered _ (sweep_change k s.clock) s t (sweep_of (on_words (swept_by k)) t))

-- a gate that refuses, and a verdict that does, give back what came
pub sweep-gate : (k : Sweep) (s : Session) (t : List ℕ) (r : Refusal) → number_of r ≡ gated s (length t) (phases_of (sweep_when k)) [] →
    outcome (number_of r) s t ≡ on_all k s t
unfolding on_all sweep_code answered
sweep-gate k s t r e =
    rw (gate-refused s (length t) (phases_of (sweep_when k)) (sweep_tests k s (stopped (stops_at k) t)) r e, number-pos r)

pub sweep-refused : (k : Sweep) (s : Session) (t : List ℕ) (r : Refusal) → answered_by (swept_by k) (number_of r) s s t ≡ outcome (number_of r) s t
unfolding answered
sweep-refused k s t r = rw (number-pos r)

-- ---- the calls on the session alone

pub alone-refuses : (k : Alone) (s : Session) → all_codes refuses (alone_tests k s) ≡ true
alone-refuses NewEpoch s = refl
alone-refuses Reset s = refl
alone-refuses Abort s = refl

abbrev pub AloneOpen : Alone → Session → ℕ → Type 0
AloneOpen k s len = Open s len (phases_of (alone_when k)) (alone_tests k s)

pub alone-open : (k : Alone) (s : Session) (len : ℕ) → alone_code k s len ≡ 0 → AloneOpen k s len
unfolding alone_code
alone-open k s len e = gate-open s len (phases_of (alone_when k)) (alone_tests k s) (refuses-coded (alone_tests k s) (alone-refuses k s)) e

module _ (P : Outcome → Type 0) (k : Alone) (s : Session) (t : List ℕ) where
  pub alone-either :
      (AloneOpen k s (length t) → P (outcome 0 (alone_next k s) t)) →
      (eqb (alone_code k s (length t)) 0 ≡ false → P (outcome (alone_code k s (length t)) s t)) →
      P (on_session k s t)
  unfolding on_session
  alone-either made kept =
      answered-either P (alone_code k s (length t)) s t (alone_next k s) t
      (λ q. let z = eqb-true (alone_code k s (length t)) 0 q in rw z (made (alone-open k s (length t) z)))
      kept

-- one that is past its gate and its tests is done
pub alone-done : (k : Alone) (s : Session) (t : List ℕ) → AloneOpen k s (length t) → on_session k s t ≡ outcome 0 (alone_next k s) t
unfolding on_session alone_code answered
alone-done k s t o = rw (open-gate s (length t) (phases_of (alone_when k)) (alone_tests k s) o)

pub alone-answer : (k : Alone) (s : Session) (len : ℕ) (t : List ℕ) → length t ≡ len → alone_answer k s len ≡ (on_session k s t).answer
unfolding alone_answer on_session answered
alone-answer k s len t e = rw (← e)

-- the answer is what it comes to from its gate's code
pub alone-told : (k : Alone) (s : Session) (len gate : ℕ) → gate ≡ gated s len (phases_of (alone_when k)) [] →
    let v = alone_verdict k gate s.epoch (busy s) in
    record { code = v.code; session = changed_by v.change s } ≡ alone_answer k s len
unfolding alone_verdict alone_answer alone_code
alone-told k s len gate e =
    rw (e, ← gate-first s len (phases_of (alone_when k)) (alone_tests k s))
    (ap (λ (x : Session). record { code = alone_code k s len; session = x }) (verdict-session (alone_code k s len) (alone_change k s.epoch) s))

-- a gate that refuses gives back what came
pub alone-gate : (k : Alone) (s : Session) (len : ℕ) (r : Refusal) → number_of r ≡ gated s len (phases_of (alone_when k)) [] →
    record { code = number_of r; session = s } ≡ alone_answer k s len
unfolding alone_answer alone_code
alone-gate k s len r e = rw (gate-refused s len (phases_of (alone_when k)) (alone_tests k s) r e, number-pos r)

-- they leave the table
pub alone-table : (k : Alone) (s : Session) (t : List ℕ) → (on_session k s t).table ≡ t
alone-table k s t = alone-either (λ (o : Outcome). o.table ≡ t) k s t (λ o. refl) (λ e. refl)

-- ---- the token

pub token-numbers : (code : ℕ) (t : List ℕ) → token_says (token_for code t) ≡ record { code = code; page = in_the_way code t }
unfolding token_for in_the_way
token-numbers code t =
    go (lowest gives53 (page_count t) 0 t) (lowest gives54 (page_count t) 0 t) (eqb code codes.done) refl (eqb code codes.exported_dirty_pages_remain) refl
    (eqb code codes.unexported_memory_remains) refl
  where
    go :
        (x y : ℕ) (a : Bool) →
        eqb code codes.done ≡ a →
        (b : Bool) →
        eqb code codes.exported_dirty_pages_remain ≡ b →
        (c : Bool) →
        eqb code codes.unexported_memory_remains ≡ c →
        token_says (cond a Granted (cond (b || c) (InTheWay code (cond b x (cond c y 0))) (Refused code))) ≡ record { code = code; page = cond b x (cond c y 0) }
    go x y true e b f c g = rw (← f, ← g, eqb-true code codes.done e)
    go x y false e true f c g = refl
    go x y false e false f true g = refl
    go x y false e false f false g = refl

pub token-number : (code : ℕ) (t : List ℕ) → (token_says (token_for code t)).code ≡ code
token-number code t = ap (λ (n : TokenNumbers). n.code) (token-numbers code t)

abbrev looks : List ℕ → List Test
looks t = some gives53 t gives codes.exported_dirty_pages_remain ∷ some gives54 t gives codes.unexported_memory_remains ∷ []

abbrev with_page : ℕ → Bool
with_page n = eqb n codes.exported_dirty_pages_remain || eqb n codes.unexported_memory_remains

-- what stands before the token's look at the table goes before 53 and 54, and names no page
module _ (s : Session) (t : List ℕ) (gate : ℕ) (e : gate ≡ gated s (length t) (phases_of when.Blackout) (token_gate s)) where
  token-gated : token_code s t ≡ behind gate (looks t)
  unfolding token_code gated
  token-gated = rw e (first_then (gate_tests s (length t) (phases_of when.Blackout) (token_gate s)) (looks t) refl)

  no-page : with_page gate ≡ false
  unfolding gated
  no-page =
      not-true (with_page gate)
      (rw e (first-all (λ n. not (with_page n)) (gate_tests s (length t) (phases_of when.Blackout) (token_gate s)) refl refl))

cases : {P : Type 0} (b : Bool) → (b ≡ true → P) → (b ≡ false → P) → P
cases true f g = f refl
cases false f g = g refl

pub token-told : (s : Session) (t : List ℕ) (gate pages first53 first54 : ℕ) → gate ≡ gated s (length t) (phases_of when.Blackout) (token_gate s) →
    pages ≡ page_count t → (gate ≡ 0 → first53 ≡ lowest gives53 (page_count t) 0 t) → (gate ≡ 0 → pages ≤ first53 → first54 ≡ lowest gives54 (page_count t) 0 t) →
    let token = token_told gate pages first53 first54 in
    record { token = token; session = changed_by (token_change token) s } ≡ token_out s t
unfolding token_told token_out token_for in_the_way some
token-told s t gate pages first53 first54 e n f g =
    cases (eqb gate 0)
    (λ z.
    cases (ltb first53 pages)
    (λ x. rw (token-gated s t gate e, z, ← f (eqb-true _ _ z), ← n, x))
    (λ x.
    cases (ltb first54 pages)
    (λ y. rw (token-gated s t gate e, z, ← f (eqb-true _ _ z), ← g (eqb-true _ _ z) (ltb-false _ _ x), ← n, x, y))
    (λ y. rw (token-gated s t gate e, z, ← f (eqb-true _ _ z), ← g (eqb-true _ _ z) (ltb-false _ _ x), ← n, x, y))))
    (λ z. rw (token-gated s t gate e, z, z, no-page s t gate e))

-- a refusal before the look at the table names no page
pub token-refused : (s : Session) (t : List ℕ) (r : Refusal) → number_of r ≡ gated s (length t) (phases_of when.Blackout) (token_gate s) →
    record { token = Refused (number_of r); session = s } ≡ token_out s t
unfolding token_told
token-refused s t r e =
    rw (← token-told s t (number_of r) (page_count t) _ _ e refl (λ z. refl) (λ z h. refl), number-pos r)

-- past it, the case is by what is found
pub token-passed : (s : Session) (t : List ℕ) → 0 ≡ gated s (length t) (phases_of when.Blackout) (token_gate s) →
    let token = token_found (first_page gives53 t) (first_page gives54 t) in
    record { token = token; session = changed_by (token_change token) s } ≡ token_out s t
unfolding token_told
token-passed s t e = token-told s t 0 (page_count t) _ _ e refl (λ z. refl) (λ z h. refl)

-- a refusal changes nothing
pub refused-nothing : (o : Obstacle) → token_change (refused_by o) ≡ Nothing
refused-nothing (obstacle.Refused r) = refl
refused-nothing (obstacle.InTheWay r page) = refl

-- the numbers of the token that code gives as a `Result`
pub token-says : (s : Session) (t : List ℕ) (r : Result Session Obstacle) → token_answer_of s r ≡ token_out s t →
    token_says (token_of r) ≡ record { code = token_code s t; page = in_the_way (token_code s t) t }
unfolding token_out
token-says s t (Ok s') e = ap (λ (a : TokenAnswer). token_says a.token) e ∙ token-numbers (token_code s t) t
token-says s t (Err o) e = ap (λ (a : TokenAnswer). token_says a.token) e ∙ token-numbers (token_code s t) t
