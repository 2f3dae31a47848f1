-- What callers know of the gate, and of a session that has passed it. They use these laws, and not the text of `formed`.
use mathlib.Core.Path.{◌≡◌, refl, ap}
use mathlib.Core.Bool.{Bool, true, false, cond, not}
use mathlib.Core.List.{List, [], ◌∷◌, ◌++◌}
use Prim.Native.Nat.{ℕ, ◌+◌, ◌≤◌, ◌<◌}
use native.Mathlib.Omega.{arith}
use lib.Dec.{eqb, ltb}
use borrow.Author.Tests.{ltb-true, eqb-true, ne_eqb}
use Rattle.refusals.specs.Refusals.{Test, first_of, number_of}
use Rattle.refusals.specs.declared.Refusal.{Refusal}
use Rattle.refusals.proofs.Laws.{and_left, and_right, not-false, Passed, coded, passed, passed-code, Ends, once, ended, number-pos}
use Rattle.session.specs.Session.{among, changed_by}
use Rattle.session.specs.Formed.{formed, phase_tests, gate_tests, gated, behind}
use Rattle.session.specs.Outcome.{Outcome, Answer, outcome, verdict_for, answered}
use Rattle.session.specs.declared.Phase.{Phase}
use Rattle.session.specs.declared.Session.{Session}
use Rattle.session.specs.declared.changes.Change.{Change}
use Rattle.session.specs.declared.changes.Change.TheVariants.{Nothing}

pub below_next : (a b : ℕ) → a ≤ b → a ≤ b + 1
below_next a b h = omega arith

-- what the first tests give goes before the others
pub first_then : (l m : List Test) → coded l ≡ true → first_of (l ++ m) ≡ behind (first_of l) m
first_then [] m k = refl
first_then (t ∷ l) m k = go t.holds (first_then l m (and_right (ltb 0 t.code) (coded l) k))
  where
    go : (b : Bool) → first_of (l ++ m) ≡ behind (first_of l) m → cond b t.code (first_of (l ++ m)) ≡ behind (cond b t.code (first_of l)) m
    go true e = rw (ne_eqb t.code 0 (λ z. omega (arith, z, ltb-true 0 t.code (and_left (ltb 0 t.code) (coded l) k))))
    go false e = e

-- the gate's code goes before a call's own tests
pub gate-first : (s : Session) (len : ℕ) (phases : List Phase) (l : List Test) → gated s len phases l ≡ behind (gated s len phases []) l
unfolding gated
gate-first s len phases l = first_then (gate_tests s len phases []) l refl

-- a gate that refuses, refuses the call
pub gate-refused : (s : Session) (len : ℕ) (phases : List Phase) (l : List Test) (r : Refusal) → number_of r ≡ gated s len phases [] →
    gated s len phases l ≡ number_of r
gate-refused s len phases l r e = rw (gate-first s len phases l, ← e, number-pos r)

-- and behind one that lets it through stand its own tests
pub gate-passed : (s : Session) (len : ℕ) (phases : List Phase) (l : List Test) → 0 ≡ gated s len phases [] → gated s len phases l ≡ first_of l
gate-passed s len phases l e = rw (gate-first s len phases l, ← e)

-- behind 40 the gate asks for the phase alone
pub gate-formed : (s : Session) (len : ℕ) (phases : List Phase) (l : List Test) → formed s len ≡ true →
    gated s len phases l ≡ first_of (phase_tests s.phase phases l)
unfolding gated
gate-formed s len phases l f = rw f

-- a call that is told its gate's code, and with 0 what its own tests give
pub behind-gate : (s : Session) (len : ℕ) (phases : List Phase) (l m : List Test) (gate : ℕ) → gate ≡ gated s len phases [] →
    (gate ≡ 0 → first_of l ≡ first_of m) → behind gate l ≡ gated s len phases m
behind-gate s len phases l m gate e same = rw (gate-first s len phases m, ← e) (go (eqb gate 0) refl)
  where
    go : (b : Bool) → eqb gate 0 ≡ b → cond b (first_of l) gate ≡ cond b (first_of m) gate
    go true q = same (eqb-true gate 0 q)
    go false q = refl

-- a change that is made only with code 0 is that of the answer
pub verdict-answered : (code : ℕ) (change : Change) (s : Session) (t t' : List ℕ) →
    answered code s t (changed_by (verdict_for code change).change s) t' ≡ answered code s t (changed_by change s) t'
unfolding answered
verdict-answered code change s t t' = go (eqb code 0)
  where
    go : (b : Bool) → ◌≡◌ {A = Outcome}
        (record { answer = record { code = code; session = cond b (changed_by (cond b change Nothing) s) s }; table = cond b t' t })
        (record { answer = record { code = code; session = cond b (changed_by change s) s }; table = cond b t' t })
    go true = refl
    go false = refl

-- and with any code the session is the answer's
pub verdict-session : (code : ℕ) (change : Change) (s : Session) → changed_by (verdict_for code change).change s ≡ cond (eqb code 0) (changed_by change s) s
verdict-session code change s = go (eqb code 0)
  where
    go : (b : Bool) → changed_by (cond b change Nothing) s ≡ cond b (changed_by change s) s
    go true = refl
    go false = refl

-- what holds of the outcome that a call makes and of the one that gives back what came holds of its answer
pub answered-either : (P : Outcome → Type 0) (code : ℕ) (s : Session) (t : List ℕ) (s' : Session) (t' : List ℕ) → (eqb code 0 ≡ true → P (outcome code s' t')) →
    (eqb code 0 ≡ false → P (outcome code s t)) → P (answered code s t s' t')
unfolding answered
answered-either P code s t s' t' made kept = go (eqb code 0) made kept
  where
    go : (b : Bool) → (b ≡ true → P (outcome code s' t')) → (b ≡ false → P (outcome code s t)) →
        P (record { answer = record { code = code; session = cond b s' s }; table = cond b t' t })
    go true made kept = made refl
    go false made kept = kept refl

-- whoever has the answer knows the table, and need not make the answer again
module _ (code : ℕ) (s : Session) (t : List ℕ) (s' : Session) (t' : List ℕ) (a : Answer) (e : a ≡ (answered code s t s' t').answer) where
  pub answered-table : (answered code s t s' t').table ≡ cond (eqb a.code 0) t' t
  answered-table =
      rw e (answered-either (λ (o : Outcome). o.table ≡ cond (eqb o.answer.code 0) t' t) code s t s' t' (λ z. rw z) (λ n. rw n))

  pub answered-again : answered a.code s t a.session t' ≡ answered code s t s' t'
  unfolding answered
  answered-again =
      rw e (answered-either (λ (o : Outcome). answered o.answer.code s t o.answer.session t' ≡ o) code s t s' t' (λ z. rw z) (λ n. rw n))

-- behind the gate, and behind the call's own tests
pub record Open (s : Session) (len : ℕ) (phases : List Phase) (l : List Test) : Type 0 where
  pub formed : formed s len ≡ true
  pub comes : among phases s.phase ≡ true
  pub passed : Passed l

module _ (s : Session) (len : ℕ) (phases : List Phase) (l : List Test) where
  pub gate-open : coded l ≡ true → gated s len phases l ≡ 0 → Open s len phases l
  unfolding gated
  gate-open k e =
      let p = passed (gate_tests s len phases l) k e in
      record { formed = not-false (formed s len) p.0; comes = not-false (among phases s.phase) p.1.0; passed = p.1.1 }

  pub open-gate : Open s len phases l → gated s len phases l ≡ 0
  unfolding gated
  open-gate o = passed-code (gate_tests s len phases l) (ap not o.formed, (ap not o.comes, o.passed))

  -- a code that is not 0 comes from the one test that has it
  pub gate-ended : (n : ℕ) → 0 < n → once (gate_tests s len phases l) n ≡ true → gated s len phases l ≡ n → Ends (gate_tests s len phases l) n
  unfolding gated
  gate-ended n h k e = ended (gate_tests s len phases l) n h k e
