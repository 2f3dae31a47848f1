-- What is left to scan gives what the whole scan gives: each round either stops or goes on to the next page. A page that is neither blocked nor listed stops no
-- scan that has budget left.
use borrow.Author.Rules.{rules}
use mathlib.Core.Path.{◌≡◌, refl, sym, ◌∙◌}
use mathlib.Core.Bool.{Bool, false}
use Prim.Native.Nat.{ℕ, ◌≤◌, ◌<◌}
use native.Mathlib.Omega.{arith}
use borrow.Author.Tests.{lt-leb, le-leb}
use Rattle.std.proofs.Common.{Some}
use Rattle.std.proofs.lemmas.Grind.{common_steps}
use Rattle.refusals.specs.declared.Ending.TheVariants.{Interrupted}
use Rattle.scan.specs.Scan.{stop_code, Stops}
use Rattle.scan.specs.declared.Scan.{Scan}
use Rattle.scan.proofs.Laws.{stop-room, scan-stops, scan-visits, scan-ends, parts, and-false}
use Rattle.scan.proofs.scan_part.Goals.{then-blocked-listed+in_default+then-listed, then-blocked-listed+in_default+else-listed, else-blocked-listed}
use Rattle.scan.proofs.scan_part.Goals as goal

-- the budget is asked first
spent : (scan : Scan) (b l : Bool) (i put room : ℕ) → scan.budget ≤ i → Stops (stop_code scan b l i put room) (Some Interrupted)
unfolding stop_code
spent scan b l i put room h = rw (le-leb _ _ h) (refl, refl)

-- and with some left
passed : (scan : Scan) (i put room : ℕ) → i < scan.budget → stop_code scan false false i put room ≡ 0
unfolding stop_code
passed scan i put room h = rw (lt-leb _ _ h, and-false scan.checking)

pub returns-then-i-scan : goal.returns-then-i-scan
returns-then-i-scan g c =
    let words = g.T.Form.words in
    let a = c.args in
    let all = parts (sym (scan-stops _ a.scan c.loop-i.i c.loop-i.put (words c.loop-i.part) (words c.loop-i.list) _ _ _ c.loop-i-test.true refl refl refl Interrupted
    (spent a.scan _ _ c.loop-i.i c.loop-i.put _ c.if-i-scan.true))
    ∙ c.loop-i.invariant) in
    record {
      value = all.0;
      part_after = all.1.0;
      list_after = all.1.1;
    }

pub returns-in-Some : goal.returns-in-Some
returns-in-Some g c =
    let words = g.T.Form.words in
    let a = c.args in
    let all = parts (sym (scan-stops _ a.scan c.loop-i.i c.loop-i.put (words c.loop-i.part) (words c.loop-i.list) _ _ _ c.loop-i-test.true c.reached-words.ensures
    c.is_blocked-blocked.ensures c.is_listed-listed.ensures c.in-Some.ending (rw c.len.ensures at c.in-Some.ensures))
    ∙ c.loop-i.invariant) in
    record {
      value = all.0;
      part_after = all.1.0;
      list_after = all.1.1;
    }

pub overflow_add-put : goal.overflow_add-put
overflow_add-put g c =
    let room : c.loop-i.put < c.len.result = stop-room _ _ _ _ _ _ c.in_default.ensures c.if-listed.true in
    search rules

pub loop-i-preserved : goal.loop-i-preserved
loop-i-preserved g c =
    let words = g.T.Form.words in
    let was = c.loop-i in
    let scan = c.args.scan in
    elim c.if-blocked-listed.branch [
      | then-blocked-listed+in_default+then-listed w ↦
          let e = sym (scan-visits _ scan was.i was.put (words was.part) (words was.list) _ _ _ c.loop-i-test.true c.reached-words.ensures
          c.is_blocked-blocked.ensures c.is_listed-listed.ensures (rw w.len.ensures at w.in_default.ensures)) ∙ was.invariant in
          rw (w.put-is, w.part-is, w.list-is, w.visit.ensures.part_after, w.visit.ensures.list_after) (rw w.if-listed.true at e)
      | then-blocked-listed+in_default+else-listed w ↦
          let e = sym (scan-visits _ scan was.i was.put (words was.part) (words was.list) _ _ _ c.loop-i-test.true c.reached-words.ensures
          c.is_blocked-blocked.ensures c.is_listed-listed.ensures (rw w.len.ensures at w.in_default.ensures)) ∙ was.invariant in
          rw (w.put-is, w.part-is, w.list-is) (rw w.if-listed.false at e)
      | else-blocked-listed w ↦
          let no = w.if-blocked-listed.false in
          let unblocked : c.is_blocked-blocked.result ≡ false = grind (arith, common_steps) in
          let unlisted : c.is_listed-listed.result ≡ false = grind (arith, common_steps) in
          rw (w.put-is, w.part-is, w.list-is)
          (sym (scan-visits _ scan was.i was.put (words was.part) (words was.list) c.reached-words.result false false c.loop-i-test.true
          c.reached-words.ensures (sym unblocked ∙ c.is_blocked-blocked.ensures) (sym unlisted ∙ c.is_listed-listed.ensures)
          (passed scan was.i was.put _ c.if-i-scan.false)) ∙ was.invariant)
    ]

pub returns : goal.returns
returns g c =
    let all = parts (sym (scan-ends _ _ _ _ _ _ _ c.loop-i.auto.i-end c.loop-i-test.false c.end.ensures)
    ∙ c.loop-i.invariant) in
    record {
      value = all.0;
      part_after = all.1.0;
      list_after = all.1.1;
    }
