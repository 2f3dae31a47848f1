-- The driver's calls are tied to those of a driver of the engine, so the token is earned as it is there; and each call behind a rehearsal makes a longer one.
use mathlib.Core.Path.{◌≡◌, refl, sym, ap, subst, ◌∙◌}
use mathlib.Core.List.{List, [], ◌∷◌, ◌++◌, map}
use Prim.Native.Nat.{ℕ, zero, suc}
use lib.Dec.{eqb}
use lib.ListN.{length, length-map}
use Rattle.words.specs.Codes as codes
use Rattle.refusals.proofs.Laws.{either}
use Rattle.history.specs.History as history
use Rattle.history.specs.Earning as earning
use Rattle.history.proofs.Earned.{earned}
use Rattle.wire.specs.Bytes.{bytes_of}
use Rattle.rehearsal.specs.Rehearsal.{Function, new_epoch, reset, Operands, Host, left_in, after, run, AllOperands, at_end}
use Rattle.rehearsal.specs.Driver.{asking, Checked, checked, check, exporting, driven}
use Rattle.rehearsal.specs.Promises.{Reached, EarnedOnBytes}
use Rattle.rehearsal.proofs.Tied.{Tied}
use Rattle.rehearsal.proofs.Plays.{playing, end-tied, granted-same}
use Rattle.rehearsal.proofs.Paused.{paused-there}
use Rattle.rehearsal.proofs.Driving.{AllShort, asking-operands, exporting-operands, check_both, driven-tied}

-- ---- one call more

more-operands : (l : List Function) (f : Function) → AllOperands l → Operands f → AllOperands (l ++ (f ∷ []))
more-operands [] f a o = (o, tt)
more-operands (g ∷ l) f a o = (a.0, more-operands l f a.1 o)

run_more : (l : List Function) (h : Host) (f : Function) → run h (l ++ (f ∷ [])) ≡ after (run h l) f
run_more [] h f = refl
run_more (g ∷ l) h f = run_more l (after h g) f

after-reached : (h : Host) (f : Function) → Operands f → Reached h → Reached (after h f)
after-reached h f o x =
    let r = x.rehearsal in
    record {
      rehearsal = record {
        session = r.session;
        table = r.table;
        streams = r.streams;
        new = r.new;
        calls = r.calls ++ (f ∷ []);
        operands = more-operands r.calls f r.operands o;
      };
      there = run_more r.calls _ f ∙ ap (λ (g : Host). after g f) x.there;
    }

-- ---- the driver's

checked-reached : (n : ℕ) (h : Host) → Reached h → Reached (checked h n).host
checked-reached zero h x = x
checked-reached (suc n) h x =
    let y = after-reached h asking asking-operands x in
    either (λ (c : Checked). Reached c.host) (eqb (left_in h asking).answer.code codes.check_complete) (λ e. y)
    (λ e. checked-reached n (after h asking) y)

exports-reached : (ls : List (List ℕ)) → AllShort ls → (h : Host) → Reached h → Reached (run h (map exporting (map bytes_of ls)))
exports-reached [] a h x = x
exports-reached (l ∷ ls) a h x =
    exports-reached ls a.1 _ (after-reached h (exporting (bytes_of l)) (exporting-operands l a.0) x)

driven-reached : (h : Host) (w : history.World) → Tied h w → Reached h → Reached (driven h)
driven-reached h w k x =
    let c = check_both h w k in
    subst (λ (ls : List (List ℕ)). Reached (run (after (check h).host new_epoch) (map exporting ls))) (sym c.lists)
    (exports-reached (earning.check w earning.full_asks).lists c.short _
    (after-reached _ new_epoch tt (checked-reached earning.most_lists (after h reset) (after-reached h reset tt x))))

pub earned-on-bytes : EarnedOnBytes
earned-on-bytes =
    record {
      always = λ r p.
          let w = history.at_end (playing r) in
          let k = end-tied r in
          let e = earned.always (playing r) (paused-there (at_end r) w k p) in
          let same = ap length (check_both (at_end r) w k).lists ∙ length-map (earning.check w earning.full_asks).lists bytes_of in
          (granted-same (driven (at_end r)) _ (driven-tied (at_end r) w k) ∙ e.0, rw same e.1);
      reached = λ r. driven-reached (at_end r) (history.at_end (playing r)) (end-tied r) (record { rehearsal = r; there = refl });
    }
