-- After i rounds the three say what there is among the first i streams.
use native.Mathlib.Numerals.{add-one}
use native.Mathlib.Omega.{arith}
use mathlib.Core.Path.{◌≡◌, ap, ◌∙◌}
use Rattle.session.specs.Session.{stream_places}
use Rattle.session.specs.Formed.{busy}
use Rattle.session.specs.declared.streams.Found.{Found}
use Rattle.session.proofs.FormedLaws.{some-runs}
use Rattle.session.proofs.streams.find_interrupted.Goals as goal
use Rattle.session.proofs.streams.find_interrupted.Invariants.{found_below}

pub loop-i-preserved : goal.loop-i-preserved
loop-i-preserved c = let found = c.loop-i.invariant in
    rw (
      add-one c.loop-i.i,
      ap (λ (x : Found). x.any) found,
      ap (λ (x : Found). x.outside) found,
      ap (λ (x : Found). x.unusable) found,
      c.is_some-interrupted.ensures,
      some-runs,
      c.is_in_range.ensures,
      c.is_usable.ensures,
    )

pub returns : goal.returns
unfolding busy
returns c = let end : c.loop-i.i ≡ stream_places = omega arith in
    c.loop-i.invariant ∙ ap (found_below c.args.s) end
