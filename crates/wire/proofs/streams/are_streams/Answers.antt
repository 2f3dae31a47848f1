-- Every stream is as it may be where none of them is otherwise.
use mathlib.Core.Path.{◌≡◌, refl, ◌∙◌}
use mathlib.Core.Bool.{Bool, true, false, not, ◌&&◌, ◌||◌}
use Prim.Native.Nat.{ℕ, ◌+◌}
use lib.Dec.{ltb}
use Rattle.std.proofs.Common.{rules, tests}
use Rattle.std.proofs.lemmas.Iterator.{YieldsList-from_range}
use Rattle.std.proofs.lemmas.Iterator.Search.{all_from_yields_List}
use Rattle.session.specs.Session.{stream_places}
use Rattle.wire.specs.Bytes.{words_of}
use Rattle.wire.specs.Sessions.{stream_place, five_at, stream_formed, streams_formed}
use Rattle.wire.proofs.streams.are_streams.Goals as goal

eight : (a b c d e f g h : Bool) →
    (a && (b && (c && (d && (e && (f && (g && (h && true)))))))) ≡ not (not a || not b || not c || not d || not e || not f || not g || not h)
eight true true true true true true true true = refl
eight true true true true true true true false = refl
eight true true true true true true false h = refl
eight true true true true true false g h = refl
eight true true true true false f g h = refl
eight true true true false e f g h = refl
eight true true false d e f g h = refl
eight true false c d e f g h = refl
eight false b c d e f g h = refl

pub returns : goal.returns
unfolding streams_formed
returns c = let good : ℕ → Bool = λ i. stream_formed (ltb (i + 1) c.args.created && c.args.moves) (five_at (words_of c.args.b.now) (stream_place i)) in
    all_from_yields_List good _ _ c.all.result c.all.ensures.ran (YieldsList-from_range 0 stream_places stream_places refl refl) (λ x b q k. search (rules, tests))
    ∙ eight (good 0) (good 1) (good 2) (good 3) (good 4) (good 5) (good 6) (good 7)
