-- A digest stays below the prime, so that with a word's two halves, each below 2 ^ 32, no sum wraps.
use Rattle.std.proofs.Common.{rules, ◌<◌}
use Rattle.std.proofs.lemmas.Fn.{serves_by}
use Rattle.scenario.proofs.spaces.Space.digest.Goals as goal

pub fold-requires-clause-callable : goal.fold-requires-clause-callable
fold-requires-clause-callable c = serves_by _ (λ _ q. q.1 < 4294967291) (λ _ q x v j r. search rules) _ _ _ _ (search rules) (λ _ t q x u y s j. search rules)
