-- Three words, one behind the other, with the flags' bits.
use mathlib.Core.Path.{refl}
use mathlib.Core.List.{[], ◌∷◌}
use Rattle.wire.proofs.ChangeLaws.{put_then}
use Rattle.wire.proofs.sessions.put_check.Goals as goal

pub returns : goal.returns
returns c = rw (
  c.put_number-3.ensures,
  c.put_number-2.ensures,
  c.put_number.ensures,
  c.from-2.ensures,
  c.from.ensures,
  put_then _ (_ ∷ []) (_ ∷ []) 5 6 refl,
  put_then _ (_ ∷ _ ∷ []) (_ ∷ []) 5 7 refl,
)
