-- One entry computes, and so does what it finds; of many, a page's latest entry is what the log says of it, in no order.
use mathlib.Core.Path.{◌≡◌, refl, sym, ap, subst, ◌∙◌}
use mathlib.Core.Logic.{◌⊎◌, inl, inr}
use mathlib.Core.List.Memᴰ
use mathlib.Core.List.{List, [], ◌∷◌, Memᴰ}
use borrow.Author.Tests.{eq-eqb, ne_eqb}
use Rattle.bundle.specs.Bundle.{Holding, absent, holds, Operation, migrate, cancel, remigrate, Sent, made, made_by, Once, Present, Fits}
use Rattle.bundle.specs.Promises.{Receives, LastDecides, FitsOnly}
use Rattle.bundle.proofs.Replay.{none-past, replay-past, perm-reordered}

made-present : (o : Operation) (pending contents : _) → (o ≡ cancel → ⊥) → made o pending contents ≡ holds pending contents
made-present migrate pending contents n = refl
made-present cancel pending contents n = absurd (n refl)
made-present remigrate pending contents n = refl

pub receives : Receives
receives =
    record {
      present = λ d x n. rw (eq-eqb x.page x.page refl) (made-present x.operation x.pending x.contents n);
      gone = λ d x e. rw (eq-eqb x.page x.page refl, e);
      others = λ d x i n. rw (ne_eqb x.page i n);
    }

-- an entry is the only one of its page in its epoch
once-same : (log : List Sent) → Once log → (x y : Sent) → Memᴰ x log → Memᴰ y log → y.page ≡ x.page → y.epoch ≡ x.epoch → y ≡ x
once-same [] o x y m n a b = absurd (Memᴰ.not-nil m)
once-same (z ∷ log) o x y m n a b = go (Memᴰ.cases_cons m) (Memᴰ.cases_cons n) (once-same log o.1 x y)
  where
    go : (x ≡ z) ⊎ Memᴰ x log → (y ≡ z) ⊎ Memᴰ y log → (Memᴰ x log → Memᴰ y log → y.page ≡ x.page → y.epoch ≡ x.epoch → y ≡ x) → y ≡ x
    go (inl p) (inl q) f = q ∙ sym p
    go (inl p) (inr q) f = absurd (o.0 y q (a ∙ ap (λ (v : Sent). v.page) p) (b ∙ ap (λ (v : Sent). v.epoch) p))
    go (inr p) (inl q) f = absurd (o.0 x p (sym a ∙ ap (λ (v : Sent). v.page) q) (sym b ∙ ap (λ (v : Sent). v.epoch) q))
    go (inr p) (inr q) f = f p q a b

pub last-decides : LastDecides
last-decides =
    record {
      last = λ log l o r x m k.
          replay-past x.page x.epoch (made_by x) log l
          (record { below = k; top = λ y n a b. ap made_by (once-same log o x y m n a b); found = inr (x, m, refl, refl) })
          (perm-reordered r.same r.rising);
      none = λ log l r i n. replay-past i 0 absent log l (none-past i log n) (perm-reordered r.same r.rising);
    }

-- an absent page is not present
fits-again : (o : Operation) (h : Holding) → (o ≡ migrate → ⊥) → Fits o h → h ≡ absent → ⊥
fits-again migrate h n f e = n refl
fits-again cancel h n f e = subst Present e f
fits-again remigrate h n f e = subst Present e f

pub fits-only : FitsOnly
fits-only = record { first = λ h f. f; again = fits-again }
