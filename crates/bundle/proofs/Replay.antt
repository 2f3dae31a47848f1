-- What replay gives depends on no order inside an epoch: a page ends as the entry of its latest epoch says, which either is still to come or has come with none
-- older behind it; and at its turn an entry finds what the entries of its page from earlier epochs have made.
use mathlib.Core.Path.{◌≡◌, refl, sym, ap, ◌∙◌}
use mathlib.Core.Logic.{◌⊎◌, inl, inr, ⊎_elim}
use mathlib.Core.List.Memᴰ
use mathlib.Core.List.{List, [], ◌∷◌, ◌++◌, Memᴰ}
use mathlib.Core.List.Permᴰ
use mathlib.Core.List.{Permᴰ}
use Prim.Native.Nat.{ℕ, ◌≤◌, ◌<◌}
use native.Mathlib.Omega.{arith}
use lib.Dec.{eqb}
use borrow.Author.Tests.{eqb-true, eqb-false}
use Rattle.refusals.proofs.Laws.{either}
use Rattle.bundle.specs.Bundle.{Holding, absent, Sent, made_by, nothing, receiving, replay, Rising, Once, Fits}

-- the entries of a log, with epochs in order, and each epoch's in any order and as often as you like
pub record Reordered (log l : List Sent) : Type 0 where
  pub only : (y : Sent) → Memᴰ y l → Memᴰ y log
  pub every : (y : Sent) → Memᴰ y log → Memᴰ y l
  pub rising : Rising l

-- what the entries say of page i, in no order: `e` is the epoch of its last one, and `h` what that one gives; 0 and absent where there is none
pub record Past (i : ℕ) (log : List Sent) (e : ℕ) (h : Holding) : Type 0 where
  pub below : (y : Sent) → Memᴰ y log → y.page ≡ i → y.epoch ≤ e
  pub top : (y : Sent) → Memᴰ y log → y.page ≡ i → y.epoch ≡ e → made_by y ≡ h
  pub found : ((e ≡ 0) × (h ≡ absent)) ⊎ ((x : Sent) × Memᴰ x log × (x.page ≡ i) × (x.epoch ≡ e))

-- ---- replay

module _ (i e : ℕ) (h : Holding) where
  -- either the destination has it already and no older entry follows, or it comes
  Coming : List Sent → (ℕ → Holding) → Type 0
  Coming l D = ((D i ≡ h) × ((y : Sent) → Memᴰ y l → y.page ≡ i → e ≤ y.epoch)) ⊎ ((x : Sent) × Memᴰ x l × (x.page ≡ i) × (x.epoch ≡ e))

  settle : (l : List Sent) (D : ℕ → Holding) → Rising l → ((y : Sent) → Memᴰ y l → y.page ≡ i → e ≤ y.epoch → made_by y ≡ h) → Coming l D →
      replay D l i ≡ h
  unfolding Coming
  settle [] D r t (inl k) = k.0
  settle [] D r t (inr k) = absurd (Memᴰ.not-nil k.1)
  settle (x ∷ xs) D r t k = settle xs (receiving D x) r.1 (λ y m. t y (Memᴰ.tail m)) (go k)
    where
      near : x.page ≡ i → e ≤ x.epoch → Coming xs (receiving D x)
      near a b =
          inl (
            either (λ (z : Holding). z ≡ h) (eqb x.page i) (λ q. t x (Memᴰ.head refl) a b) (λ q. absurd (eqb-false _ _ q a)),
            λ y m c. omega (arith, b, r.0 y m),
          )

      late : (y : Sent) → y.page ≡ i → y.epoch ≡ e → (y ≡ x) ⊎ Memᴰ y xs → Coming xs (receiving D x)
      late y a b (inl q) = near (ap (λ (z : Sent). z.page) (sym q) ∙ a) (omega (arith, b, ap (λ (z : Sent). z.epoch) q))
      late y a b (inr m) = inr (y, m, a, b)

      go : Coming (x ∷ xs) D → Coming xs (receiving D x)
      go (inl c) =
          inl (
            either (λ (z : Holding). z ≡ h) (eqb x.page i) (λ q. t x (Memᴰ.head refl) (eqb-true _ _ q) (c.1 x (Memᴰ.head refl) (eqb-true _ _ q)))
                (λ q. c.0),
            λ y m a. c.1 y (Memᴰ.tail m) a,
          )
      go (inr c) = late c.0 c.2 c.3 (Memᴰ.cases_cons c.1)

-- whatever the order inside the epochs, the page ends as its last entry says
pub replay-past : (i e : ℕ) (h : Holding) (log l : List Sent) → Past i log e h → Reordered log l → replay nothing l i ≡ h
unfolding Coming
replay-past i e h log l p r =
    settle i e h l nothing r.rising (λ y m a b. p.top y (r.only y m) a (omega (arith, b, p.below y (r.only y m) a))) (from p.found)
  where
    from : ((e ≡ 0) × (h ≡ absent)) ⊎ ((x : Sent) × Memᴰ x log × (x.page ≡ i) × (x.epoch ≡ e)) → Coming i e h l nothing
    from (inl k) = inl (sym k.1, λ y m a. omega (arith, k.0))
    from (inr k) = inr (k.0, r.every k.0 k.1, k.2, k.3)

-- ---- permutations

pub perm-mem : {A : Type 0} {a : A} {l₁ l₂ : List A} → Permᴰ l₁ l₂ → Memᴰ a l₁ → Memᴰ a l₂
perm-mem Permᴰ.nil m = m
perm-mem (Permᴰ.cons e d) m = ⊎_elim (λ q. Memᴰ.head (q ∙ e)) (λ n. Memᴰ.tail (perm-mem d n)) (Memᴰ.cases_cons m)
perm-mem (Permᴰ.swap e₁ e₂) m =
    ⊎_elim
    (λ q. Memᴰ.tail (Memᴰ.head (q ∙ e₁)))
    (λ n. ⊎_elim (λ q. Memᴰ.head (q ∙ e₂)) (λ k. Memᴰ.tail (Memᴰ.tail k)) (Memᴰ.cases_cons n))
    (Memᴰ.cases_cons m)
perm-mem (Permᴰ.trans d₁ d₂) m = perm-mem d₂ (perm-mem d₁ m)

pub perm-reordered : {log l : List Sent} → Permᴰ log l → Rising l → Reordered log l
perm-reordered p r = record { only = λ y m. perm-mem (Permᴰ.symm p) m; every = λ y m. perm-mem p m; rising = r }

-- ---- one entry more

-- a page without an entry
pub none-past : (i : ℕ) (log : List Sent) → ((y : Sent) → Memᴰ y log → y.page ≡ i → ⊥) → Past i log 0 absent
none-past i log n = record { below = λ y m a. absurd (n y m a); top = λ y m a. absurd (n y m a); found = inl (refl, refl) }

pub past-none : (i : ℕ) → Past i [] 0 absent
past-none i = none-past i [] (λ y m. absurd (Memᴰ.not-nil m))

module _ (i : ℕ) (log : List Sent) (e : ℕ) (h : Holding) (p : Past i log e h) (z : Sent) where
  pub past-other : (z.page ≡ i → ⊥) → Past i (log ++ (z ∷ [])) e h
  past-other n =
      record {
        below = λ y m a. ⊎_elim (λ k. p.below y k a) (λ k. absurd (n (at_of y k ∙ a))) (Memᴰ.append_cases log m);
        top = λ y m a. ⊎_elim (λ k. p.top y k a) (λ k. absurd (n (at_of y k ∙ a))) (Memᴰ.append_cases log m);
        found = ⊎_elim (λ k. inl k) (λ k. inr (k.0, Memᴰ.append_left _ k.1, k.2, k.3)) p.found;
      }
    where
      at_of : (y : Sent) → Memᴰ y (z ∷ []) → z.page ≡ y.page
      at_of y k = ap (λ (v : Sent). v.page) (sym (Memᴰ.eq_of_singleton k))

  pub past_more : z.page ≡ i → e < z.epoch → Past i (log ++ (z ∷ [])) z.epoch (made_by z)
  past_more a b =
      record {
        below = λ y m c. ⊎_elim (λ k. omega (arith, b, p.below y k c)) (λ k. omega (arith, epoch-of y k)) (Memᴰ.append_cases log m);
        top = λ y m c q. ⊎_elim (λ k. absurd (omega (arith, b, q, p.below y k c))) (λ k. ap made_by (Memᴰ.eq_of_singleton k))
            (Memᴰ.append_cases log m);
        found = inr (z, Memᴰ.append_right log (Memᴰ.head refl), a, refl);
      }
    where
      epoch-of : (y : Sent) → Memᴰ y (z ∷ []) → y.epoch ≡ z.epoch
      epoch-of y k = ap (λ (v : Sent). v.epoch) (Memᴰ.eq_of_singleton k)

pub rising-more : (log : List Sent) (z : Sent) → Rising log → ((y : Sent) → Memᴰ y log → y.epoch ≤ z.epoch) → Rising (log ++ (z ∷ []))
rising-more [] z r k = (λ y m. absurd (Memᴰ.not-nil m), tt)
rising-more (x ∷ xs) z r k = (
  λ y m. ⊎_elim (λ n. r.0 y n) (λ n. omega (arith, k x (Memᴰ.head refl), ap (λ (v : Sent). v.epoch) (Memᴰ.eq_of_singleton n)))
      (Memᴰ.append_cases xs m),
  rising-more xs z r.1 (λ y m. k y (Memᴰ.tail m)),
)

pub once_more : (log : List Sent) (z : Sent) → Once log → ((y : Sent) → Memᴰ y log → y.page ≡ z.page → y.epoch < z.epoch) → Once (log ++ (z ∷ []))
once_more [] z r k = (λ y m. absurd (Memᴰ.not-nil m), tt)
once_more (x ∷ xs) z r k = (
  λ y m a b. ⊎_elim
      (λ n. r.0 y n a b)
      (λ n.
      let q : y ≡ z = Memᴰ.eq_of_singleton n in
      let l : x.epoch < z.epoch = k x (Memᴰ.head refl) (sym a ∙ ap (λ (v : Sent). v.page) q) in
      absurd (omega (arith, b, l, ap (λ (v : Sent). v.epoch) q)))
      (Memᴰ.append_cases xs m),
  once_more xs z r.1 (λ y m. k y (Memᴰ.tail m)),
)

-- ---- each entry at its turn

-- what the entries of page i before epoch k say, in no order
pub record Under (k i : ℕ) (log : List Sent) (e : ℕ) (h : Holding) : Type 0 where
  pub earlier : e < k
  pub below : (y : Sent) → Memᴰ y log → y.page ≡ i → y.epoch < k → y.epoch ≤ e
  pub top : (y : Sent) → Memᴰ y log → y.page ≡ i → y.epoch ≡ e → made_by y ≡ h
  pub found : ((e ≡ 0) × (h ≡ absent)) ⊎ ((x : Sent) × Memᴰ x log × (x.page ≡ i) × (x.epoch ≡ e))

-- an entry fits what the entries before it have made of its page
pub record Turn (log : List Sent) (x : Sent) : Type 0 where
  pub since : ℕ
  pub has : Holding
  pub under : Under x.epoch x.page log since has
  pub fits : Fits x.operation has

abbrev pub Lawful : List Sent → Type 0
Lawful log = (x : Sent) → Memᴰ x log → Turn log x

-- one entry more, of a later epoch than any entry of its page, and of no earlier one than any entry
pub lawful-more : (log : List Sent) (z : Sent) (e : ℕ) (h : Holding) → Past z.page log e h → e < z.epoch → Fits z.operation h
    → ((y : Sent) → Memᴰ y log → y.epoch ≤ z.epoch) → Lawful log → Lawful (log ++ (z ∷ []))
lawful-more log z e h p later f k w x m = ⊎_elim (λ n. old (w x n) n) (λ n. new (Memᴰ.eq_of_singleton n)) (Memᴰ.append_cases log m)
  where
    epoch-of : (y : Sent) → Memᴰ y (z ∷ []) → y.epoch ≡ z.epoch
    epoch-of y n = ap (λ (v : Sent). v.epoch) (Memᴰ.eq_of_singleton n)

    old : Turn log x → Memᴰ x log → Turn (log ++ (z ∷ [])) x
    old t n =
        record {
          since = t.since;
          has = t.has;
          fits = t.fits;
          under = record {
            earlier = t.under.earlier;
            below = λ y u a b. ⊎_elim (λ v. t.under.below y v a b) (λ v. absurd (omega (arith, b, k x n, epoch-of y v))) (Memᴰ.append_cases log u);
            top = λ y u a b. ⊎_elim (λ v. t.under.top y v a b) (λ v. absurd (omega (arith, b, k x n, epoch-of y v, t.under.earlier)))
                (Memᴰ.append_cases log u);
            found = ⊎_elim (λ v. inl v) (λ v. inr (v.0, Memᴰ.append_left _ v.1, v.2, v.3)) t.under.found;
          };
        }

    mine : Turn (log ++ (z ∷ [])) z
    mine =
        record {
          since = e;
          has = h;
          fits = f;
          under = record {
            earlier = later;
            below = λ y u a b. ⊎_elim (λ v. p.below y v a) (λ v. absurd (omega (arith, b, epoch-of y v))) (Memᴰ.append_cases log u);
            top = λ y u a b. ⊎_elim (λ v. p.top y v a b) (λ v. absurd (omega (arith, b, later, epoch-of y v))) (Memᴰ.append_cases log u);
            found = ⊎_elim (λ v. inl v) (λ v. inr (v.0, Memᴰ.append_left _ v.1, v.2, v.3)) p.found;
          };
        }

    new : x ≡ z → Turn (log ++ (z ∷ [])) x
    new q = rw q mine

rising-left : (A B : List Sent) → Rising (A ++ B) → Rising A
rising-left [] B r = tt
rising-left (x ∷ A) B r = (λ y m. r.0 y (Memᴰ.append_left B m), rising-left A B r.1)

rising-across : (A B : List Sent) → Rising (A ++ B) → (y z : Sent) → Memᴰ y A → Memᴰ z B → y.epoch ≤ z.epoch
rising-across [] B r y z m n = absurd (Memᴰ.not-nil m)
rising-across (x ∷ A) B r y z m n =
    ⊎_elim (λ q. omega (arith, ap (λ (v : Sent). v.epoch) q, r.0 z (Memᴰ.append_right A n))) (λ u. rising-across A B r.1 y z u n) (Memᴰ.cases_cons m)

rising-right : (A B : List Sent) → Rising (A ++ B) → Rising B
rising-right [] B r = r
rising-right (x ∷ A) B r = rising-right A B r.1

once-across : (A B : List Sent) → Once (A ++ B) → (y z : Sent) → Memᴰ y A → Memᴰ z B → z.page ≡ y.page → z.epoch ≡ y.epoch → ⊥
once-across [] B r y z m n a b = Memᴰ.not-nil m
once-across (x ∷ A) B r y z m n a b =
    ⊎_elim
    (λ q. r.0 z (Memᴰ.append_right A n) (a ∙ ap (λ (v : Sent). v.page) q) (b ∙ ap (λ (v : Sent). v.epoch) q))
    (λ u. once-across A B r.1 y z u n a b)
    (Memᴰ.cases_cons m)

-- at its turn every entry finds what it needs: nothing for MIGRATE, something for the two others
pub at_turn : (log A B : List Sent) (x : Sent) → Lawful log → Reordered log (A ++ (x ∷ B)) → Once (A ++ (x ∷ B)) →
    Fits x.operation (replay nothing A x.page)
unfolding Coming
at_turn log A B x w r o = rw held t.fits
  where
    in_l : Memᴰ x (A ++ (x ∷ B))
    in_l = Memᴰ.append_right A (Memᴰ.head refl)

    t : Turn log x
    t = w x (r.only x in_l)

    less : (y : Sent) → Memᴰ y A → y.page ≡ x.page → y.epoch < x.epoch
    less y m a =
        let u : y.epoch ≤ x.epoch = rising-across A (x ∷ B) r.rising y x m (Memᴰ.head refl) in
        let v : y.epoch ≡ x.epoch → ⊥ = λ q. once-across A (x ∷ B) o y x m (Memᴰ.head refl) (sym a) (sym q) in
        omega arith

    seek : (y : Sent) → y.page ≡ x.page → y.epoch ≡ t.since → Memᴰ y A ⊎ Memᴰ y (x ∷ B) → Memᴰ y A
    seek y a b (inl m) = m
    seek y a b (inr m) =
        absurd
        (⊎_elim
        (λ q. omega (arith, b, ap (λ (v : Sent). v.epoch) q, t.under.earlier))
        (λ n. omega (arith, b, t.under.earlier, (rising-right A (x ∷ B) r.rising).0 y n))
        (Memᴰ.cases_cons m))

    from : ((t.since ≡ 0) × (t.has ≡ absent)) ⊎ ((y : Sent) × Memᴰ y log × (y.page ≡ x.page) × (y.epoch ≡ t.since)) →
        Coming x.page t.since t.has A nothing
    from (inl k) = inl (sym k.1, λ y m a. omega (arith, k.0))
    from (inr k) = inr (k.0, seek k.0 k.2 k.3 (Memᴰ.append_cases A (r.every k.0 k.1)), k.2, k.3)

    in_log : (y : Sent) → Memᴰ y A → Memᴰ y log
    in_log y m = r.only y (Memᴰ.append_left (x ∷ B) m)

    held : replay nothing A x.page ≡ t.has
    held =
        settle x.page t.since t.has A nothing (rising-left A (x ∷ B) r.rising)
        (λ y m a b. t.under.top y (in_log y m) a (omega (arith, b, t.under.below y (in_log y m) a (less y m a))))
        (from t.under.found)

pub perm-once : {l₁ l₂ : List Sent} → Permᴰ l₁ l₂ → Once l₁ → Once l₂
perm-once Permᴰ.nil o = o
perm-once (Permᴰ.cons e d) o = (
  λ y m a b. o.0 y (perm-mem (Permᴰ.symm d) m) (a ∙ ap (λ (v : Sent). v.page) (sym e)) (b ∙ ap (λ (v : Sent). v.epoch) (sym e)),
  perm-once d o.1,
)
perm-once (Permᴰ.swap {a} {b} {a'} {b'} {l} e₁ e₂) o = (
  λ y m u v. ⊎_elim (λ q. o.0 b (Memᴰ.head refl) (cc) (cc)) (λ n. o.1.0 y n (cc) (cc)) (Memᴰ.cases_cons m),
  (λ y m u v. o.0 y (Memᴰ.tail m) (cc) (cc), o.1.1),
)
perm-once (Permᴰ.trans d₁ d₂) o = perm-once d₂ (perm-once d₁ o)
