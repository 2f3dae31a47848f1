-- One page: what always holds between calls of it and, while there is a migration, of what the destination has of it. Every move of a page keeps that
-- (`Moves`, `Entries`, `Sweeps`), since what a move asks of Dirty, Cached and stamp is what the destination's copy needs.
use mathlib.Core.Path.{◌≡◌, refl, sym, subst, ◌∙◌}
use mathlib.Core.Logic.{◌⊎◌, inl, inr}
use mathlib.Core.Bool.{Bool, true, false, true≢false, false≢true}
use mathlib.Core.List.{[], ◌∷◌}
use Prim.Native.Nat.{ℕ, ◌≤◌}
use Rattle.states.specs.States.{State, Exported, PendingExported, is_in}
use Rattle.states.specs.Lists.{startable_states}
use Rattle.page.specs.Page.{Page, strange, blocked, tracked}
use Rattle.page.specs.declared.Clock.{Clock}
use Rattle.page.proofs.Laws.{now-untracked}
use Rattle.session.specs.declared.Phase.{Phase}
use Rattle.session.specs.declared.Phase.TheVariants.{Idle, Live, Blackout, Done}
use Rattle.session.specs.declared.Session.{Session}
use Rattle.entry.specs.declared.Ground.{Ground}
use Rattle.bundle.specs.Bundle.{Holding, absent, holds, Present}

-- what of the session a page depends on
pub record Moment : Type 0 where
  pub phase : Phase
  pub clock : Clock
  pub epoch : ℕ

abbrev pub moment_of : Session → Moment
moment_of s = record { phase = s.phase; clock = s.clock; epoch = s.epoch }

abbrev pub moment_on : Ground → Moment
moment_on g = record { phase = g.phase; clock = g.clock; epoch = g.epoch }

-- ---- what holds of a page

-- what is asked only where a test holds
abbrev pub If : Bool → Type 0 → Type 0
If true A = A
If false A = Unit

pub if-true : {A : Type 0} (b : Bool) → b ≡ true → If b A → A
if-true true e a = a
if-true false e a = absurd (false≢true e)

pub if-false : (A : Type 0) (b : Bool) → b ≡ false → If b A
if-false A true e = absurd (true≢false e)
if-false A false e = tt

pub if-map : {A B : Type 0} (b : Bool) → (b ≡ true → A → B) → If b A → If b B
if-map true f a = f refl a
if-map false f a = tt

-- in 0 to 4 the destination has nothing of the page, in the others something
abbrev nowhere : Bool → Holding → Type 0
nowhere true h = h ≡ absent
nowhere false h = Present h

abbrev pub There : State → Holding → Type 0
There z h = nowhere (is_in z startable_states) h

abbrev pub is_exported : State → Bool
is_exported z = is_in z (Exported ∷ [])

abbrev pub is_pending_exported : State → Bool
is_pending_exported z = is_in z (PendingExported ∷ [])

-- where the destination is up to date, in 24 and 29: Dirty, Cached, mark
abbrev pub Same : State → Bool → Bool → ℕ → Holding → Type 0
Same z d c m h = If (is_exported z) (d ≡ false → (c ≡ false) × (h ≡ holds false m)) × If (is_pending_exported z) (h ≡ holds true 0)

-- another state in which the same is there
pub there-as : (z to : State) → is_in to startable_states ≡ is_in z startable_states → (h : Holding) → There z h → There to h
there-as z to e h t = subst (λ (b : Bool). nowhere b h) (sym e) t

-- a state in which nothing is asked of the copy
pub same-free : (z : State) → is_exported z ≡ false → is_pending_exported z ≡ false → (d c : Bool) (m : ℕ) (h : Holding) → Same z d c m h
same-free z x y d c m h = (if-false _ (is_exported z) x, if-false _ (is_pending_exported z) y)

-- once it is tracked, no processor has a translation left that would write unseen: Dirty, Cached, stamp
abbrev pub Seen : Clock → Bool → Bool → ℕ → Type 0
Seen clock d c stamp = tracked stamp clock ≡ true → d ≡ false → c ≡ false

-- in Blackout nothing is Cached and nothing blocked
abbrev pub Still : Phase → Bool → Bool → Type 0
Still Idle c b = Unit
Still Live c b = Unit
Still Blackout c b = (c ≡ false) × (b ≡ false)
Still Done c b = Unit

-- what a page and the destination have of each other in a migration epoch
pub record Abroad (epoch : ℕ) (p : Page) (h : Holding) : Type 0 where
  pub young : p.migrated ≤ epoch
  pub there : There p.state h
  pub same : Same p.state p.dirty p.cached p.mark h

-- what is asked while there is a migration: in Idle nothing, since an abort leaves pages as they were
abbrev pub While : Phase → Type 0 → Type 0
While Idle A = Unit
While Live A = A
While Blackout A = A
While Done A = A

pub record Ok (k : Moment) (p : Page) (h : Holding) : Type 0 where
  pub known : strange p ≡ false
  pub abroad : While k.phase (Abroad k.epoch p h)
  pub seen : Seen k.clock p.dirty p.cached p.stamp
  pub still : Still k.phase p.cached (blocked p)

pub while-made : {A : Type 0} (p : Phase) → A → While p A
while-made Idle a = tt
while-made Live a = a
while-made Blackout a = a
while-made Done a = a

pub while-map : {A B : Type 0} (p : Phase) → (A → B) → While p A → While p B
while-map Idle f a = tt
while-map Live f a = f a
while-map Blackout f a = f a
while-map Done f a = f a

pub while-has : {A : Type 0} (p : Phase) → (p ≡ Idle → ⊥) → While p A → A
while-has Idle n a = absurd (n refl)
while-has Live n a = a
while-has Blackout n a = a
while-has Done n a = a

-- a phase after another, in which no more is asked: the same, or after one of a migration
abbrev pub Lasts : Phase → Phase → Type 0
Lasts p q = (q ≡ p) ⊎ (p ≡ Idle → ⊥)

pub while-lasts : (A : Type 0) (p q : Phase) → Lasts p q → While p A → While q A
while-lasts A p q (inl e) a = rw e a
while-lasts A p q (inr n) a = while-made q (while-has p n a)

-- in Idle, whatever the destination has
pub ok-idle : (k : Moment) (p : Page) (h : Holding) → k.phase ≡ Idle → strange p ≡ false → Seen k.clock p.dirty p.cached p.stamp → Ok k p h
ok-idle k p h e n s = record { known = n; abroad = rw e tt; seen = s; still = rw e tt }

-- a page may become another, with the session, while the destination stays
pub record Step (k k' : Moment) (p q : Page) : Type 0 where
  pub ok : (h : Holding) → Ok k p h → Ok k' q h
  pub kept : q.migrated ≡ p.migrated

pub stay : (k : Moment) (p : Page) → Step k k p p
stay k p = record { ok = λ h o. o; kept = refl }

-- ---- what the moves use

-- neither stamp 0 nor a stamp of now is tracked
pub seen-zero : (clock : Clock) (d c : Bool) → Seen clock d c 0
unfolding tracked
seen-zero clock d c a = absurd (false≢true a)

pub seen-now : (clock : Clock) (d c : Bool) → Seen clock d c clock.tlb
seen-now clock d c a = absurd (false≢true (sym (now-untracked clock) ∙ a))
