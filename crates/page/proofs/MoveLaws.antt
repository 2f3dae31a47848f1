-- What a call has a move for, by the number; and a move of a page that a record holds makes another such page.
use mathlib.Core.Path.{◌≡◌, refl, sym, ap, ◌∙◌}
use mathlib.Core.Bool.{Bool, true, false, cond, not, true≢false}
use mathlib.Core.List.{List, []}
use Prim.Native.Nat.{ℕ, ◌<◌, ◌^◌}
use lib.Dec.{eqb, lit<}
use Rattle.refusals.proofs.Laws.{Passed, all_codes, refuses}
use Rattle.states.specs.States.{State, Strange, Change, state_of, is_strange, is_in, has_move, goes_by, number_by}
use Rattle.states.specs.Lists.{adds, accepts, blocks, unblocks, removes, restores}
use Rattle.states.proofs.Masks.{has_move_lem}
use Rattle.states.proofs.Laws.{strange-is, Each, goes-each}
use Rattle.page.specs.Page.{Page, page_of, strange}
use Rattle.page.specs.Moves.{changes_of, writable, move_tests, moved_by}
use Rattle.page.specs.Sweeps.{uncached, kept_stamp, refreshed, restored, swept_by}
use Rattle.page.specs.declared.Clock.{Clock}
use Rattle.page.specs.declared.PageWords.{PageWords}
use Rattle.page.specs.declared.moves.Move.{Move}
use Rattle.page.specs.declared.moves.Move.TheVariants.{Write, Add, Accept, Block, Unblock, Remove}
use Rattle.page.specs.declared.sweeps.Sweep.{Sweep}
use Rattle.page.specs.declared.sweeps.Sweep.TheVariants.{Track, Start, Pause}
use Rattle.page.proofs.Laws.{Held}

has : (m : Move) (n : ℕ) → n < 2 ^ 8 → not (eqb (number_by (changes_of m) n) n) ≡ has_move (changes_of m) (state_of n)
unfolding number_by has_move state_of
has (Write mark) n h = has_move_lem [] n h tt
has Add n h = has_move_lem adds n h tt
has Accept n h = has_move_lem accepts n h tt
has Block n h = has_move_lem blocks n h tt
has Unblock n h = has_move_lem unblocks n h tt
has Remove n h = has_move_lem removes n h tt

-- a call has a move for a page where it takes its number to another
pub able : (m : Move) (w : PageWords) (n to : ℕ) → n < 2 ^ 8 → state_of n ≡ (page_of w).state → to ≡ number_by (changes_of m) n →
    not (eqb to n) ≡ has_move (changes_of m) (page_of w).state
able m w n to h e q = ap (λ (x : ℕ). not (eqb x n)) q ∙ has m n h ∙ ap (has_move (changes_of m)) e

-- ---- what a call asks of its page

-- its tests have codes of refusals
pub move-refuses : (m : Move) (p : Page) (clock : Clock) → all_codes refuses (move_tests m p clock) ≡ true
move-refuses (Write mark) p clock = refl
move-refuses Add p clock = refl
move-refuses Accept p clock = refl
move-refuses Block p clock = refl
move-refuses Unblock p clock = refl
move-refuses Remove p clock = refl

-- ---- a call that is done

-- Strange is on no list
no_move : (l : List Change) → has_move l Strange ≡ false → (z : State) → not (has_move l z) ≡ false → is_strange z ≡ false
no_move l h z q = by (is_strange z) refl
  where
    by : (b : Bool) → is_strange z ≡ b → b ≡ false
    by true e = absurd (true≢false (sym (ap (λ (x : State). not (has_move l x)) (strange-is z e) ∙ ap not h) ∙ q))
    by false e = refl

no_write : (p : Page) → not (writable p) ≡ false → strange p ≡ false
unfolding writable is_in
no_write p q = by (strange p) refl
  where
    by : (b : Bool) → strange p ≡ b → b ≡ false
    by true e = absurd (true≢false (rw (strange-is p.state e) at q))
    by false e = refl

-- so one that has passed its tests found no strange page
pub done-known : (m : Move) (p : Page) (clock : Clock) → Passed (move_tests m p clock) → strange p ≡ false
unfolding has_move
done-known (Write mark) p clock d = no_write p d.0
done-known Add p clock d = no_move adds refl p.state d.0
done-known Accept p clock d = no_move accepts refl p.state d.0
done-known Block p clock d = no_move blocks refl p.state d.0
done-known Unblock p clock d = no_move unblocks refl p.state d.0
done-known Remove p clock d = no_move removes refl p.state d.0

-- ---- what a record holds

-- no change on a list makes a state strange
abbrev Known : List Change → Type 0
Known = Each (λ (x to : State). is_strange to ≡ false)

knows : (m : Move) → Known (changes_of m)
unfolding is_strange
knows (Write mark) = tt
knows Add = (refl, tt)
knows Accept = (refl, (refl, (refl, tt)))
knows Block = (refl, (refl, (refl, (refl, (refl, (refl, tt))))))
knows Unblock = (refl, (refl, (refl, (refl, tt))))
knows Remove = (refl, (refl, (refl, (refl, tt))))

known_by : (l : List Change) → Known l → (z : State) → is_strange z ≡ false → is_strange (goes_by l z) ≡ false
known_by l k z e = goes-each (λ (x to : State). is_strange to ≡ false) l k z e

-- with a TLB epoch that a stamp can hold
pub moved-held : (m : Move) (clock : Clock) → clock.tlb < 2 ^ 16 → (p : Page) → Held p → Held (moved_by m clock p)
moved-held (Write mark) clock r p h = record { known = h.known; stamp = h.stamp; migrated = h.migrated }
moved-held Add clock r p h = record { known = known_by adds (knows Add) p.state h.known; stamp = lit< tt; migrated = h.migrated }
moved-held Accept clock r p h = record { known = known_by accepts (knows Accept) p.state h.known; stamp = lit< tt; migrated = h.migrated }
moved-held Block clock r p h = record { known = known_by blocks (knows Block) p.state h.known; stamp = r; migrated = h.migrated }
moved-held Unblock clock r p h = record { known = known_by unblocks (knows Unblock) p.state h.known; stamp = lit< tt; migrated = h.migrated }
moved-held Remove clock r p h = record { known = known_by removes (knows Remove) p.state h.known; stamp = lit< tt; migrated = h.migrated }

refreshed-held : (p : Page) (to : State) → is_strange to ≡ false → Held p → Held (refreshed p to)
unfolding kept_stamp
refreshed-held p to k h = record { known = k; stamp = by (is_in to _); migrated = lit< tt }
  where
    by : (b : Bool) → cond b p.stamp 0 < 2 ^ 16
    by true = h.stamp
    by false = lit< tt

restore-known : Known restores
unfolding is_strange
restore-known = (refl, (refl, (refl, (refl, (refl, (refl, (refl, tt)))))))

uncached-held : (p : Page) → Held p → Held (uncached p)
uncached-held p h = record { known = h.known; stamp = h.stamp; migrated = h.migrated }

pub swept-held : (k : Sweep) (p : Page) → Held p → Held (swept_by k p)
swept-held Track p h = uncached-held p h
swept-held Start p h = refreshed-held p p.state h.known h
swept-held Pause p h = uncached-held p h

pub restored-held : (p : Page) → Held p → Held (restored p)
restored-held p h = refreshed-held p (goes_by restores p.state) (known_by restores restore-known p.state h.known) h
