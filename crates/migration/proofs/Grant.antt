-- The token's code is 0 exactly where none of its tests holds; and a page that gives neither 53 nor 54 is ready, state by state.
use Rattle.std.specs.Prelude.{Option, Some, None}
use mathlib.Core.Path.{◌≡◌, refl, sym, ap, ◌∙◌}
use mathlib.Core.Logic.{◌⊎◌, inl, inr, ⊎_elim}
use mathlib.Core.Bool.{Bool, true, false, not, ◌&&◌, ◌||◌, true≢false, false≢true}
use mathlib.Core.List.{List, [], ◌∷◌}
use Prim.Native.Nat.{ℕ, ◌<◌}
use lib.Dec.{lit<}
use lib.ListN.{length}
use Rattle.words.specs.Codes as codes
use Rattle.records.specs.Record.{record_of, plain}
use Rattle.refusals.proofs.Laws.{or_left_false, or_right_false, not-false, Ends, once}
use Rattle.states.specs.States.{State, Free, Exported, PendingExported, state_of, is_strange, is_in}
use Rattle.states.specs.Lists.{changed_states, sent_states, unsent_states}
use Rattle.states.proofs.Masks.{all}
use Rattle.states.proofs.Laws.{every-state, in_one, in_two}
use Rattle.page.specs.Page.{page_of, strange, gives53, gives54}
use Rattle.page.specs.Page.{Page}
use Rattle.table.specs.Table.{legal, words_at, page_count, page_at, some, Lowest}
use Rattle.table.proofs.Laws.{some-none, none-some, some-lowest}
use Rattle.session.specs.Session.{among, new_session, begun, with_check}
use Rattle.session.specs.Formed.{work_resting, formed, gate_tests, gated, busy}
use Rattle.session.specs.declared.Phase.{Phase}
use Rattle.session.specs.declared.Phase.TheVariants.{Idle, Live, Blackout, Done}
use Rattle.session.specs.declared.Session.{Session}
use Rattle.session.specs.declared.streams.Interruption.{Interruption}
use Rattle.session.proofs.Laws.{gate-open, open-gate, gate-ended}
use Rattle.session.proofs.FormedLaws.{busy-means, means-busy}
use Rattle.migration.specs.Token.{TokenNumbers, token_says, token_tests, token_code, in_the_way, token_for, token_out}
use Rattle.migration.specs.Grant.{Ready, Grantable, GrantedExactly, NamesTheLowest, Met}
use Rattle.migration.proofs.Laws.{token-numbers, token-number}

-- ---- a page

abbrev pub Settled : State → Bool → Type 0
Settled z d = (z ≡ Free) ⊎ (((z ≡ Exported) ⊎ (z ≡ PendingExported)) × (d ≡ false))

-- a state that fails a test which leaves Free and those of `sent` alone
pub settles : (f : State → Bool) → all (λ n. f (state_of n) || is_in (state_of n) sent_states || is_in (state_of n) (Free ∷ [])) → (z : State) (d : Bool) →
    f z ≡ false → (is_in z sent_states && d) ≡ false → Settled z d
settles f t z d = go (f z) (is_in z sent_states) refl (every-state (λ (x : State). f x || is_in x sent_states || is_in x (Free ∷ [])) t z)
  where
    go : (a b : Bool) → is_in z sent_states ≡ b → (a || b || is_in z (Free ∷ [])) ≡ true → a ≡ false → (b && d) ≡ false → Settled z d
    go true b q h e x = absurd (true≢false e)
    go false true q h e x = inr (in_two z Exported PendingExported q, x)
    go false false q h e x = inl (in_one z Free h)

-- every state is on one of the lists that the token asks for, or strange, or Free
settled : (z : State) (d : Bool) → (is_in z changed_states || (is_in z sent_states && d)) ≡ false → (is_in z unsent_states || is_strange z) ≡ false → Settled z d
unfolding is_in is_strange state_of
settled z d e f =
    settles (λ (x : State). is_in x changed_states || (is_in x unsent_states || is_strange x)) tt z d
    (rw (or_left_false (is_in z changed_states) (is_in z sent_states && d) e) f)
    (or_right_false (is_in z changed_states) (is_in z sent_states && d) e)

page-ready : (p : Page) → gives53 p ≡ false → gives54 p ≡ false → Ready p
unfolding gives53 gives54
page-ready p e f =
    record { known = or_right_false (is_in p.state unsent_states) (strange p) f; settled = settled p.state p.dirty e f }

-- the other way, of a state that is one of the three
free-gives : (p : Page) → p.state ≡ Free → (gives53 p ≡ false) × (gives54 p ≡ false)
unfolding gives53 gives54 is_in is_strange
free-gives p e = rw e (refl, refl)

sent-gives : (p : Page) → (p.state ≡ Exported) ⊎ (p.state ≡ PendingExported) → p.dirty ≡ false → (gives53 p ≡ false) × (gives54 p ≡ false)
unfolding gives53 gives54 is_in is_strange
sent-gives p (inl e) d = rw (e, d) (refl, refl)
sent-gives p (inr e) d = rw (e, d) (refl, refl)

ready-gives : (p : Page) → Ready p → (gives53 p ≡ false) × (gives54 p ≡ false)
ready-gives p r = ⊎_elim (free-gives p) (λ x. sent-gives p x.0 x.1) r.settled

-- ---- the session

pub paused-is : (p : Phase) → among (Blackout ∷ []) p ≡ true → p ≡ Blackout
paused-is Idle e = absurd (false≢true e)
paused-is Live e = absurd (false≢true e)
paused-is Blackout e = refl
paused-is Done e = absurd (false≢true e)

pub resting-is : (r : Option Interruption) → work_resting r ≡ true → r ≡ None
resting-is None e = refl
resting-is (Some x) e = absurd (false≢true e)

module _ (s : Session) (t : List ℕ) where
  granted-only : (token_says (token_out s t).token).code ≡ codes.done → Grantable s t
  unfolding token_out token_code
  granted-only e =
      let o = gate-open s (length t) (Blackout ∷ []) (token_tests s t) refl (sym (token-number (token_code s t) t) ∙ e) in
      record {
        paused = paused-is s.phase o.comes;
        rest = λ i h. resting-is _ (busy-means s o.passed.0 i h);
        complete = not-false s.check.complete o.passed.1.0;
        ready = λ i h. page-ready (page_at t i) (some-none gives53 t o.passed.1.1.0 i h) (some-none gives54 t o.passed.1.1.1.0 i h);
      }

  granted-whenever : formed s (length t) ≡ true → Grantable s t → token_says (token_out s t).token ≡ record { code = codes.done; page = 0 }
  unfolding token_out token_for token_code
  granted-whenever f g =
      rw
      (open-gate s (length t) (Blackout ∷ []) (token_tests s t)
      (record {
        formed = f;
        comes = ap (among (Blackout ∷ [])) g.paused;
        passed = (
          means-busy s (λ i h. ap work_resting (g.rest i h)),
          (
            ap not g.complete,
            (
              none-some gives53 t (λ i h. (ready-gives (page_at t i) (g.ready i h)).0),
              (none-some gives54 t (λ i h. (ready-gives (page_at t i) (g.ready i h)).1), tt),
            ),
          ),
        );
      }))

pub granted-exactly : GrantedExactly
granted-exactly = record { only = granted-only; whenever = granted-whenever }

-- ---- the page that a refusal names

module _ (s : Session) (t : List ℕ) (p : ℕ) where
  abbrev Named : ℕ → Type 0
  Named code = token_says (token_out s t).token ≡ record { code = code; page = p }

  named : (code : ℕ) → Named code → (token_code s t ≡ code) × (in_the_way code t ≡ p)
  unfolding token_out
  named code e =
      let n = sym (token-numbers (token_code s t) t) ∙ e in
      let c : token_code s t ≡ code = ap (λ (x : TokenNumbers). x.code) n in
      (c, rw c at (ap (λ (x : TokenNumbers). x.page) n))

  ends : (code : ℕ) → 0 < code → once (gate_tests s (length t) (Blackout ∷ []) (token_tests s t)) code ≡ true → Named code →
      Ends (gate_tests s (length t) (Blackout ∷ []) (token_tests s t)) code
  unfolding token_code
  ends code h k e = gate-ended s (length t) (Blackout ∷ []) (token_tests s t) code h k (named code e).0

  lowest-53 : Named codes.exported_dirty_pages_remain → Lowest gives53 t p
  unfolding in_the_way
  lowest-53 e = rw (← (named _ e).1) (some-lowest gives53 t (ends _ (lit< tt) refl e).1.1.1.1)

  lowest-54 : Named codes.unexported_memory_remains → Lowest gives54 t p
  unfolding in_the_way
  lowest-54 e = rw (← (named _ e).1) (some-lowest gives54 t (ends _ (lit< tt) refl e).1.1.1.1.1)

  none-53 : Named codes.unexported_memory_remains → (k : ℕ) → k < page_count t → gives53 (page_at t k) ≡ false
  none-53 e = some-none gives53 t (ends _ (lit< tt) refl e).1.1.1.1.0

pub names-the-lowest : NamesTheLowest
names-the-lowest = record { changed = lowest-53; unsent = lowest-54; before = none-53 }

-- ---- the conditions can be met: a guest of three pages, one free, one exported and clean, one pending and exported, in Blackout with its check complete

abbrev paused : Session
paused =
    with_check (begun (new_session 3 2) Blackout 1) (record { place = 3; complete = true; failed = false })

abbrev exported : List ℕ
exported = 0 ∷ 0 ∷ 24 ∷ 7 ∷ 29 ∷ 0 ∷ []

pub met : Met
unfolding formed legal busy token_out token_for in_the_way token_code gated some gives53 gives54 is_in is_strange state_of page_of plain record_of words_at
met =
    record {
      grantable = (paused, exported, refl, granted-exactly.only paused exported refl);
      -- page 1 exported and Dirty, and page 2 mapped
      changed = (paused, 0 ∷ 0 ∷ 280 ∷ 7 ∷ 4 ∷ 0 ∷ [], 1, refl);
      unsent = (paused, 0 ∷ 0 ∷ 4 ∷ 7 ∷ 24 ∷ 0 ∷ [], 1, refl);
    }
