-- One page by value: what its two words say, what a move makes of them, and what is asked of a page.
use Rattle.std.specs.Prelude.{Bool, cond, not, ◌&&◌, ◌||◌, ℕ, eqb, ltb}
use Rattle.records.specs.Record.{record_of, record_word, plain}
use Rattle.records.specs.declared.Record.{Record}
use Rattle.states.specs.States.{State, Strange, strange_number, state_of, number_of, is_strange, is_in}
use Rattle.states.specs.Lists.{startable_states, blocked_states, changed_states, sent_states, unsent_states, left_states}
use Rattle.page.specs.declared.Clock.{Clock}
use Rattle.page.specs.declared.PageWords.{PageWords}
use Rattle.page.specs.declared.queries.Sought.{Sought}
use Rattle.page.specs.declared.queries.Sought.TheVariants.{Blocked, Unstartable, Gives53, Gives54}

pub record Page : Type 0 where
  pub state : State
  pub dirty : Bool
  pub cached : Bool
  pub stamp : ℕ
  -- the last migration epoch
  pub migrated : ℕ
  pub mark : ℕ

-- a record with a spare bit set, or in a state that the base does not use, is strange
abbrev pub state_read : Record → State
state_read r = cond (plain r) (state_of r.state) Strange

unfoldable pub page_of : PageWords → Page
page_of w =
    let r = record_of w.word in
    record { state = state_read r; dirty = r.dirty; cached = r.cached; stamp = r.stamp; migrated = r.migrated; mark = w.mark }

-- the number of its state; that of Strange where a spare bit is set
unfoldable pub number_read : Record → ℕ
number_read r = cond (plain r) r.state strange_number

abbrev pub strange : Page → Bool
strange p = is_strange p.state

abbrev pub record_for : Page → Record
record_for p =
    record { state = number_of p.state; dirty = p.dirty; cached = p.cached; spare10 = 0; stamp = p.stamp; migrated = p.migrated; spare48 = 0 }

abbrev pub words_for : Page → PageWords
words_for p = record { word = record_word (record_for p); mark = p.mark }

-- what a move makes of a page's two words: no call but New changes a strange record
unfoldable pub on_words : (Page → Page) → PageWords → PageWords
on_words f w = cond (strange (page_of w)) w (words_for (f (page_of w)))

-- the same of the page
unfoldable pub unless_strange : (Page → Page) → Page → Page
unless_strange f p = cond (strange p) p (f p)

-- ---- what is asked of a page

-- every translation from before the stamp is gone: neither stamp 0 nor stamp ≥ TLB epoch
unfoldable pub tracked : ℕ → Clock → Bool
tracked stamp clock = not (eqb stamp 0) && ltb stamp clock.tlb

abbrev pub blocked : Page → Bool
blocked p = is_in p.state blocked_states

-- outside 0 to 4, or strange
abbrev pub unstartable : Page → Bool
unstartable p = not (is_in p.state startable_states)

-- in 24 to 27 or 29 to 31, as a migration leaves it
abbrev pub left : Page → Bool
left p = is_in p.state left_states

-- in 25, 26, 27, 30, 31, or in 24 or 29 with Dirty
unfoldable pub gives53 : Page → Bool
gives53 p = is_in p.state changed_states || (is_in p.state sent_states && p.dirty)

-- in 1 to 4 or strange
unfoldable pub gives54 : Page → Bool
gives54 p = is_in p.state unsent_states || strange p

-- what a call looks for in the whole table
abbrev pub sought : Sought → Page → Bool
sought Blocked p = blocked p
sought Unstartable p = unstartable p
sought Gives53 p = gives53 p
sought Gives54 p = gives54 p
