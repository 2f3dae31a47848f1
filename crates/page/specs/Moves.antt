-- The guest and memory calls on one page, in document 01's order: what each asks of its page, and what it makes of it.
use Rattle.std.specs.Prelude.{Bool, true, false, not, ◌&&◌, ◌||◌, List, [], ◌∷◌, ℕ}
use Rattle.words.specs.Codes as codes
use Rattle.refusals.specs.Refusals.{Test, ◌gives◌}
use Rattle.states.specs.States.{State, Change, is_in, has_move, goes_by}
use Rattle.states.specs.Lists.{writable_states, landing_states, adds, accepts, blocks, unblocks, removes}
use Rattle.page.specs.Page.{Page, tracked}
use Rattle.page.specs.declared.Clock.{Clock}
use Rattle.page.specs.declared.moves.Move.{Move}
use Rattle.page.specs.declared.moves.Move.TheVariants.{Write, Add, Accept, Block, Unblock, Remove}

-- the changes of state that each call makes
abbrev pub changes_of : Move → List Change
changes_of (Write mark) = []
changes_of Add = adds
changes_of Accept = accepts
changes_of Block = blocks
changes_of Unblock = unblocks
changes_of Remove = removes

-- the one call that has a code of its own in Blackout, 49
abbrev pub is_block : Move → Bool
is_block (Write mark) = false
is_block Add = false
is_block Accept = false
is_block Block = true
is_block Unblock = false
is_block Remove = false

-- the one call that a page which a migration left takes while Idle
abbrev pub is_write : Move → Bool
is_write (Write mark) = true
is_write Add = false
is_write Accept = false
is_write Block = false
is_write Unblock = false
is_write Remove = false

-- in 4, 24, 25; in 1 and 26 only if Cached is set
unfoldable pub writable : Page → Bool
writable p = is_in p.state writable_states || (is_in p.state landing_states && p.cached)

-- write, add, accept, block: else 45; unblock and remove: other states 46, then stamp 0 or stamp ≥ TLB epoch is 47
abbrev pub move_tests : Move → Page → Clock → List Test
move_tests (Write mark) p clock = not (writable p) gives codes.ept_entry_state_incorrect ∷ []
move_tests Add p clock = not (has_move adds p.state) gives codes.ept_entry_state_incorrect ∷ []
move_tests Accept p clock = not (has_move accepts p.state) gives codes.ept_entry_state_incorrect ∷ []
move_tests Block p clock = not (has_move blocks p.state) gives codes.ept_entry_state_incorrect ∷ []
move_tests Unblock p clock =
    not (has_move unblocks p.state) gives codes.gpa_range_not_blocked ∷ not (tracked p.stamp clock) gives codes.tlb_tracking_not_done ∷ []
move_tests Remove p clock =
    not (has_move removes p.state) gives codes.gpa_range_not_blocked ∷ not (tracked p.stamp clock) gives codes.tlb_tracking_not_done ∷ []

-- the mark is stored; Dirty is set only if Cached is clear, and not in 1 and 26; then Cached is set
abbrev pub stored : Page → ℕ → Page
stored p mark =
    record {
      state = p.state;
      dirty = p.dirty || (is_in p.state writable_states && not p.cached);
      cached = true;
      stamp = p.stamp;
      migrated = p.migrated;
      mark = mark;
    }

-- mark, Dirty, Cached and stamp cleared, not the migration epoch
abbrev pub emptied : Page → State → Page
emptied p to = record { state = to; dirty = false; cached = false; stamp = 0; migrated = p.migrated; mark = 0 }

abbrev pub restamped : Page → State → ℕ → Page
restamped p to stamp = record { state = to; dirty = p.dirty; cached = p.cached; stamp = stamp; migrated = p.migrated; mark = p.mark }

-- what a call that is done makes of its page: a blocked page's stamp becomes the TLB epoch, an unblocked one's 0
abbrev pub moved_by : Move → Clock → Page → Page
moved_by (Write mark) clock p = stored p mark
moved_by Add clock p = emptied p (goes_by adds p.state)
moved_by Accept clock p = emptied p (goes_by accepts p.state)
moved_by Block clock p = restamped p (goes_by blocks p.state) clock.tlb
moved_by Unblock clock p = restamped p (goes_by unblocks p.state) 0
moved_by Remove clock p = emptied p (goes_by removes p.state)
