-- New, and the calls on one page.
use Rattle.std.specs.Prelude.{not, ◌&&◌, List, [], ◌∷◌, ℕ, leb, length, replicate}
use Rattle.words.specs.Codes as codes
use Rattle.refusals.specs.Refusals.{Test, ◌gives◌, first_of}
use Rattle.page.specs.Page.{Page, page_of, on_words, left}
use Rattle.page.specs.Moves.{is_block, is_write, move_tests, moved_by}
use Rattle.page.specs.declared.Clock.{Clock}
use Rattle.page.specs.declared.PageWords.{PageWords}
use Rattle.page.specs.declared.moves.Move.{Move}
use Rattle.table.specs.Table.{legal, page_count, words_at, page_at, put_at}
use Rattle.session.specs.Session.{among, guest, new_session}
use Rattle.session.specs.Formed.{formed, within, fewest_created, most_created}
use Rattle.session.specs.Outcome.{Outcome, answered}
use Rattle.session.specs.declared.Phase.{Phase}
use Rattle.session.specs.declared.Phase.TheVariants.{Idle, Blackout}
use Rattle.session.specs.declared.Session.{Session}

-- ---- New

-- 40 (length), then 42
unfoldable pub new_code : ℕ → ℕ → ℕ
new_code len created =
    first_of (not (legal len) gives codes.malformed ∷ not (within fewest_created most_created created) gives codes.operand_invalid ∷ [])

-- the session given is not read, and comes back as it was when refused; else all words 0
unfoldable pub new_out : Session → List ℕ → ℕ → Outcome
new_out s t created =
    answered (new_code (length t) created) s t (new_session (page_count t) created) (replicate (length t) 0)

-- ---- calls on one page

-- behind 40: a block in Blackout is 49; 41; a page number beyond the table is 42; while Idle 45 of a page that a migration left, but for a write; then what
-- the call asks of its page
abbrev pub turn_tests : Move → Phase → ℕ → Clock → ℕ → Page → List Test
turn_tests m phase pages clock at p =
    (is_block m && among (Blackout ∷ []) phase) gives codes.blocking_disallowed
    ∷ not (among guest phase) gives codes.op_state_incorrect
    ∷ leb pages at gives codes.operand_invalid
    ∷ (among (Idle ∷ []) phase && not (is_write m) && left p) gives codes.ept_entry_state_incorrect
    ∷ move_tests m p clock

abbrev pub page_tests : Move → Session → ℕ → ℕ → Page → List Test
page_tests m s len at p = not (formed s len) gives codes.malformed ∷ turn_tests m s.phase s.fixed.pages s.clock at p

unfoldable pub on_page : Move → Session → List ℕ → ℕ → Outcome
on_page m s t at =
    answered (first_of (page_tests m s (length t) at (page_at t at))) s t s (put_at t at (on_words (moved_by m s.clock) (words_at t at)))

-- what a call on one page comes to: its code, and the page's two words if that is 0
pub record Turn : Type 0 where
  pub code : ℕ
  pub words : PageWords

-- behind 40 on the page's two words
unfoldable pub page_turn : Move → Phase → ℕ → Clock → ℕ → PageWords → Turn
page_turn m phase pages clock at w =
    record { code = first_of (turn_tests m phase pages clock at (page_of w)); words = on_words (moved_by m clock) w }
