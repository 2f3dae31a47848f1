-- One look at a page, for both scans.
use Rattle.std.specs.Prelude.{◌≡◌, ◌⊎◌, Bool, true, false, cond, ◌&&◌, ◌||◌, ℕ}
use Rattle.words.specs.Entry.{entry_word}
use Rattle.words.specs.Operations as operations
use Rattle.states.specs.States.{State, is_in, goes_by, number_in}
use Rattle.states.specs.Lists.{pending_states, listed_states, sent_states, hinted, looks, renewed_states}
use Rattle.page.specs.Page.{Page, page_of, on_words, blocked}
use Rattle.page.specs.declared.Clock.{Clock}
use Rattle.page.specs.declared.PageWords.{PageWords}

-- 2, 4, 25, 30, 27; and 24, 29 with Dirty; 26, 31 in a DSCAN, a DCHECK ending there
unfoldable pub listed : Page → Bool
listed p = is_in p.state listed_states || (is_in p.state sent_states && p.dirty)

-- OPERATION 1, the GPA, the hint as STATE, PENDING 1 for 2, 29, 30, 31, all else 0
unfoldable pub listed_word : State → ℕ → ℕ
listed_word s number =
    entry_word (record {
      level = 0;
      pending = is_in s pending_states;
      state = number_in hinted s;
      reserved5 = 0;
      l2_map = 0;
      mig_type = 0;
      gpa = number;
      operation = operations.migrate;
      reserved54 = 0;
      status = 0;
      reserved61 = 0;
    })

-- a listed 24 becomes 25 and 29 becomes 30
abbrev pub looked : Page → Page
looked p = record { state = goes_by looks p.state; dirty = p.dirty; cached = p.cached; stamp = p.stamp; migrated = p.migrated; mark = p.mark }

-- a listed page in 2, 4, 25, 30 then has Dirty 0 and stamp equal to the TLB epoch
unfoldable pub renewed : Clock → Page → Page
renewed clock p =
    cond (is_in p.state renewed_states)
    (record { state = p.state; dirty = false; cached = p.cached; stamp = clock.tlb; migrated = p.migrated; mark = p.mark })
    p

-- nothing else changes
abbrev pub listed_page : Clock → Page → Page
listed_page clock p = renewed clock (looked p)

-- what a scan finds: whether the page is blocked, and whether it is listed; then its word in the list, and its own words afterwards
pub record Look : Type 0 where
  pub blocked : Bool
  pub listed : Bool
  pub word : ℕ
  pub words : PageWords

unfoldable pub look_of : PageWords → ℕ → Clock → Look
look_of w number clock =
    let p = page_of w in
    record { blocked = blocked p; listed = listed p; word = listed_word p.state number; words = on_words (listed_page clock) w }

-- what a scan makes of a page's two words: it leaves them, or lists the page
abbrev pub LookedAt : ℕ → Clock → PageWords → PageWords → Type 0
LookedAt number clock w v = (v ≡ w) ⊎ (((look_of w number clock).listed ≡ true) × (v ≡ (look_of w number clock).words))
