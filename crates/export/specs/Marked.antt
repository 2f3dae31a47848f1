-- The marked table of document 01: page 5 of 4,096, in migration epoch 1.
use Rattle.std.specs.Prelude.{◌≡◌, Bool, true, false, List, [], ◌∷◌, ℕ, ◌<◌, length, get_or}
use Rattle.states.specs.States.{State, Mapped, Pending, ExportedModified, ExportedRemoved}
use Rattle.page.specs.Page.{Page, words_for}
use Rattle.page.specs.declared.Clock.{Clock}
use Rattle.table.specs.Table.{page_at}
use Rattle.session.specs.declared.Phase.{Phase}
use Rattle.session.specs.declared.Phase.TheVariants.{Live, Blackout}
use Rattle.entry.specs.declared.Ground.{Ground}
use Rattle.lists.specs.Run.{standing, stepped}
use Rattle.lists.specs.declared.runs.Progress.{Progress}
use Rattle.export.specs.Export.{export_step}

-- what is exported, and the word that comes back
pub record Line : Type 0 where
  pub page : Page
  pub ground : Ground
  pub input : ℕ
  pub output : ℕ

abbrev pub line : Page → Ground → ℕ → ℕ → Line
line p g input output = record { page = p; ground = g; input = input; output = output }

-- any page in a state, with Dirty and a migration epoch of its own
abbrev pub having : Page → State → Bool → ℕ → Page
having p state dirty migrated = record { state = state; dirty = dirty; cached = p.cached; stamp = p.stamp; migrated = migrated; mark = p.mark }

-- the page's own migration epoch 0 and Dirty clear unless said
abbrev pub clean : Page → State → Page
clean p state = having p state false 0

abbrev pub with_stamp : Page → ℕ → Page
with_stamp p stamp = record { state = p.state; dirty = p.dirty; cached = p.cached; stamp = stamp; migrated = p.migrated; mark = p.mark }

-- 4,096 pages, migration epoch 1
abbrev pub on : Phase → Clock → Ground
on phase clock = record { phase = phase; clock = clock; epoch = 1; pages = 4096 }

-- TLB epoch 2
abbrev pub second : Clock
second = record { tlb = 2 }

-- what a line does not say is open: the page is any, with its stamp, and phase and TLB epoch are any
abbrev pub marked_lines : Page → Phase → Clock → List Line
marked_lines p phase clock =
    line (with_stamp (clean p Mapped) 1) (on Live second) 0x0010000000005000 0x0010000000005000
    ∷ line (with_stamp (clean p Mapped) 2) (on Live second) 0x0010000000005000 0x0500000000005000
    ∷ line (with_stamp (having p Mapped true 0) 1) (on Live second) 0x0010000000005000 0x1100000000005000
    ∷ line (clean p Pending) (on Blackout clock) 0x0010000000005000 0x0010000000005004
    ∷ line (clean p ExportedModified) (on Blackout clock) 0x0010000000005000 0x0030000000005000
    ∷ line (clean p ExportedRemoved) (on phase clock) 0x0010000000005000 0x0020000000005000
    ∷ line (having p Mapped false 1) (on phase clock) 0x0010000000005000 0x0700000000005000
    ∷ line p (on phase clock) 0x5 0x0F00000000000001
    ∷ line p (on phase clock) 0x0010000005000000 0x0200000005000000
    ∷ line p (on phase clock) 0x5000 0x0100000000005000
    ∷ []

-- a table whose page 5 is the line's, and a list whose next word is its input
pub record Given (x : Line) (at : Progress) (t l : List ℕ) : Type 0 where
  pub inside : at.next < length l
  pub input : get_or l at.next 0 ≡ x.input
  pub page : page_at t 5 ≡ x.page

-- of every such table and list one step of export leaves the line's output
abbrev pub Leaves : Line → Type 0
Leaves x =
    (at : Progress) (t l b : List ℕ) → Given x at t l → get_or (stepped (export_step x.ground) (standing at t l b)).list at.next 0 ≡ x.output

abbrev pub Every : (Line → Type 0) → List Line → Type 0
Every P [] = Unit
Every P (x ∷ l) = P x × Every P l

pub record MarkedTable : Type 0 where
  pub lines : (p : Page) (phase : Phase) (clock : Clock) → Every Leaves (marked_lines p phase clock)

-- ---- there are such tables and lists

abbrev pub at_first : Progress
at_first = record { next = 0; errors = 0; filled = 0 }

-- six pages, the last of them the line's
abbrev pub table_of : Line → List ℕ
table_of x = 0 ∷ 0 ∷ 0 ∷ 0 ∷ 0 ∷ 0 ∷ 0 ∷ 0 ∷ 0 ∷ 0 ∷ (words_for x.page).word ∷ x.page.mark ∷ []

abbrev pub Found : Line → Type 0
Found x = Given x at_first (table_of x) (x.input ∷ [])

abbrev pub some_page : Page
some_page = record { state = Mapped; dirty = false; cached = true; stamp = 1; migrated = 0; mark = 7 }

pub record Met : Type 0 where
  pub found : Every Found (marked_lines some_page Live second)
