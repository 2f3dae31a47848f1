-- What holds of a run over a list by any step, and so of every call that takes one.
use Rattle.std.specs.Prelude.{◌≡◌, false, [], ◌∷◌, ℕ, ◌+◌, ◌≤◌, ◌<◌, length, get_or}
use Rattle.words.specs.Entry.{entry_of}
use Rattle.table.specs.Table.{words_at}
use Rattle.lists.specs.Kinds.{Step}
use Rattle.lists.specs.Run.{Standing, standing, list_run}

-- the entries that are taken: from the next one on, as many as the budget, up to LAST
abbrev pub Takes : ℕ → ℕ → Standing → ℕ → Type 0
Takes last budget s i = (s.at.next ≤ i) × (i < s.at.next + budget) × (i ≤ last)

-- entry i has the word that it had, in the list and in the buffer
abbrev pub Same : ℕ → Standing → Standing → Type 0
Same i s x = (get_or x.list i 0 ≡ get_or s.list i 0) × (get_or x.buffer i 0 ≡ get_or s.buffer i 0)

pub record RunPromises : Type 0 where
  -- the words of every other entry stay: those below FIRST, past the budget and past LAST
  pub words : (f : Step) (last budget : ℕ) (s : Standing) (i : ℕ) → (Takes last budget s i → ⊥) → Same i s (list_run f last budget s)
  -- a page that none of them names stays
  pub page : (f : Step) (last budget : ℕ) (s : Standing) (k : ℕ) → ((i : ℕ) → Takes last budget s i → (entry_of (get_or s.list i 0)).gpa ≡ k → ⊥) →
      words_at (list_run f last budget s).table k ≡ words_at s.table k
  -- no length changes, so that a call without a buffer lends an empty one and gets it back
  pub lengths : (f : Step) (last budget : ℕ) (s : Standing) → (length (list_run f last budget s).table ≡ length s.table)
      × (length (list_run f last budget s).list ≡ length s.list) × (length (list_run f last budget s).buffer ≡ length s.buffer)
  -- a budget of 0 changes nothing
  pub none : (f : Step) (last : ℕ) (s : Standing) → list_run f last 0 s ≡ s
  -- a run that is cut in two is the one run
  pub cut : (f : Step) (last budget more : ℕ) (s : Standing) → list_run f last (budget + more) s ≡ list_run f last more (list_run f last budget s)
  -- when all is done more budget changes nothing
  pub over : (f : Step) (last budget more : ℕ) (s : Standing) → last < (list_run f last budget s).at.next →
      list_run f last (budget + more) s ≡ list_run f last budget s

-- ---- each hypothesis above is met: a list of two entries that name page 0, and a step that leaves all as it is

abbrev pub leaving : Step
leaving word held w = record { status = 0; word = word; buffer = held; words = w; contents = false }

abbrev pub start : Standing
start = standing (record { next = 0; errors = 0; filled = 0 }) (0 ∷ 0 ∷ []) (0 ∷ 0 ∷ []) []

pub record Met : Type 0 where
  -- a budget of 1 does not come to the second entry, and no entry names page 1
  pub words : Takes 1 1 start 1 → ⊥
  pub page : (i : ℕ) → Takes 1 1 start i → (entry_of (get_or start.list i 0)).gpa ≡ 1 → ⊥
  -- where the first is the last, a budget of 1 is enough
  pub over : 0 < (list_run leaving 0 1 start).at.next
