-- What track, start and pause make of every page, and RESTORE of one that it is told of.
use Rattle.std.specs.Prelude.{false, cond, ℕ}
use Rattle.states.specs.States.{State, is_in, goes_by}
use Rattle.states.specs.Lists.{stamped_states, restores}
use Rattle.page.specs.Page.{Page}
use Rattle.page.specs.declared.sweeps.Sweep.{Sweep}
use Rattle.page.specs.declared.sweeps.Sweep.TheVariants.{Track, Start, Pause}

-- track and pause: Cached cleared
abbrev pub uncached : Page → Page
uncached p = record { state = p.state; dirty = p.dirty; cached = false; stamp = p.stamp; migrated = p.migrated; mark = p.mark }

-- stamp 0 except in what is now 1 or 3
unfoldable pub kept_stamp : State → ℕ → ℕ
kept_stamp to stamp = cond (is_in to stamped_states) stamp 0

-- migration epoch 0
abbrev pub refreshed : Page → State → Page
refreshed p to = record { state = to; dirty = p.dirty; cached = p.cached; stamp = kept_stamp to p.stamp; migrated = 0; mark = p.mark }

abbrev pub started : Page → Page
started p = refreshed p p.state

abbrev pub restored : Page → Page
restored p = refreshed p (goes_by restores p.state)

abbrev pub swept_by : Sweep → Page → Page
swept_by Track p = uncached p
swept_by Start p = started p
swept_by Pause p = uncached p
