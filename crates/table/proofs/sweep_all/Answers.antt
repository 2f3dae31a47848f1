-- After i rounds the table is the sweep of its first i pages, and after all rounds of all of them (`sweep-first`).
use Rattle.table.specs.Table.{page_count}
use Rattle.std.proofs.Common.{rules}
use Rattle.page.specs.Page.{on_words}
use Rattle.page.specs.Sweeps.{swept_by}
use Rattle.table.proofs.Laws.{sweep-first}
use native.Mathlib.Numerals.{add-one}
use mathlib.Core.Path.{◌≡◌}
use Rattle.table.proofs.sweep_all.Goals as goal

pub loop-i-preserved : goal.loop-i-preserved
loop-i-preserved g c =
    rw (add-one c.loop-i.i, c.store.ensures, c.sweep_words-after.ensures, c.load-before.ensures, c.loop-i.invariant)

pub returns : goal.returns
returns g c = let t = g.T.Form.words c.args.table.now in
    let end : c.loop-i.i ≡ page_count t = search rules in
    rw (← sweep-first (on_words (swept_by c.args.k)) t, ← end) c.loop-i.invariant
