-- Not behind 40 all is as it came; behind it, the turn on the words that the table holds is stored where it is made.
use mathlib.Core.Path.{◌≡◌, sym, ◌∙◌}
use mathlib.Core.Bool.{Bool, true}
use borrow.Author.Rules.{rules}
use mathlib.Core.List.{List}
use Prim.Native.Nat.{ℕ}
use lib.ListN.{length}
use Rattle.refusals.proofs.Laws.{number-pos}
use Rattle.page.specs.declared.PageWords.{PageWords}
use Rattle.page.specs.declared.moves.Move.{Move}
use Rattle.table.specs.Table.{put_at, words_at}
use Rattle.session.specs.Formed.{formed}
use Rattle.session.specs.Outcome.{answered}
use Rattle.session.specs.declared.Session.{Session}
use Rattle.memory.specs.Memory.{page_turn, on_page}
use Rattle.memory.proofs.Laws.{page-turn}
use Rattle.memory.proofs.on_page.Goals as goal

-- behind 40 the call is the turn on the words that were loaded
turned : (m : Move) (s : Session) (t : List ℕ) (at : ℕ) (f : Bool) (w : PageWords) → f ≡ formed s (length t) → f ≡ true → w ≡ words_at t at →
    let turn = page_turn m s.phase s.fixed.pages s.clock at w in
    on_page m s t at ≡ answered turn.code s t s (put_at t at turn.words)
turned m s t at f w e h l = rw l (page-turn m s t at (sym e ∙ h))

pub returns-then-not-is_formed-clause-value : goal.returns-then-not-is_formed-clause-value
unfolding on_page answered
returns-then-not-is_formed-clause-value c = rw (← c.is_formed.ensures, c.if-not-is_formed.true)

pub returns-then-not-is_formed-clause-table_after : goal.returns-then-not-is_formed-clause-table_after
unfolding on_page answered
returns-then-not-is_formed-clause-table_after c = rw (← c.is_formed.ensures, c.if-not-is_formed.true)

pub returns-in_err-after-clause-value : goal.returns-in_err-after-clause-value
unfolding answered
returns-in_err-after-clause-value c = rw (turned c.args.m c.args.s c.args.table.now c.args.at _ _ c.is_formed.ensures c.if-not-is_formed.false c.load-before.ensures, ← c.in_err-after.ensures.code, number-pos c.in_err-after.field-0.0) (search rules)

pub returns-in_err-after-clause-table_after : goal.returns-in_err-after-clause-table_after
unfolding answered
returns-in_err-after-clause-table_after c = rw (turned c.args.m c.args.s c.args.table.now c.args.at _ _ c.is_formed.ensures c.if-not-is_formed.false c.load-before.ensures, ← c.in_err-after.ensures.code, number-pos c.in_err-after.field-0.0)

pub returns-clause-value : goal.returns-clause-value
unfolding answered
returns-clause-value c = rw (turned c.args.m c.args.s c.args.table.now c.args.at _ _ c.is_formed.ensures c.if-not-is_formed.false c.load-before.ensures, ← c.in_ok-after.ensures.code)

pub returns-clause-table_after : goal.returns-clause-table_after
unfolding answered
returns-clause-table_after c = rw (turned c.args.m c.args.s c.args.table.now c.args.at _ _ c.is_formed.ensures c.if-not-is_formed.false c.load-before.ensures, ← c.in_ok-after.ensures.code, ← c.in_ok-after.ensures.words) c.store.ensures
