-- The number is the record's where no spare bit is set; what it names is the page's state.
use Rattle.page.specs.Page.{number_read}
use Rattle.page.proofs.Laws.{read_as}
use Rattle.page.proofs.state_of.Goals as goal

pub returns-then-plain : goal.returns-then-plain
unfolding number_read
returns-then-plain c =
    let all = read_as c.args.w _ (rw (← c.is_plain-plain.ensures, c.if-plain.true) cc) in
    record {
      value = all.0;
      result_value = all.1;
    }

pub returns-else-plain : goal.returns-else-plain
unfolding number_read
returns-else-plain c =
    let all = read_as c.args.w _ (rw (← c.is_plain-plain.ensures, c.if-plain.false)) in
    record {
      value = all.0;
      result_value = all.1;
    }
