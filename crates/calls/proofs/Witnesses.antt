-- By computing.
use mathlib.Core.Path.{refl}
use native.Mathlib.Omega.{arith}
use lib.Dec.{lit<, lit≤}
use Rattle.records.specs.Record.{record_of, plain}
use Rattle.words.specs.Entry.{entry_of}
use Rattle.states.specs.States.{state_of, is_strange, is_in, has_move}
use Rattle.page.specs.Page.{page_of, tracked}
use Rattle.table.specs.Table.{legal, words_at}
use Rattle.session.specs.Formed.{formed, busy, gated}
use Rattle.session.specs.Outcome.{answered}
use Rattle.memory.specs.Memory.{on_page}
use Rattle.entry.specs.Entry.{invalid, unexportable, status_of, sent_entry, failed_entry, taken_of}
use Rattle.restoring.specs.Restoring.{faulty, restore_status, restored_entry, left_entry, restored_of}
use Rattle.migration.specs.Migration.{sweep_code, on_all}
use Rattle.calls.specs.Witnesses.{Met}

pub met : Met
unfolding legal formed busy gated answered record_of plain state_of is_strange is_in has_move page_of tracked words_at invalid unexportable status_of sent_entry
    failed_entry taken_of faulty restore_status restored_entry left_entry restored_of on_page sweep_code on_all entry_of
met =
    record {
      refuses = refl;
      not53 = refl;
      not54 = refl;
      other = refl;
      passed = refl;
      done = refl;
      one = refl;
      others = λ e. omega arith;
      all = lit< tt;
      epoch = lit< tt;
      entry = lit< tt;
      succeeds = refl;
      fails = λ e. omega (arith, e);
      restores = refl;
      unrestored = λ e. omega (arith, e);
      beside = λ e. omega arith;
      range = lit≤ tt;
      look = lit< tt;
    }
