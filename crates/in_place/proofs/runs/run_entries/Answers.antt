-- The words of the list are as many as its bytes have eights; and the bytes that the run leaves are those of the words.
use Rattle.wire.proofs.BytesLaws.{words-length}
use Rattle.in_place.proofs.Laws.{written}
use Rattle.in_place.proofs.runs.run_entries.Goals as goal

pub run_entries-requires : goal.run_entries-requires
run_entries-requires c = let pre = c.requires.last_in_bounds in (rw (words-length c.args.list.now) pre.0, pre.1, pre.2, pre.3, pre.4)

pub returns : goal.returns
returns c =
    let ran = c.run_entries.ensures in
    let pre = c.requires.table_len in
    let long = c.run_entries.auto in
    record {
      value = ran.value;
      table_after = written _ (record { bytes = λ i. (c.type_inv.table i).fits; words = rw long.table pre.0 }) ran.table_after;
      list_after = written _ (record { bytes = λ i. (c.type_inv.list i).fits; words = rw long.list pre.1 }) ran.list_after;
      buffer_after = written _ (record { bytes = λ i. (c.type_inv.buffer i).fits; words = rw long.buffer pre.2 }) ran.buffer_after;
    }
