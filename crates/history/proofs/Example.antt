-- The example computes.
use mathlib.Core.Path.{◌≡◌, refl, sym, subst}
use mathlib.Core.Bool.{Bool, true, ◌&&◌}
use mathlib.Core.Logic.{⊎_elim}
use mathlib.Core.List.Memᴰ
use mathlib.Core.List.{List, [], ◌∷◌, Memᴰ}
use mathlib.Core.List.Permᴰ
use Prim.Native.Nat.{ℕ, ◌≤◌}
use lib.Dec.{leb, lit<, lit≤}
use borrow.Author.Tests.{leb-true}
use Rattle.records.specs.Record.{record_of, record_word, plain}
use Rattle.words.specs.Entry.{entry_of, entry_word}
use Rattle.words.specs.Info.{info_of, info_word}
use Rattle.refusals.proofs.Laws.{and_left, and_right}
use Rattle.states.specs.States.{state_of, is_strange, is_in, has_move, goes_by, number_in}
use Rattle.page.specs.Page.{page_of, on_words, tracked, gives53, gives54}
use Rattle.page.specs.Moves.{writable}
use Rattle.page.specs.Sweeps.{kept_stamp}
use Rattle.table.specs.Table.{legal, words_at, put_at, some}
use Rattle.session.specs.Session.{work_of, with_work}
use Rattle.session.specs.Formed.{busy, formed, gated}
use Rattle.session.specs.Outcome.{answered}
use Rattle.memory.specs.Memory.{new_code, new_out, on_page}
use Rattle.migration.specs.Migration.{sweep_code, on_all, alone_code, on_session}
use Rattle.migration.specs.Token.{token_code, in_the_way, token_for, token_out}
use Rattle.scan.specs.Look.{listed, listed_word, renewed, look_of}
use Rattle.scan.specs.Scan.{stop_code, end_code, scan_run, range_run, written_of, answer_of, checked_by, within_table}
use Rattle.scan.specs.Scan.{dscan_code, dscan_out, dcheck_code, dcheck_out}
use Rattle.restoring.specs.Restoring.{faulty, restore_status, told_word, restored_entry, left_entry, restored_of}
use Rattle.restore.specs.Restore.{restore_code, ended_at, restore_out}
use Rattle.entry.specs.Entry.{ground_of, invalid, unexportable, status_of, answer_word, sent_entry, failed_entry, taken_of}
use Rattle.lists.specs.Run.{counted, stepped, list_run}
use Rattle.lists.specs.List.{info_back}
use Rattle.export.specs.Export.{export_code, mac_pages, finished_by, export_out}
use Rattle.bundle.specs.Bundle.{Sent, Rising}
use Rattle.history.specs.Earning.{Fair, Full, Whole, most_lists}
use Rattle.history.specs.Example.{reordered, moved, to_pause, Met}
use Rattle.history.specs.History.{at_end}
use Rattle.history.proofs.Earned.{alike}

-- epochs in order, by computing
abbrev from : ℕ → List Sent → Bool
from n [] = true
from n (x ∷ l) = leb n x.epoch && from n l

from-means : (n : ℕ) (l : List Sent) → from n l ≡ true → (y : Sent) → Memᴰ y l → n ≤ y.epoch
from-means n [] e y m = absurd (Memᴰ.not-nil m)
from-means n (x ∷ l) e y m =
    ⊎_elim
    (λ q. subst (λ (z : Sent). n ≤ z.epoch) (sym q) (leb-true n x.epoch (and_left (leb n x.epoch) (from n l) e)))
    (λ k. from-means n l (and_right (leb n x.epoch) (from n l) e) y k)
    (Memᴰ.cases_cons m)

abbrev rising : List Sent → Bool
rising [] = true
rising (x ∷ l) = from x.epoch l && rising l

rising-means : (l : List Sent) → rising l ≡ true → Rising l
rising-means [] e = tt
rising-means (x ∷ l) e = (from-means x.epoch l (and_left (from x.epoch l) (rising l) e), rising-means l (and_right (from x.epoch l) (rising l) e))

pub met : Met
unfolding record_of record_word plain entry_of entry_word info_of info_word state_of is_strange is_in has_move goes_by number_in page_of on_words tracked gives53 gives54
    writable kept_stamp legal words_at put_at some work_of with_work busy formed gated answered new_code new_out on_page sweep_code on_all alone_code on_session token_code
    in_the_way token_for token_out listed listed_word renewed look_of stop_code end_code scan_run range_run written_of answer_of checked_by within_table dscan_code dscan_out
    dcheck_code dcheck_out invalid unexportable status_of answer_word sent_entry failed_entry taken_of counted stepped export_code ground_of mac_pages finished_by export_out
    list_run info_back faulty restore_status told_word restored_entry left_entry restored_of restore_code ended_at restore_out
met =
    record {
      new = refl;
      unready = refl;
      interrupted = refl;
      restored = refl;
      ready = refl;
      token = refl;
      log = refl;
      order = record { same = Permᴰ.swap refl refl; rising = rising-means reordered refl };
      stopped = record { phase = refl; rest = refl; epoch = lit< tt };
      fair = alike Fair _ (record { some = lit≤ tt; most = lit≤ tt; budget = lit≤ tt }) most_lists;
      enough = lit≤ tt;
      full = alike (Full 4) _ (record { room = refl; budget = lit≤ tt }) most_lists;
      eight = refl;
      ended = refl;
      plan = record {
        same = Permᴰ.refl _;
        whole =
            alike (Whole (at_end (moved refl to_pause))) _ (record { usable = lit< tt; buffer = refl; hpa = lit< tt; budgets = lit≤ tt }) 1;
      };
      earned = refl;
      taken = λ l m word k.
          ⊎_elim
          (λ q. Memᴰ.tail (Memᴰ.head q))
          (λ n. ⊎_elim (λ q. Memᴰ.head q) (λ z. absurd (Memᴰ.not-nil z)) (Memᴰ.cases_cons n))
          (Memᴰ.cases_cons (subst (Memᴰ word) (Memᴰ.eq_of_singleton m) k));
      rests = refl;
      anyhow = refl;
      small = alike Fair _ (record { some = lit≤ tt; most = lit≤ tt; budget = lit≤ tt }) 4;
      reach = lit≤ tt;
      slow = refl;
      cut = refl;
      anew = refl;
    }
