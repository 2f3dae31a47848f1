-- By the laws of every `Word`, at the record's runs: a setter's field is a run, and which one is said here.
use mathlib.Core.Path.{refl, ap}
use lib.Dec.{eqb, lit<}
use lib.ListN.{set}
use Rattle.words.proofs.Runs.{bit-flag}
use Rattle.words.proofs.Words.{word-promises, setter}
use Rattle.records.specs.Record.{record_of, with_state, with_dirty, with_cached, with_stamp, with_migrated}
use Rattle.records.specs.Promises.{RecordPromises, Met}
use Rattle.records.proofs.RecordLaws.{word_zero, record-fits}

pub record-promises : RecordPromises
unfolding record_of
record-promises =
    record {
      word = word-promises word_zero;
      state = setter word_zero with_state 0 _ _ (lit< tt) refl refl (λ p x h. refl);
      dirty = setter word_zero (λ p x. with_dirty p (eqb x 1)) 1 _ _ (lit< tt) refl refl (λ p x h. ap (set (word_zero.runs p) 1) (bit-flag x h));
      cached = setter word_zero (λ p x. with_cached p (eqb x 1)) 2 _ _ (lit< tt) refl refl (λ p x h. ap (set (word_zero.runs p) 2) (bit-flag x h));
      stamp = setter word_zero with_stamp 4 _ _ (lit< tt) refl refl (λ p x h. refl);
      migrated = setter word_zero with_migrated 5 _ _ (lit< tt) refl refl (λ p x h. refl);
    }

pub met : Met
unfolding record_of
met = record { fits = record-fits 4; before = lit< tt; after = lit< tt; stamp_set = refl }
