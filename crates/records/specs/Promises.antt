-- What the crate promises of word 0 of a page record, beyond each function's contract: what every word of the bench is promised.
use Rattle.std.specs.Prelude.{◌≡◌, ◌^◌, ◌<◌, eqb}
use Rattle.words.specs.Runs.{low}
use Rattle.words.specs.Promises.{WordPromises, Setter}
use Rattle.records.specs.Record.{record_of, record_word, lowered, RecordFits, with_state, with_dirty, with_cached, with_stamp, with_migrated}

pub record RecordPromises : Type 0 where
  pub word : WordPromises record_of record_word lowered RecordFits
  pub state : Setter record_of with_state 7 0
  pub dirty : Setter record_of (λ p x. with_dirty p (eqb x 1)) 8 8
  pub cached : Setter record_of (λ p x. with_cached p (eqb x 1)) 9 9
  pub stamp : Setter record_of with_stamp 31 16
  pub migrated : Setter record_of with_migrated 47 32

-- what these suppose can be met: a record that fits, and words of which one reads as the other with a field set
pub record Met : Type 0 where
  pub fits : RecordFits (record_of 4)
  pub before : 4 < 2 ^ 64
  pub after : 0x10004 < 2 ^ 64
  pub stamp_set : record_of 0x10004 ≡ with_stamp (record_of 4) (low 16 1)
