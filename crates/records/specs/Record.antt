-- Word 0 of a page record, its seven runs lowest first. A request that gives a run another meaning changes this page, and with it the code and the laws of
-- this crate alone.
use Rattle.std.specs.Prelude.{Bool, ◌&&◌, ℕ, ◌+◌, ◌*◌, ◌^◌, ◌<◌, eqb}
use Rattle.words.specs.Runs.{bits, low, flag, bit}
use Rattle.records.specs.declared.Record.{Record}

unfoldable pub record_of : ℕ → Record
record_of w =
    record {
      state = bits w 7 0;
      dirty = flag w 8;
      cached = flag w 9;
      spare10 = bits w 15 10;
      stamp = bits w 31 16;
      migrated = bits w 47 32;
      spare48 = bits w 63 48;
    }

-- of any record the word holds each field's low bits
unfoldable pub record_word : Record → ℕ
record_word p =
    low 8 p.state
    + bit p.dirty * 2 ^ 8
    + bit p.cached * 2 ^ 9
    + low 6 p.spare10 * 2 ^ 10
    + low 16 p.stamp * 2 ^ 16
    + low 16 p.migrated * 2 ^ 32
    + low 16 p.spare48 * 2 ^ 48

-- the record with each field's low bits
abbrev pub lowered : Record → Record
lowered p =
    record {
      state = low 8 p.state;
      dirty = p.dirty;
      cached = p.cached;
      spare10 = low 6 p.spare10;
      stamp = low 16 p.stamp;
      migrated = low 16 p.migrated;
      spare48 = low 16 p.spare48;
    }

-- each number fits its run
pub record RecordFits (p : Record) : Type 0 where
  pub state : p.state < 2 ^ 8
  pub spare10 : p.spare10 < 2 ^ 6
  pub stamp : p.stamp < 2 ^ 16
  pub migrated : p.migrated < 2 ^ 16
  pub spare48 : p.spare48 < 2 ^ 16

-- no spare bit is set
unfoldable pub plain : Record → Bool
plain p = eqb p.spare10 0 && eqb p.spare48 0

-- the record with another value in one field, and the rest as it was
abbrev pub with_state : Record → ℕ → Record
with_state p v = record { state = v; dirty = p.dirty; cached = p.cached; spare10 = p.spare10; stamp = p.stamp; migrated = p.migrated; spare48 = p.spare48 }

abbrev pub with_dirty : Record → Bool → Record
with_dirty p v = record { state = p.state; dirty = v; cached = p.cached; spare10 = p.spare10; stamp = p.stamp; migrated = p.migrated; spare48 = p.spare48 }

abbrev pub with_cached : Record → Bool → Record
with_cached p v = record { state = p.state; dirty = p.dirty; cached = v; spare10 = p.spare10; stamp = p.stamp; migrated = p.migrated; spare48 = p.spare48 }

abbrev pub with_stamp : Record → ℕ → Record
with_stamp p v = record { state = p.state; dirty = p.dirty; cached = p.cached; spare10 = p.spare10; stamp = v; migrated = p.migrated; spare48 = p.spare48 }

abbrev pub with_migrated : Record → ℕ → Record
with_migrated p v = record { state = p.state; dirty = p.dirty; cached = p.cached; spare10 = p.spare10; stamp = p.stamp; migrated = v; spare48 = p.spare48 }
