-- A GPA list entry, its eleven runs lowest first.
use Rattle.std.specs.Prelude.{Bool, ℕ, ◌+◌, ◌*◌, ◌^◌, ◌<◌}
use Rattle.words.specs.Runs.{bits, low, flag, bit}
use Rattle.words.specs.declared.entries.Entry.{Entry}

unfoldable pub entry_of : ℕ → Entry
entry_of w =
    record {
      level = bits w 1 0;
      pending = flag w 2;
      state = bits w 4 3;
      reserved5 = bits w 6 5;
      l2_map = bits w 9 7;
      mig_type = bits w 11 10;
      gpa = bits w 51 12;
      operation = bits w 53 52;
      reserved54 = bits w 55 54;
      status = bits w 60 56;
      reserved61 = bits w 63 61;
    }

-- of any entry the word holds each field's low bits
unfoldable pub entry_word : Entry → ℕ
entry_word e =
    low 2 e.level
    + bit e.pending * 2 ^ 2
    + low 2 e.state * 2 ^ 3
    + low 2 e.reserved5 * 2 ^ 5
    + low 3 e.l2_map * 2 ^ 7
    + low 2 e.mig_type * 2 ^ 10
    + low 40 e.gpa * 2 ^ 12
    + low 2 e.operation * 2 ^ 52
    + low 2 e.reserved54 * 2 ^ 54
    + low 5 e.status * 2 ^ 56
    + low 3 e.reserved61 * 2 ^ 61

-- each number fits its run
pub record EntryFits (e : Entry) : Type 0 where
  pub level : e.level < 2 ^ 2
  pub state : e.state < 2 ^ 2
  pub reserved5 : e.reserved5 < 2 ^ 2
  pub l2_map : e.l2_map < 2 ^ 3
  pub mig_type : e.mig_type < 2 ^ 2
  pub gpa : e.gpa < 2 ^ 40
  pub operation : e.operation < 2 ^ 2
  pub reserved54 : e.reserved54 < 2 ^ 2
  pub status : e.status < 2 ^ 5
  pub reserved61 : e.reserved61 < 2 ^ 3

-- an entry from its fields, in the order of their places
abbrev entry : ℕ → Bool → ℕ → ℕ → ℕ → ℕ → ℕ → ℕ → ℕ → ℕ → ℕ → Entry
entry level pending state reserved5 l2_map mig_type gpa operation reserved54 status reserved61 =
    record {
      level = level;
      pending = pending;
      state = state;
      reserved5 = reserved5;
      l2_map = l2_map;
      mig_type = mig_type;
      gpa = gpa;
      operation = operation;
      reserved54 = reserved54;
      status = status;
      reserved61 = reserved61;
    }

-- the entry with each field's low bits
abbrev pub lowered_entry : Entry → Entry
lowered_entry e =
    entry (low 2 e.level) e.pending (low 2 e.state) (low 2 e.reserved5) (low 3 e.l2_map) (low 2 e.mig_type) (low 40 e.gpa)
    (low 2 e.operation) (low 2 e.reserved54) (low 5 e.status) (low 3 e.reserved61)

-- the entry with another value in one field, and the rest as it was
abbrev pub with_level : Entry → ℕ → Entry
with_level e v = entry v e.pending e.state e.reserved5 e.l2_map e.mig_type e.gpa e.operation e.reserved54 e.status e.reserved61

abbrev pub with_pending : Entry → Bool → Entry
with_pending e v = entry e.level v e.state e.reserved5 e.l2_map e.mig_type e.gpa e.operation e.reserved54 e.status e.reserved61

abbrev pub with_state : Entry → ℕ → Entry
with_state e v = entry e.level e.pending v e.reserved5 e.l2_map e.mig_type e.gpa e.operation e.reserved54 e.status e.reserved61

abbrev pub with_l2_map : Entry → ℕ → Entry
with_l2_map e v = entry e.level e.pending e.state e.reserved5 v e.mig_type e.gpa e.operation e.reserved54 e.status e.reserved61

abbrev pub with_mig_type : Entry → ℕ → Entry
with_mig_type e v = entry e.level e.pending e.state e.reserved5 e.l2_map v e.gpa e.operation e.reserved54 e.status e.reserved61

abbrev pub with_gpa : Entry → ℕ → Entry
with_gpa e v = entry e.level e.pending e.state e.reserved5 e.l2_map e.mig_type v e.operation e.reserved54 e.status e.reserved61

abbrev pub with_operation : Entry → ℕ → Entry
with_operation e v = entry e.level e.pending e.state e.reserved5 e.l2_map e.mig_type e.gpa v e.reserved54 e.status e.reserved61

abbrev pub with_status : Entry → ℕ → Entry
with_status e v = entry e.level e.pending e.state e.reserved5 e.l2_map e.mig_type e.gpa e.operation e.reserved54 v e.reserved61
