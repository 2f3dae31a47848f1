-- The state numbers of a Secure EPT entry.
use Rattle.std.specs.Prelude.{ℕ}

-- those that the base uses
abbrev pub free : ℕ
free = 0

abbrev pub blocked : ℕ
blocked = 1

abbrev pub pending : ℕ
pending = 2

abbrev pub pending_blocked : ℕ
pending_blocked = 3

abbrev pub mapped : ℕ
mapped = 4

abbrev pub exported : ℕ
exported = 24

abbrev pub exported_modified : ℕ
exported_modified = 25

abbrev pub exported_blocked : ℕ
exported_blocked = 26

abbrev pub exported_removed : ℕ
exported_removed = 27

abbrev pub pending_exported : ℕ
pending_exported = 29

abbrev pub pending_exported_modified : ℕ
pending_exported_modified = 30

abbrev pub pending_exported_blocked : ℕ
pending_exported_blocked = 31

-- the others
abbrev pub removed : ℕ
removed = 5

abbrev pub remove_in_progress : ℕ
remove_in_progress = 6

abbrev pub blockedw : ℕ
blockedw = 8

abbrev pub exported_blockedw : ℕ
exported_blockedw = 9

abbrev pub exported_dirty : ℕ
exported_dirty = 11

abbrev pub exported_dirty_blockedw : ℕ
exported_dirty_blockedw = 12

abbrev pub pending_blockedw : ℕ
pending_blockedw = 16

abbrev pub pending_exported_blockedw : ℕ
pending_exported_blockedw = 17

abbrev pub pending_exported_dirty : ℕ
pending_exported_dirty = 19

abbrev pub pending_exported_dirty_blockedw : ℕ
pending_exported_dirty_blockedw = 20

abbrev pub exported_remove_in_progress : ℕ
exported_remove_in_progress = 28

abbrev pub mmio_mapped : ℕ
mmio_mapped = 32

abbrev pub mmio_blocked : ℕ
mmio_blocked = 33

abbrev pub mmio_pending : ℕ
mmio_pending = 34

abbrev pub l2_free : ℕ
l2_free = 64

abbrev pub l2_blocked : ℕ
l2_blocked = 65

abbrev pub l2_mapped : ℕ
l2_mapped = 68

abbrev pub l2_mmio_mapped : ℕ
l2_mmio_mapped = 96

abbrev pub l2_mmio_blocked : ℕ
l2_mmio_blocked = 97

abbrev pub nl_blocked : ℕ
nl_blocked = 129

abbrev pub nl_mapped : ℕ
nl_mapped = 132

abbrev pub l2_nl_blocked : ℕ
l2_nl_blocked = 193

abbrev pub l2_nl_mapped : ℕ
l2_nl_mapped = 196
