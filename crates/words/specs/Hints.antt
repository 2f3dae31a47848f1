-- The values of an entry's STATE: a scan's hint about the page.
use Rattle.std.specs.Prelude.{ℕ}

abbrev pub not_exported : ℕ
not_exported = 0

abbrev pub exported_modified : ℕ
exported_modified = 1

abbrev pub exported_blocked : ℕ
exported_blocked = 2

abbrev pub exported_removed : ℕ
exported_removed = 3
