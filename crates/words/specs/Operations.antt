-- The values of an entry's OPERATION.
use Rattle.std.specs.Prelude.{ℕ}

abbrev pub nop : ℕ
nop = 0

abbrev pub migrate : ℕ
migrate = 1

abbrev pub cancel : ℕ
cancel = 2

abbrev pub remigrate : ℕ
remigrate = 3

-- in a list for RESTORE
abbrev pub restore : ℕ
restore = 1
