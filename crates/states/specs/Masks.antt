-- How the code holds a list of states: what only the contracts inside cite.
use Rattle.std.specs.Prelude.{Bool, cond, ◌&&◌, ℕ, ◌*◌, ◌/◌, ◌%◌, ◌^◌, eqb, ltb}

-- a mask has a bit for each number below 64
unfoldable pub in_mask : ℕ → ℕ → Bool
in_mask mask n = ltb n 64 && eqb (mask / 2 ^ (n % 64) % 2) 1

-- a packed table has two bits for each number below 32
unfoldable pub packed_at : ℕ → ℕ → ℕ
packed_at table n = cond (ltb n 32) (table / 2 ^ (2 * (n % 32)) % 4) 0
