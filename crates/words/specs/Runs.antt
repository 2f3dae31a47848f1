-- A run of bits, in the notation of document 01: `bits w 51 12` is what stands in bits 51:12 of the word w.
use Rattle.std.specs.Prelude.{◌≡◌, Bool, ℕ, ◌+◌, ◌-◌, ◌/◌, ◌%◌, ◌^◌, eqb}
use mir.Val.{bool_byte}

abbrev pub bits : ℕ → ℕ → ℕ → ℕ
bits w hi lo = w / 2 ^ lo % 2 ^ (hi + 1 - lo)

-- what the low bits of a number give
abbrev pub low : ℕ → ℕ → ℕ
low width v = v % 2 ^ width

-- a run of one bit, as a flag
abbrev pub flag : ℕ → ℕ → Bool
flag w at = eqb (bits w at at) 1

-- a flag as a number: 0 or 1
abbrev pub bit : Bool → ℕ
bit b = bool_byte b

-- bits hi:lo of v are x, and every other bit is as in w
pub record FieldAlone (w v hi lo x : ℕ) : Type 0 where
  pub field : bits v hi lo ≡ x
  pub above : v / 2 ^ (hi + 1) ≡ w / 2 ^ (hi + 1)
  pub below : low lo v ≡ low lo w
