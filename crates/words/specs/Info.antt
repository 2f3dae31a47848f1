-- The info word of a GPA list, its five runs lowest first.
use Rattle.std.specs.Prelude.{ℕ, ◌+◌, ◌*◌, ◌^◌, ◌<◌}
use Rattle.words.specs.Runs.{bits, low}
use Rattle.words.specs.declared.infos.Info.{Info}

unfoldable pub info_of : ℕ → Info
info_of w = record { format = bits w 2 0; first = bits w 11 3; hpa = bits w 51 12; zero52 = bits w 54 52; last = bits w 63 55 }

-- of any info the word holds each field's low bits
unfoldable pub info_word : Info → ℕ
info_word x = low 3 x.format + low 9 x.first * 2 ^ 3 + low 40 x.hpa * 2 ^ 12 + low 3 x.zero52 * 2 ^ 52 + low 9 x.last * 2 ^ 55

-- the info with each field's low bits
abbrev pub lowered_info : Info → Info
lowered_info x =
    record { format = low 3 x.format; first = low 9 x.first; hpa = low 40 x.hpa; zero52 = low 3 x.zero52; last = low 9 x.last }

-- each number fits its run
pub record InfoFits (x : Info) : Type 0 where
  pub format : x.format < 2 ^ 3
  pub first : x.first < 2 ^ 9
  pub hpa : x.hpa < 2 ^ 40
  pub zero52 : x.zero52 < 2 ^ 3
  pub last : x.last < 2 ^ 9

-- the info with another value in one field, and the rest as it was
abbrev pub with_format : Info → ℕ → Info
with_format x v = record { format = v; first = x.first; hpa = x.hpa; zero52 = x.zero52; last = x.last }

abbrev pub with_first : Info → ℕ → Info
with_first x v = record { format = x.format; first = v; hpa = x.hpa; zero52 = x.zero52; last = x.last }

abbrev pub with_hpa : Info → ℕ → Info
with_hpa x v = record { format = x.format; first = x.first; hpa = v; zero52 = x.zero52; last = x.last }

abbrev pub with_last : Info → ℕ → Info
with_last x v = record { format = x.format; first = x.first; hpa = x.hpa; zero52 = x.zero52; last = v }
