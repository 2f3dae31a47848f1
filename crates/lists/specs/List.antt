-- What is asked of a list and of its info word, and the info word as it comes back.
use Rattle.std.specs.Prelude.{Bool, cond, not, List, [], ◌∷◌, ℕ, ◌+◌, ◌%◌, eqb, leb, ltb}
use Rattle.words.specs.Codes as codes
use Rattle.words.specs.Info.{info_word, with_first}
use Rattle.words.specs.declared.infos.Info.{Info}
use Rattle.refusals.specs.Refusals.{Test, ◌gives◌}
use Rattle.session.specs.Formed.{within, most_entries}

-- ---- the tests, each by its name

abbrev pub bad_length : ℕ → Bool
bad_length entries = not (within 1 most_entries entries)

abbrev pub bad_format : Info → Bool
bad_format x = not (eqb x.format 0)

-- bits 54:52
abbrev pub bits_set : Info → Bool
bits_set x = not (eqb x.zero52 0)

abbrev pub last_beyond : ℕ → Info → Bool
last_beyond entries x = leb entries x.last

abbrev pub list_tests : ℕ → Info → List Test
list_tests entries x =
    bad_length entries gives codes.operand_invalid
    ∷ bad_format x gives codes.operand_invalid
    ∷ bits_set x gives codes.operand_invalid
    ∷ last_beyond entries x gives codes.operand_invalid
    ∷ []

-- ---- where the operation goes on

-- all done
abbrev pub is_over : Info → ℕ → Bool
is_over x next = ltb x.last next

-- FIRST becomes the next index, at the end (LAST+1) mod 512
unfoldable pub info_back : Info → ℕ → ℕ
info_back x next = info_word (with_first x (cond (is_over x next) ((x.last + 1) % most_entries) next))
