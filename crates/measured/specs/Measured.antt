-- What is summed for measuring.
use Rattle.std.specs.Prelude.{ℕ, ◌+◌, ◌%◌, ◌^◌, List, [], ◌∷◌}
use Rattle.words.specs.declared.classes.Class.{Class}
use Rattle.words.specs.declared.classes.Class.TheVariants.{Free, NonLeaf, Leaf, Unlisted}
use Rattle.words.specs.Class.{class_of}

-- a number for each class
abbrev pub number_of : Class → ℕ
number_of Free = 0
number_of NonLeaf = 1
number_of Leaf = 2
number_of Unlisted = 3

-- a sum, with those of some state numbers added to it, in a word of 64 bits
abbrev pub summed : ℕ → List ℕ → ℕ
summed sum [] = sum
summed sum (n ∷ ns) = summed ((sum + number_of (class_of n)) % 2 ^ 64) ns

abbrev pub classes_sum : List ℕ → ℕ
classes_sum ns = summed 0 ns
