-- The class of a Secure EPT state number, as document 01 lists the numbers.
use Rattle.std.specs.Prelude.{Bool, false, cond, not, ◌||◌, List, [], ◌∷◌, ℕ, eqb, codes}
use Rattle.words.specs.declared.classes.Class.{Class}
use Rattle.words.specs.declared.classes.Class.TheVariants.{Free, NonLeaf, Leaf, Unlisted}

abbrev pub frees : List ℕ
frees = 0 ∷ 5 ∷ 6 ∷ 27 ∷ 28 ∷ 64 ∷ []

abbrev pub non_leaves : List ℕ
non_leaves = 129 ∷ 132 ∷ 193 ∷ 196 ∷ []

abbrev pub leaves : List ℕ
leaves = 1 ∷ 2 ∷ 3 ∷ 4 ∷ 8 ∷ 9 ∷ 11 ∷ 12 ∷ 16 ∷ 17 ∷ 19 ∷ 20 ∷ 24 ∷ 25 ∷ 26 ∷ 29 ∷ 30 ∷ 31 ∷ 32 ∷ 33 ∷ 34 ∷ 65 ∷ 68 ∷ 96 ∷ 97 ∷ []

abbrev pub is_in : ℕ → List ℕ → Bool
is_in n [] = false
is_in n (x ∷ xs) = eqb n x || is_in n xs

-- the numbers that each class stands for
unfoldable pub stands : Class → ℕ → Bool
stands Free n = is_in n frees
stands NonLeaf n = is_in n non_leaves
stands Leaf n = is_in n leaves
stands Unlisted n = not (is_in n frees || is_in n non_leaves || is_in n leaves)

-- the class that stands for a number
unfoldable pub class_of : ℕ → Class
class_of n = cond (stands Free n) Free (cond (stands NonLeaf n) NonLeaf (cond (stands Leaf n) Leaf Unlisted))

-- how a class is written
abbrev pub class_name : Class → List ℕ
class_name Free = codes "free"
class_name NonLeaf = codes "non-leaf"
class_name Leaf = codes "leaf"
class_name Unlisted = codes "unlisted"
