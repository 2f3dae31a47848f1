-- What the crate promises beyond each function's contract. Of a word that a struct names run by run it is stated once, and serves the record of a page too.
use Rattle.std.specs.Prelude.{◌≡◌, false, ℕ, ◌+◌, ◌-◌, ◌*◌, ◌^◌, ◌<◌, T, eqb}
use Rattle.words.specs.Runs.{low, FieldAlone}
use Rattle.words.specs.Class.{stands, class_of}
use Rattle.words.specs.Entry.{entry_of, entry_word, lowered_entry, EntryFits, with_level, with_pending, with_state, with_l2_map, with_mig_type, with_gpa}
use Rattle.words.specs.Entry.{with_operation, with_status}
use Rattle.words.specs.Info.{info_of, info_word, lowered_info, InfoFits, with_format, with_first, with_hpa, with_last}
use Rattle.words.specs.declared.classes.Class.{Class}
use Rattle.words.specs.declared.classes.Class.TheVariants.{Free, NonLeaf, Leaf, Unlisted}
use Rattle.words.specs.declared.entries.Entry.{Entry}

pub record WordPromises {A : Type 0} (read : ℕ → A) (write : A → ℕ) (lowered : A → A) (Fits : A → Type 0) : Type 0 where
  -- reader and writer are inverse
  pub read_back : (a : A) → Fits a → read (write a) ≡ a
  pub written_back : (w : ℕ) → w < 2 ^ 64 → write (read w) ≡ w
  -- a word is determined by its reading
  pub determined : (v w : ℕ) → v < 2 ^ 64 → w < 2 ^ 64 → read v ≡ read w → v ≡ w
  -- what is read fits; of any struct at all the writer makes a word, which holds each field's low bits
  pub fits : (w : ℕ) → Fits (read w)
  pub word : (a : A) → write a < 2 ^ 64
  pub low_bits : (a : A) → read (write a) ≡ lowered a

-- a setter changes its field alone: the word that reads as w with another value there differs from w in bits hi:lo at most
abbrev pub Setter : {A : Type 0} → (ℕ → A) → (A → ℕ → A) → ℕ → ℕ → Type 0
Setter read put hi lo =
    (w v x : ℕ) → w < 2 ^ 64 → v < 2 ^ 64 → read v ≡ put (read w) (low (hi + 1 - lo) x) → FieldAlone w v hi lo (low (hi + 1 - lo) x)

pub record EntryPromises : Type 0 where
  pub word : WordPromises entry_of entry_word lowered_entry EntryFits
  pub level : Setter entry_of with_level 1 0
  pub pending : Setter entry_of (λ e x. with_pending e (eqb x 1)) 2 2
  pub state : Setter entry_of with_state 4 3
  pub l2_map : Setter entry_of with_l2_map 9 7
  pub mig_type : Setter entry_of with_mig_type 11 10
  pub gpa : Setter entry_of with_gpa 51 12
  pub operation : Setter entry_of with_operation 53 52
  pub status : Setter entry_of with_status 60 56

pub record InfoPromises : Type 0 where
  pub word : WordPromises info_of info_word lowered_info InfoFits
  pub format : Setter info_of with_format 2 0
  pub first : Setter info_of with_first 11 3
  pub hpa : Setter info_of with_hpa 51 12
  pub last : Setter info_of with_last 63 55

-- the entry that names page i and says nothing else
abbrev pub addressed : ℕ → Entry
addressed i =
    record {
      level = 0;
      pending = false;
      state = 0;
      reserved5 = 0;
      l2_map = 0;
      mig_type = 0;
      gpa = i;
      operation = 0;
      reserved54 = 0;
      status = 0;
      reserved61 = 0;
    }

-- page i has byte address 4,096·i
pub record PageAddress : Type 0 where
  pub address : (i : ℕ) → i < 2 ^ 40 → entry_of (4096 * i) ≡ addressed i

-- every number has the class that stands for it, and no other class does
pub record ClassPromises : Type 0 where
  pub standing : (n : ℕ) → T (stands (class_of n) n)
  pub alone : (k : Class) (n : ℕ) → T (stands k n) → k ≡ class_of n

-- what these suppose can be met: numbers and words in range, of which one reads as the other with a field set; a number of each class
pub record Met : Type 0 where
  pub page : 5 < 2 ^ 40
  pub before : 0x5000 < 2 ^ 64
  pub after : 0x0500000000005000 < 2 ^ 64
  pub entry : EntryFits (addressed 5)
  pub status_set : entry_of 0x0500000000005000 ≡ with_status (entry_of 0x5000) (low 5 5)
  pub info : InfoFits (info_of 0x5000)
  pub last_set : info_of 0x0500000000005000 ≡ with_last (info_of 0x5000) (low 9 10)
  pub free : T (stands Free 27)
  pub non_leaf : T (stands NonLeaf 129)
  pub leaf : T (stands Leaf 34)
  pub unlisted : T (stands Unlisted 35)
