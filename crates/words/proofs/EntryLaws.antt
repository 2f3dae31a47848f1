-- The laws of a GPA list entry: those of every `Word`, at its eleven runs.
use mathlib.Core.Path.{◌≡◌, refl, ap, ◌∙◌}
use mathlib.Core.List.{List, [], ◌∷◌}
use Prim.Native.Nat.{ℕ, ◌*◌, ◌^◌, ◌<◌}
use native.Mathlib.Omega.{arith}
use lib.Dec.{eqb}
use lib.ListN.{get_or, set}
use Rattle.words.specs.Runs.{bits, bit}
use Rattle.words.specs.Entry.{entry_of, entry_word, lowered_entry, EntryFits, with_pending}
use Rattle.words.specs.Promises.{addressed}
use Rattle.words.specs.declared.entries.Entry.{Entry}
use Rattle.words.proofs.Runs.{bits-lt, bit-lt, bit-low, flag-bit, bit-flag, split, join}
use Rattle.words.proofs.Words.{Word, read-write, read-write-low, write_read, read_same, write-lt}

abbrev pub widths : List ℕ
widths = 2 ∷ 1 ∷ 2 ∷ 2 ∷ 3 ∷ 2 ∷ 40 ∷ 2 ∷ 2 ∷ 5 ∷ 3 ∷ []

abbrev pub runs : Entry → List ℕ
runs e =
    e.level ∷ bit e.pending ∷ e.state ∷ e.reserved5 ∷ e.l2_map ∷ e.mig_type ∷ e.gpa ∷ e.operation ∷ e.reserved54 ∷ e.status ∷ e.reserved61 ∷ []

abbrev pub of_runs : List ℕ → Entry
of_runs l =
    record {
      level = get_or l 0 0;
      pending = eqb (get_or l 1 0) 1;
      state = get_or l 2 0;
      reserved5 = get_or l 3 0;
      l2_map = get_or l 4 0;
      mig_type = get_or l 5 0;
      gpa = get_or l 6 0;
      operation = get_or l 7 0;
      reserved54 = get_or l 8 0;
      status = get_or l 9 0;
      reserved61 = get_or l 10 0;
    }

pub entry-joined : (e : Entry) → entry_word e ≡ join 0 widths (runs (lowered_entry e))
unfolding entry_word
entry-joined e = omega arith

pub entry-fits : (w : ℕ) → EntryFits (entry_of w)
unfolding entry_of
entry-fits w = search arith

abbrev pub entry : Word entry_of entry_word lowered_entry EntryFits
unfolding entry_of
entry =
    record {
      widths = widths;
      fills = refl;
      runs = runs;
      of = of_runs;
      reads = λ w. refl;
      writes = entry-joined;
      low-runs = λ e. ap (set (runs (lowered_entry e)) 1) (bit-low e.pending);
      of-runs = λ e. ap (with_pending e) (flag-bit e.pending);
      runs_of = λ w. ap (set (split 0 widths w) 1) (bit-flag (bits w 2 2) (bits-lt w 2 2));
      fit = λ e f. (
        f.level,
        (
          bit-lt e.pending,
          (
            f.state,
            (f.reserved5, (f.l2_map, (f.mig_type, (f.gpa, (f.operation, (f.reserved54, (f.status, (f.reserved61, tt)))))))),
          ),
        ),
      );
      fits = entry-fits;
    }

pub entry-word : (e : Entry) → EntryFits e → entry_of (entry_word e) ≡ e
entry-word = read-write entry

pub entry-low : (e : Entry) → entry_of (entry_word e) ≡ lowered_entry e
entry-low = read-write-low entry

pub word-entry : (w : ℕ) → w < 2 ^ 64 → entry_word (entry_of w) ≡ w
word-entry = write_read entry

pub entry-same : (v w : ℕ) → v < 2 ^ 64 → w < 2 ^ 64 → entry_of v ≡ entry_of w → v ≡ w
entry-same = read_same entry

pub entry_lt : (e : Entry) → entry_word e < 2 ^ 64
entry_lt = write-lt entry

-- ---- page i has byte address 4,096·i

address : (i : ℕ) → i < 2 ^ 40 → 4096 * i ≡ entry_word (addressed i)
unfolding entry_word
address i h = omega arith

pub addressed-fits : (i : ℕ) → i < 2 ^ 40 → EntryFits (addressed i)
addressed-fits i h = search arith

pub byte-address : (i : ℕ) → i < 2 ^ 40 → entry_of (4096 * i) ≡ addressed i
byte-address i h = ap entry_of (address i h) ∙ entry-word (addressed i) (addressed-fits i h)
