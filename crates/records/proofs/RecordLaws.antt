-- The laws of word 0 of a page record: those of every `Word`, at its seven runs; and the mask of the spare runs.
use mathlib.Core.Path.{◌≡◌, refl, sym, ap, ap₂, ◌∙◌}
use mathlib.Core.Bool.{Bool, true, false, ◌&&◌}
use mathlib.Core.List.{List, [], ◌∷◌}
use Prim.Native.Nat.{ℕ, zero, suc, ◌+◌, ◌*◌, ◌^◌, ◌<◌}
use native.Mathlib.Omega.{arith}
use borrow.Author.Tests.{ne_eqb}
use lib.Bits.{bit_and}
use lib.Dec.{eqb, eqb-suc-zero}
use lib.ListN.{get_or, set}
use Rattle.words.specs.Runs.{bits, bit}
use Rattle.records.specs.Record.{record_of, record_word, lowered, RecordFits, plain, with_dirty, with_cached}
use Rattle.records.specs.declared.Record.{Record}
use Rattle.words.proofs.Runs.{bits-lt, bit-lt, bit-low, flag-bit, bit-flag, split, join, ones, kept, and-join}
use Rattle.words.proofs.Words.{Word, read-write, read-write-low, read-lowered, write_read, read_same, write-lt}

abbrev pub widths : List ℕ
widths = 8 ∷ 1 ∷ 1 ∷ 6 ∷ 16 ∷ 16 ∷ 16 ∷ []

abbrev pub runs : Record → List ℕ
runs p = p.state ∷ bit p.dirty ∷ bit p.cached ∷ p.spare10 ∷ p.stamp ∷ p.migrated ∷ p.spare48 ∷ []

abbrev pub of_runs : List ℕ → Record
of_runs l =
    record {
      state = get_or l 0 0;
      dirty = eqb (get_or l 1 0) 1;
      cached = eqb (get_or l 2 0) 1;
      spare10 = get_or l 3 0;
      stamp = get_or l 4 0;
      migrated = get_or l 5 0;
      spare48 = get_or l 6 0;
    }

pub record-joined : (p : Record) → record_word p ≡ join 0 widths (runs (lowered p))
unfolding record_word
record-joined p = omega arith

pub record-fits : (w : ℕ) → RecordFits (record_of w)
unfolding record_of
record-fits w = search arith

-- (`record` is a word of antt's)
abbrev pub word_zero : Word record_of record_word lowered RecordFits
unfolding record_of
word_zero =
    record {
      widths = widths;
      fills = refl;
      runs = runs;
      of = of_runs;
      reads = λ w. refl;
      writes = record-joined;
      low-runs = λ p. ap₂ (λ (d c : ℕ). set (set (runs (lowered p)) 1 d) 2 c) (bit-low p.dirty) (bit-low p.cached);
      of-runs = λ p. ap₂ (λ (d c : Bool). with_cached (with_dirty p d) c) (flag-bit p.dirty) (flag-bit p.cached);
      runs_of = λ w.
          ap₂ (λ (d c : ℕ). set (set (split 0 widths w) 1 d) 2 c) (bit-flag (bits w 8 8) (bits-lt w 8 8)) (bit-flag (bits w 9 9) (bits-lt w 9 9));
      fit = λ p f. (f.state, (bit-lt p.dirty, (bit-lt p.cached, (f.spare10, (f.stamp, (f.migrated, (f.spare48, tt)))))));
      fits = record-fits;
    }

pub record-word : (p : Record) → RecordFits p → record_of (record_word p) ≡ p
record-word = read-write word_zero

pub record-low : (p : Record) → record_of (record_word p) ≡ lowered p
record-low = read-write-low word_zero

pub word-record : (w : ℕ) → w < 2 ^ 64 → record_word (record_of w) ≡ w
word-record = write_read word_zero

pub record_same : (v w : ℕ) → v < 2 ^ 64 → w < 2 ^ 64 → record_of v ≡ record_of w → v ≡ w
record_same = read_same word_zero

-- a word that reads as a record's low bits is that record's word
pub word-lowered : (v : ℕ) (p : Record) → v < 2 ^ 64 → record_of v ≡ lowered p → v ≡ record_word p
word-lowered = read-lowered word_zero

pub record-lt : (p : Record) → record_word p < 2 ^ 64
record-lt = write-lt word_zero

-- ---- the mask of the spare runs

abbrev spare_runs : List Bool
spare_runs = false ∷ false ∷ false ∷ true ∷ false ∷ false ∷ true ∷ []

-- two runs, each at its place, sum to 0 where both are 0
both_zero : (a b : ℕ) → eqb (a * 2 ^ 10 + b * 2 ^ 48) 0 ≡ (eqb a 0 && eqb b 0)
both_zero zero zero = refl
both_zero zero (suc b) = ne_eqb (zero * 2 ^ 10 + suc b * 2 ^ 48) 0 (λ h. omega arith) ∙ sym (eqb-suc-zero b)
both_zero (suc a) b =
    ne_eqb (suc a * 2 ^ 10 + b * 2 ^ 48) 0 (λ h. omega arith) ∙ ap (λ (x : Bool). x && eqb b 0) (sym (eqb-suc-zero a))

pub plain_code : (w : ℕ) → eqb (bit_and w (join 0 widths (ones widths spare_runs))) 0 ≡ plain (record_of w)
unfolding record_of plain
plain_code w =
    let sum : join 0 widths (kept spare_runs (split 0 widths w)) ≡ bits w 15 10 * 2 ^ 10 + bits w 63 48 * 2 ^ 48 = omega arith in
    ap (λ (m : ℕ). eqb m 0) (and-join widths spare_runs w ∙ sum) ∙ both_zero (bits w 15 10) (bits w 63 48)
