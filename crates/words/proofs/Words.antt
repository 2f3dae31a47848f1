-- A word that a struct names run by run: what is proved once for all such words, from `Runs` and `RunCode`. `read` and `write` are the word's definitions in
-- specs/, and `lowered` is the struct with each field's low bits: those are written of any struct.
use mathlib.Core.Path.{◌≡◌, sym, ap, ◌∙◌, subst, subst₂}
use mathlib.Core.List.{List}
use Prim.Native.Nat.{ℕ, ◌+◌, ◌-◌, ◌/◌, ◌%◌, ◌^◌, ◌<◌}
use native.Mathlib.Omega.{arith}
use lib.ListN.{get_or, length, set}
use Rattle.words.specs.Runs.{low}
use Rattle.words.specs.Promises.{WordPromises, Setter}
use Rattle.words.proofs.Runs.{low-lt, split, join, Fit, total, place, lows, lows-fit, lows-same, split-join, join-split, join-lt, RunAlone, run_alone}
use Rattle.words.proofs.RunCode.{write_runs, write-runs}

pub record Word {A : Type 0} (read : ℕ → A) (write : A → ℕ) (lowered : A → A) (Fits : A → Type 0) : Type 0 where
  pub widths : List ℕ
  pub fills : total widths ≡ 64
  -- the struct's runs, and the struct of some runs
  pub runs : A → List ℕ
  pub of : List ℕ → A
  pub reads : (w : ℕ) → read w ≡ of (split 0 widths w)
  pub writes : (a : A) → write a ≡ join 0 widths (runs (lowered a))
  pub low-runs : (a : A) → runs (lowered a) ≡ lows widths (runs a)
  pub of-runs : (a : A) → of (runs a) ≡ a
  pub runs_of : (w : ℕ) → runs (read w) ≡ split 0 widths w
  pub fit : (a : A) → Fits a → Fit widths (runs a)
  pub fits : (w : ℕ) → Fits (read w)

module _ {A : Type 0} {read : ℕ → A} {write : A → ℕ} {lowered : A → A} {Fits : A → Type 0} (W : Word read write lowered Fits) where
  abbrev widths : List ℕ
  widths = W.widths

  filled : {n : ℕ} → n < 2 ^ 64 → n < 2 ^ total widths
  filled {n} h = subst (λ (m : ℕ). n < 2 ^ m) (sym W.fills) h

  low-fit : (a : A) → Fit widths (W.runs (lowered a))
  low-fit a = rw (W.low-runs a) (lows-fit widths (W.runs a))

  lowered-same : (a : A) → Fits a → lowered a ≡ a
  lowered-same a f =
      sym (W.of-runs (lowered a)) ∙ ap W.of (W.low-runs a ∙ lows-same widths (W.runs a) (W.fit a f)) ∙ W.of-runs a

  -- reading what was written of any struct gives each field's low bits; of one that fits, the struct itself
  pub read-write-low : (a : A) → read (write a) ≡ lowered a
  read-write-low a =
      W.reads (write a)
      ∙ ap W.of (ap (split 0 widths) (W.writes a) ∙ split-join widths (W.runs (lowered a)) (low-fit a))
      ∙ W.of-runs (lowered a)

  pub read-write : (a : A) → Fits a → read (write a) ≡ a
  read-write a f = read-write-low a ∙ lowered-same a f

  -- writing what was read gives the word
  pub write_read : (w : ℕ) → w < 2 ^ 64 → write (read w) ≡ w
  write_read w h =
      W.writes (read w)
      ∙ ap (λ (a : A). join 0 widths (W.runs a)) (lowered-same (read w) (W.fits w))
      ∙ ap (join 0 widths) (W.runs_of w)
      ∙ join-split widths w (filled h)

  pub write-lt : (a : A) → write a < 2 ^ 64
  write-lt a =
      subst (λ (n : ℕ). n < 2 ^ 64) (sym (W.writes a))
      (subst (λ (n : ℕ). join 0 widths (W.runs (lowered a)) < 2 ^ n) W.fills (join-lt widths (W.runs (lowered a)) (low-fit a)))

  -- two words that read alike are one, and a word that reads as a struct's low bits is that struct's
  pub read_same : (v w : ℕ) → v < 2 ^ 64 → w < 2 ^ 64 → read v ≡ read w → v ≡ w
  read_same v w hv hw e = sym (write_read v hv) ∙ ap write e ∙ write_read w hw

  pub read-lowered : (v : ℕ) (a : A) → v < 2 ^ 64 → read v ≡ lowered a → v ≡ write a
  read-lowered v a h e = read_same v (write a) h (write-lt a) (e ∙ sym (read-write-low a))

  -- ---- what the code computes

  pub write-code : (a : A) → write_runs widths (W.runs a) ≡ write a
  write-code a =
      write-runs widths (W.runs a) ∙ ap (join 0 widths) (sym (W.low-runs a)) ∙ sym (W.writes a)

  -- ---- what is promised

  pub word-promises : WordPromises read write lowered Fits
  word-promises =
      record { read_back = read-write; written_back = write_read; determined = read_same; fits = W.fits; word = write-lt; low_bits = read-write-low }

  -- `put` sets run i, which lies in bits hi:lo
  pub setter : (put : A → ℕ → A) (i hi lo : ℕ) → i < length widths → place widths i ≡ lo → get_or widths i 0 + place widths i ≡ hi + 1
      → ((a : A) (x : ℕ) → x < 2 ^ (hi + 1 - lo) → W.runs (put a x) ≡ set (W.runs a) i x)
      → Setter read put hi lo
  setter put i hi lo l from to puts w v x hw hv e =
      record {
        field = subst₂ (λ (m n : ℕ). v / 2 ^ m % 2 ^ n ≡ y) from (omega (arith, from, to)) alone.run;
        above = subst (λ (n : ℕ). v / 2 ^ n ≡ w / 2 ^ n) to alone.above;
        below = subst (λ (n : ℕ). v % 2 ^ n ≡ w % 2 ^ n) from alone.below;
      }
    where
      y : ℕ
      y = low (hi + 1 - lo) x

      alone : RunAlone v w (place widths i) (get_or widths i 0) y
      alone =
          run_alone widths i l (filled hv) (filled hw)
          (sym (W.runs_of v) ∙ ap W.runs e ∙ puts (read w) y (low-lt (hi + 1 - lo) x) ∙ ap (λ (xs : List ℕ). set xs i y) (W.runs_of w))
