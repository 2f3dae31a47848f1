-- The same for all words that a struct names run by run (`Words`): what a reader, a writer and a setter that mask run after run (`Masks`) make of one is what the
-- word's definitions say.
use mathlib.Core.Path.{◌≡◌, sym, ap, ◌∙◌, subst}
use mathlib.Core.List.{List}
use Prim.Native.Nat.{ℕ, ◌-◌, ◌^◌, ◌<◌}
use native.Mathlib.Omega.{arith}
use lib.Bits.{bit_and, and_mask, mask_lt}
use lib.ListN.{get_or, length, set}
use Rattle.words.specs.Runs.{low}
use Rattle.words.proofs.Runs.{split, Fit, lows-fit}
use Rattle.words.proofs.Masks.{read_runs, read-runs, masked, masked-lows, write_runs, write-runs, put_run, put-runs}
use Rattle.words.proofs.Words.{Word}

module _ {A : Type 0} {read : ℕ → A} {write : A → ℕ} {lowered : A → A} {Fits : A → Type 0} (W : Word read write lowered Fits) where
  abbrev widths : List ℕ
  widths = W.widths

  pub read-code : (w : ℕ) → (W.of (read_runs widths w) ≡ read w) × Fits (W.of (read_runs widths w))
  read-code w = (same, subst Fits (sym same) (W.fits w))
    where
      same : W.of (read_runs widths w) ≡ read w
      same = ap W.of (read-runs widths w) ∙ sym (W.reads w)

  pub write-code : (a : A) → write_runs widths (masked widths (W.runs a)) ≡ write a
  write-code a =
      ap (write_runs widths) (masked-lows widths (W.runs a) ∙ sym (W.low-runs a))
      ∙ write-runs widths (W.runs (lowered a)) (omega (arith, W.fills)) low-fit
      ∙ sym (W.writes a)
    where
      low-fit : Fit widths (W.runs (lowered a))
      low-fit = rw (W.low-runs a) (lows-fit widths (W.runs a))

  -- a setter of a number that fits, and of any number, masked
  pub put-code : (i w : ℕ) {v : ℕ} → i < length widths → v < 2 ^ get_or widths i 0
      → read (put_run widths i w v) ≡ W.of (set (split 0 widths w) i v)
  put-code i w {v} l h = W.reads (put_run widths i w v) ∙ ap W.of (put-runs widths i w (omega (arith, W.fills)) l h)

  pub set_code : (i w v : ℕ) → i < length widths
      → read (put_run widths i w (bit_and v (2 ^ get_or widths i 0 - 1))) ≡ W.of (set (split 0 widths w) i (low (get_or widths i 0) v))
  set_code i w v l =
      put-code i w l (mask_lt v (get_or widths i 0))
      ∙ ap (λ (n : ℕ). W.of (set (split 0 widths w) i n)) (and_mask v (get_or widths i 0))
