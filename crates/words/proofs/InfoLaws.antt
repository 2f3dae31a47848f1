-- The laws of the info word: those of every `Word`, at its five runs.
use mathlib.Core.Path.{◌≡◌, refl}
use mathlib.Core.List.{List, [], ◌∷◌}
use Prim.Native.Nat.{ℕ, ◌^◌, ◌<◌}
use native.Mathlib.Omega.{arith}
use lib.ListN.{get_or}
use Rattle.words.specs.Info.{info_of, info_word, lowered_info, InfoFits}
use Rattle.words.specs.declared.infos.Info.{Info}
use Rattle.words.proofs.Runs.{join}
use Rattle.words.proofs.Words.{Word, read-write, read-write-low, write_read, read_same, write-lt}

abbrev pub widths : List ℕ
widths = 3 ∷ 9 ∷ 40 ∷ 3 ∷ 9 ∷ []

abbrev pub runs : Info → List ℕ
runs x = x.format ∷ x.first ∷ x.hpa ∷ x.zero52 ∷ x.last ∷ []

pub info-joined : (x : Info) → info_word x ≡ join 0 widths (runs (lowered_info x))
unfolding info_word
info-joined x = omega arith

pub info-fits : (w : ℕ) → InfoFits (info_of w)
unfolding info_of
info-fits w = search arith

abbrev pub info : Word info_of info_word lowered_info InfoFits
unfolding info_of
info =
    record {
      widths = widths;
      fills = refl;
      runs = runs;
      of = λ l. record { format = get_or l 0 0; first = get_or l 1 0; hpa = get_or l 2 0; zero52 = get_or l 3 0; last = get_or l 4 0 };
      reads = λ w. refl;
      writes = info-joined;
      low-runs = λ x. refl;
      of-runs = λ x. refl;
      runs_of = λ w. refl;
      fit = λ x f. (f.format, (f.first, (f.hpa, (f.zero52, (f.last, tt)))));
      fits = info-fits;
    }

pub info-word : (x : Info) → InfoFits x → info_of (info_word x) ≡ x
info-word = read-write info

pub info-low : (x : Info) → info_of (info_word x) ≡ lowered_info x
info-low = read-write-low info

pub word-info : (w : ℕ) → w < 2 ^ 64 → info_word (info_of w) ≡ w
word-info = write_read info

pub info-same : (v w : ℕ) → v < 2 ^ 64 → w < 2 ^ 64 → info_of v ≡ info_of w → v ≡ w
info-same = read_same info

pub info-lt : (x : Info) → info_word x < 2 ^ 64
info-lt = write-lt info
