-- What is known past the tests of RESTORE: the list is one, and FIRST is not above LAST.
use mathlib.Core.Path.{◌≡◌, refl}
use mathlib.Core.List.{List, [], ◌∷◌}
use Prim.Native.Nat.{ℕ, ◌≤◌, ◌<◌}
use native.Mathlib.Omega.{arith}
use lib.ListN.{length}
use borrow.Author.Tests.{ltb-false}
use Rattle.words.specs.Info.{info_of}
use Rattle.words.specs.declared.infos.Info.{Info}
use Rattle.refusals.specs.Refusals.{first_of, number_of}
use Rattle.refusals.specs.declared.Refusal.{Refusal}
use Rattle.refusals.proofs.Laws.{number-pos}
use Rattle.session.specs.Formed.{last_entry, gated, behind}
use Rattle.session.specs.declared.Phase.TheVariants.{Idle}
use Rattle.session.specs.declared.Session.{Session}
use Rattle.session.proofs.Laws.{gate-first, gate-refused, gate-passed, gate-open}
use Rattle.lists.proofs.Laws.{Counts, list-passed}
use Rattle.restore.specs.Restore.{restore_asks, restore_code, begun_at, refused_restore, ran_restore, restore_run, restore_out}

-- the code, told that of the gate
pub restore-told : (s : Session) (len entries : ℕ) (x : Info) (gate : ℕ) → gate ≡ gated s len (Idle ∷ []) [] →
    behind gate (restore_asks entries x) ≡ restore_code s len entries x
unfolding restore_code
restore-told s len entries x gate e = rw (e, ← gate-first s len (Idle ∷ []) (restore_asks entries x))

-- what the gate refuses, the call refuses; what it lets through has the call's own tests
pub restore-stopped : (s : Session) (len entries : ℕ) (x : Info) (r : Refusal) → number_of r ≡ gated s len (Idle ∷ []) [] →
    restore_code s len entries x ≡ number_of r
unfolding restore_code
restore-stopped s len entries x r e = gate-refused s len (Idle ∷ []) (restore_asks entries x) r e

pub restore-passed : (s : Session) (len entries : ℕ) (x : Info) → 0 ≡ gated s len (Idle ∷ []) [] → restore_code s len entries x ≡ first_of (restore_asks entries x)
unfolding restore_code
restore-passed s len entries x e = gate-passed s len (Idle ∷ []) (restore_asks entries x) e

-- the two ways of a call, by its code
module _ (s : Session) (t l : List ℕ) (info budget : ℕ) where
  pub restore-refused : (r : Refusal) → restore_code s (length t) (length l) (info_of info) ≡ number_of r →
      restore_out s t l info budget ≡ refused_restore (number_of r) s t l
  unfolding restore_out
  restore-refused r e = rw (e, number-pos r)

  pub restore-ran : restore_code s (length t) (length l) (info_of info) ≡ 0 →
      restore_out s t l info budget ≡ ran_restore s (info_of info) (restore_run s t l (info_of info) budget)
  unfolding restore_out
  restore-ran e = rw e

pub record Ready (entries : ℕ) (x : Info) : Type 0 where
  pub within : x.last < entries
  pub short : x.last ≤ last_entry
  pub ordered : x.first ≤ x.last

pub restore-ready : (s : Session) (len entries : ℕ) (x : Info) → restore_code s len entries x ≡ 0 → Ready entries x
unfolding restore_code
restore-ready s len entries x e =
    let p = (gate-open s len (Idle ∷ []) (restore_asks entries x) refl e).passed in
    let list = list-passed entries x p.0 p.1.1.1.0 in
    record { within = list.within; short = list.short; ordered = ltb-false _ _ p.1.1.1.1.0 }

-- no entry is counted yet
pub begun-counts : (x : Info) → Counts (begun_at x)
begun-counts x = record { errors = omega arith; filled = omega arith }
