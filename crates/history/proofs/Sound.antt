-- The invariant of a world, and that every call keeps it: the log is in order, whatever the phase; and since the last start it says what the destination has of
-- each page.
use mathlib.Core.Path.{◌≡◌, sym, ◌∙◌}
use mathlib.Core.Bool.{true, false≢true}
use mathlib.Core.List.{List, [], ◌∷◌}
use Prim.Native.Nat.{ℕ, ◌<◌}
use lib.Dec.{eqb}
use lib.ListN.{length, replicate}
use Rattle.words.specs.Codes as codes
use Rattle.refusals.proofs.Laws.{either}
use Rattle.table.specs.Table.{page_count, page_at}
use Rattle.session.specs.Session.{new_session}
use Rattle.session.specs.Outcome.{Outcome}
use Rattle.session.specs.declared.Session.{Session}
use Rattle.session.proofs.Laws.{answered-either}
use Rattle.memory.specs.Memory.{new_code, new_out}
use Rattle.migration.proofs.Laws.{all_either}
use Rattle.calls.specs.Calls.{effect}
use Rattle.calls.specs.declared.Call.{Call}
use Rattle.calls.specs.declared.Call.TheVariants.{New, OnPage, OnAll, OnSession, StartToken, Dscan, Dcheck, Export, Restore}
use Rattle.bundle.specs.Bundle.{Holding}
use Rattle.history.specs.History.{Given, given, World, begins_log, left_by, after, run, new_world, History, at_end}
use Rattle.history.proofs.Pages.{Ok, moment_of}
use Rattle.history.proofs.Logs.{Orderly, orderly-none}
use Rattle.history.proofs.Stands.{Stands, anew-stands, new-stands, page-stands, sweep-stands, alone-stands, token-stands, dscan-stands, dcheck-stands, restore-stands}
use Rattle.history.proofs.Exports.{export-logged}

pub record Sound (w : World) : Type 0 where
  pub orderly : Orderly w.log
  pub fine : Stands w.session w.table w.log

-- ---- every call

module _ (w : World) (l b : List ℕ) (f : Sound w) where
  call-sound : (c : Call) → Sound (after w (given c l b))
  call-sound (New created) = record { orderly = f.orderly; fine = new-stands w.session w.table w.log f.fine created }
  call-sound (OnPage page m) = record { orderly = f.orderly; fine = page-stands w.session w.table w.log f.fine m page }
  call-sound (OnAll k) =
      all_either (λ (o : Outcome). Sound (left_by w (given (OnAll k) l b) (effect o l b))) k w.session w.table
      (λ o. record {
        orderly = either Orderly (begins_log k) (λ q. orderly-none) (λ q. f.orderly);
        fine = sweep-stands w.session w.table w.log f.fine k o;
      })
      (λ e. record { orderly = rw e f.orderly; fine = rw e f.fine })
  call-sound (OnSession k) = record { orderly = f.orderly; fine = alone-stands w.session w.table w.log f.fine k }
  call-sound StartToken = record { orderly = f.orderly; fine = token-stands w.session w.table w.log f.fine }
  call-sound (Dscan first count budget) = record { orderly = f.orderly; fine = dscan-stands w.session w.table w.log f.fine l first count budget }
  call-sound (Dcheck budget) = record { orderly = f.orderly; fine = dcheck-stands w.session w.table w.log f.fine l budget }
  call-sound (Export stream resume info budget) =
      let x = export-logged w l b stream resume info budget f.orderly f.fine in
      record { orderly = x.0; fine = x.1 }
  call-sound (Restore info budget) = record { orderly = f.orderly; fine = restore-stands w.session w.table w.log f.fine l info budget }

pub sound-after : (w : World) (g : Given) → Sound w → Sound (after w g)
sound-after w g f = call-sound w g.list g.buffer f g.call

-- ---- every history

run_sound : (w : World) (l : List Given) → Sound w → Sound (run w l)
run_sound w [] f = f
run_sound w (g ∷ l) f = run_sound (after w g) l (sound-after w g f)

new-sound : (s : Session) (t : List ℕ) (created : ℕ) → eqb (new_out s t created).answer.code codes.done ≡ true → Sound (new_world s t created)
unfolding new_out
new-sound s t created e =
    record {
      orderly = orderly-none;
      fine = answered-either (λ (o : Outcome). eqb o.answer.code codes.done ≡ true → Stands o.answer.session o.table [])
          (new_code (length t) created) s t (new_session (page_count t) created) (replicate (length t) 0)
          (λ q z. anew-stands (page_count t) created (length t) [])
          (λ q z. absurd (false≢true (sym q ∙ z)))
          e;
    }

pub sound-end : (h : History) → Sound (at_end h)
sound-end h = run_sound (new_world h.session h.words h.created) h.calls (new-sound h.session h.words h.created h.new)

-- what the destination has of a page goes with it
pub sound-ok : (w : World) → Sound w → (i : ℕ) → i < page_count w.table → (h : Holding) × Ok (moment_of w.session) (page_at w.table i) h
sound-ok w f i h = let row = f.fine.rows i h in (row.has, row.ok)
