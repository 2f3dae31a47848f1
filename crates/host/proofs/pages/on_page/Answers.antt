-- The turn on the words that the bytes are, put where it is made.
use Rattle.std.proofs.Common.{rules, ℕ, get_or, Fits, w8}
use mathlib.Core.Path.{◌≡◌, refl}
use mathlib.Core.List.{List}
use lib.ListN.{length}
use Rattle.refusals.proofs.Laws.{number-pos}
use Rattle.page.specs.declared.Clock.{Clock}
use Rattle.page.specs.declared.PageWords.{PageWords}
use Rattle.page.specs.declared.moves.Move.{Move}
use Rattle.table.specs.Table.{words_at}
use Rattle.session.specs.declared.Phase.{Phase}
use Rattle.memory.specs.Memory.{page_turn}
use Rattle.calls.specs.declared.Call.TheVariants.{OnPage}
use Rattle.wire.specs.Bytes.{words_of, Bytes}
use Rattle.wire.specs.Sessions.{session_of}
use Rattle.host.specs.Host.{lent, host_of}
use Rattle.host.proofs.LayoutLaws.{Sound, sound-means, lent-sound, host-unsound, host-unlent}
use Rattle.host.proofs.PageLaws.{turn_left, one-page}
use Rattle.host.proofs.pages.on_page.Goals as goal

-- what the contract says, by the turn that the code has
turned : (m : Move) (s t : List ℕ) (page : ℕ) (phase : Phase) (pages : ℕ) (clock : Clock) (w : PageWords) → Bytes s → Bytes t → Sound s (length t) →
    let session = session_of (words_of s) in
    phase ≡ session.phase → pages ≡ session.fixed.pages → clock ≡ session.clock → w ≡ words_at (words_of t) page →
    host_of (OnPage page m) (lent s t) ≡ turn_left s t page (page_turn m phase pages clock page w)
turned m s t page phase pages clock w x y h p n k l = rw (p, n, k, l) (one-page m s t page x y h)

pub returns-in_err-session : goal.returns-in_err-session
returns-in_err-session c =
    let none = rw c.in_err-session.ensures.ok_part at c.as_array.ensures.cases in
    let e = host-unlent (OnPage c.args.page c.args.m) (lent c.args.session.now c.args.table.now) none in
    record { value = rw e (search rules); session_value = rw e; table_after = rw e }

pub returns-in_err-allow_lent : goal.returns-in_err-allow_lent
returns-in_err-allow_lent c =
    let chunk = rw c.in_ok-session.ensures.ok_part at c.as_array.ensures.cases in
    let e = host-unsound (OnPage c.args.page c.args.m) (lent c.args.session.now c.args.table.now) refl _ (rw chunk.same at c.in_err-allow_lent.ensures) in
    record { value = rw e (search rules); session_value = rw e; table_after = rw e }

pub returns-in_err-after : goal.returns-in_err-after
returns-in_err-after c =
    let a = c.args in
    let same = (rw c.in_ok-session.ensures.ok_part at c.as_array.ensures.cases).same in
    let x : Bytes a.session.now = λ i. (c.type_inv.session i).fits in
    let y : (i : ℕ) → Fits w8 (get_or a.table.now i 0) = search rules in
    let left = turned a.m a.session.now a.table.now a.page _ _ _ _ x (λ i. (y i).fits) (sound-means _ _ (rw same at (lent-sound _ _ c.in_ok-allow_lent.ensures)))
    (rw same at c.phase_at-phase.ensures) (rw same at c.pages_at-pages.ensures) (rw same at c.clock_at-clock.ensures) c.load-before.ensures in
    let kept = rw (← c.in_err-after.ensures.code, number-pos c.in_err-after.field-0.0) at left in
    record { value = rw kept (search rules); session_value = rw kept; table_after = rw kept }

pub returns : goal.returns
returns c =
    let a = c.args in
    let same = (rw c.in_ok-session.ensures.ok_part at c.as_array.ensures.cases).same in
    let x : Bytes a.session.now = λ i. (c.type_inv.session i).fits in
    let y : (i : ℕ) → Fits w8 (get_or a.table.now i 0) = search rules in
    let left = turned a.m a.session.now a.table.now a.page _ _ _ _ x (λ i. (y i).fits) (sound-means _ _ (rw same at (lent-sound _ _ c.in_ok-allow_lent.ensures)))
    (rw same at c.phase_at-phase.ensures) (rw same at c.pages_at-pages.ensures) (rw same at c.clock_at-clock.ensures) c.load-before.ensures in
    let done = rw (← c.in_ok-after.ensures.code, ← c.in_ok-after.ensures.words) at left in
    record { value = rw done; session_value = rw done; table_after = rw done c.store.ensures }
