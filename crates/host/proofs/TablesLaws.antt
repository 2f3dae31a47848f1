-- The calls that write no byte of the table: what each leaves is what the code puts there, since the engine's table is the one that came, and its bytes are
-- those.
use mathlib.Core.Path.{◌≡◌, refl, sym, ◌∙◌}
use mathlib.Core.Bool.{Bool, true, false, cond, false≢true}
use mathlib.Core.List.{List, []}
use Prim.Native.Nat.{ℕ}
use lib.Dec.{eqb}
use lib.ListN.{length}
use borrow.Author.Tests.{eqb-true}
use Rattle.refusals.specs.Refusals.{first_of}
use Rattle.session.specs.Session.{phases_of}
use Rattle.session.specs.Formed.{busy, phase_tests, behind}
use Rattle.session.specs.Outcome.{verdict_for}
use Rattle.session.specs.declared.changes.Change.{Change}
use Rattle.session.specs.declared.changes.Change.TheVariants.{Nothing}
use Rattle.session.proofs.Laws.{gate-formed}
use Rattle.migration.specs.Migration.{alone_when, alone_asks, alone_change, alone_verdict}
use Rattle.migration.specs.Token.{Token, Granted, Refused, InTheWay, token_says, token_change}
use Rattle.migration.specs.declared.Alone.{Alone}
use Rattle.migration.proofs.Laws.{alone-told, alone-answer, alone-table}
use Rattle.calls.specs.Promises.{refusal}
use Rattle.calls.specs.declared.Call.TheVariants.{OnSession, StartToken}
use Rattle.wire.specs.Bytes.{words_of, Bytes}
use Rattle.wire.specs.Sessions.{session_of, written_by}
use Rattle.host.specs.Host.{lent, played, host_of}
use Rattle.host.specs.Inside.{TokenTold}
use Rattle.host.proofs.LayoutLaws.{Sound, table_kept, table-formed, change-kept, host-played}

-- ---- new epoch, reset and abort

-- bytes that are the same either way
pub either-kept : (b : Bool) {x y : List ℕ} → y ≡ x → x ≡ cond b x y
either-kept true e = refl
either-kept false e = sym e

-- a verdict that refuses changes nothing
refuses-none : (code : ℕ) (c : Change) → refusal code ≡ true → (verdict_for code c).change ≡ Nothing
refuses-none code c e = go (eqb code 0) refl
  where
    go : (b : Bool) → eqb code 0 ≡ b → cond b c Nothing ≡ Nothing
    go true q = absurd (false≢true (rw (eqb-true code 0 q) at e))
    go false q = refl

alone-none : (k : Alone) (gate epoch : ℕ) (busy : Bool) →
    let v = alone_verdict k gate epoch busy in
    refusal v.code ≡ true → v.change ≡ Nothing
unfolding alone_verdict
alone-none k gate epoch busy = refuses-none (behind gate (alone_asks k epoch busy)) (alone_change k epoch)

pub alone-left : (k : Alone) (s t : List ℕ) (gate : ℕ) → Bytes s → Bytes t → Sound s (length t) →
    let session = session_of (words_of s) in
    gate ≡ first_of (phase_tests session.phase (phases_of (alone_when k)) []) →
    let v = alone_verdict k gate session.epoch (busy session) in
    (v.code ≡ (host_of (OnSession k) (lent s t)).answer.code)
    × ((written_by v.change s ≡ (host_of (OnSession k) (lent s t)).session) × (t ≡ (host_of (OnSession k) (lent s t)).table))
unfolding played
alone-left k s t gate x y h e =
    let session = session_of (words_of s) in
    let formed = table-formed s t h in
    let told = alone-told k session (length (words_of t)) gate (e ∙ sym (gate-formed session (length (words_of t)) (phases_of (alone_when k)) [] formed))
    ∙ alone-answer k session (length (words_of t)) (words_of t) refl in
    let v = alone_verdict k gate session.epoch (busy session) in
    rw (host-played (OnSession k) (lent s t) refl h refl, alone-table k, ← told) (
      refl,
      (
        change-kept s (length t) v.code v.change x h (alone-none k gate session.epoch (busy session)),
        either-kept (refusal v.code) (table_kept t y h.table),
      ),
    )

-- ---- the start token

pub token-left : (s t : List ℕ) (token : Token) → Bytes s → Bytes t → Sound s (length t) → TokenTold s t token →
    let code = (token_says token).code in
    (record { code = code; page = (token_says token).page; next = 0; first = 0; last = 0; info = 0; errors = 0; buffers = 0 } ≡ (host_of StartToken (lent s t)).answer)
    × ((written_by (token_change token) s ≡ (host_of StartToken (lent s t)).session) × (t ≡ (host_of StartToken (lent s t)).table))
unfolding played
token-left s t token x y h told =
    rw (host-played StartToken (lent s t) refl h refl, ← told) (
      refl,
      (
        change-kept s (length t) (token_says token).code (token_change token) x h (none token),
        either-kept (refusal (token_says token).code) (table_kept t y h.table),
      ),
    )
  where
    none : (token : Token) → refusal (token_says token).code ≡ true → token_change token ≡ Nothing
    none Granted e = absurd (false≢true e)
    none (Refused code) e = refl
    none (InTheWay code page) e = refl
