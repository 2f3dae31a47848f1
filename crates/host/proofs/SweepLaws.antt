-- The calls on every page: with code 0 the bytes are those of the session and the table that the engine makes; with any other, they are as they came.
use mathlib.Core.Path.{◌≡◌, refl}
use mathlib.Core.Bool.{Bool, true, false, cond, not, true≢false, ◌&&◌}
use mathlib.Core.List.{List, []}
use Prim.Native.Nat.{ℕ, ◌*◌, ◌/◌, ◌%◌}
use native.Mathlib.Omega.{arith}
use lib.Dec.{eqb}
use lib.ListN.{length, replicate}
use borrow.Author.Tests.{eqb-true}
use Rattle.words.specs.Codes as codes
use Rattle.refusals.proofs.Laws.{and_right}
use Rattle.page.specs.Page.{on_words}
use Rattle.page.specs.Sweeps.{swept_by}
use Rattle.page.specs.declared.sweeps.Sweep.{Sweep}
use Rattle.table.specs.Table.{legal, page_count, sweep_of}
use Rattle.session.specs.Session.{new_session}
use Rattle.session.specs.Formed.{within, fewest_created, most_created}
use Rattle.session.specs.Outcome.{Verdict, Outcome}
use Rattle.session.proofs.Laws.{answered-either}
use Rattle.memory.specs.Memory.{new_code, new_out}
use Rattle.calls.specs.Calls.{effect}
use Rattle.calls.specs.Promises.{refusal}
use Rattle.calls.specs.declared.Call.TheVariants.{New, OnAll}
use Rattle.wire.specs.Bytes.{words_of, bytes_of, Bytes}
use Rattle.wire.specs.Sessions.{session_words, written_by}
use Rattle.wire.proofs.BytesLaws.{words-length, page-count, zero-bytes}
use Rattle.wire.proofs.ChangeLaws.{change-written}
use Rattle.host.specs.Host.{Left, lent, session_bytes, is_table, leaving, played, host_of}
use Rattle.host.specs.Inside.{SweepTold}
use Rattle.host.proofs.LayoutLaws.{Sound, table-whole, table_kept, session-kept, host-left, host-played}
use Rattle.host.proofs.TablesLaws.{either-kept}

-- what is left is the code and, where it is 0, the session and the table that were made
abbrev pub Leaves : List ℕ → List ℕ → ℕ → List ℕ → List ℕ → Left → Type 0
Leaves s t code session made left =
    (code ≡ left.answer.code) × ((cond (eqb code 0) session s ≡ left.session) × (cond (eqb code 0) made t ≡ left.table))

pub sweep-left : (k : Sweep) (s t : List ℕ) (v : Verdict) → Bytes s → Bytes t → Sound s (length t) → SweepTold k s t v →
    Leaves s t v.code (written_by v.change s) (bytes_of (sweep_of (on_words (swept_by k)) (words_of t))) (host_of (OnAll k) (lent s t))
unfolding played
sweep-left k s t v x y h told =
    rw (host-played (OnAll k) (lent s t) refl h refl, ← told)
    (answered-either (λ (o : Outcome). Leaves s t v.code (written_by v.change s) (bytes_of (sweep_of (on_words (swept_by k)) (words_of t)))
    (leaving (effect o (words_of []) (words_of [])) (lent s t))) v.code _ _ _ _
    (λ z. rw (eqb-true v.code 0 z) (refl, (change-written v.change s x h.long h.layout, refl)))
    (λ n. rw n (
      refl,
      (either-kept (refusal v.code) (session-kept s (length t) x h), either-kept (refusal v.code) (table_kept t y h.table)),
    )))

-- ---- New

-- its session of zeros is none that came, so that its codes must be refusals
new-refuses : (len created : ℕ) → eqb (new_code len created) 0 ≡ false → refusal (new_code len created) ≡ true
unfolding new_code
new-refuses len created = go (not (legal len)) (not (within fewest_created most_created created))
  where
    go : (a b : Bool) → eqb (cond a codes.malformed (cond b codes.operand_invalid 0)) 0 ≡ false →
        refusal (cond a codes.malformed (cond b codes.operand_invalid 0)) ≡ true
    go true b e = refl
    go false true e = refl
    go false false e = absurd (true≢false e)

-- zeros in bytes
cleared : (t : List ℕ) → length t % 8 ≡ 0 → bytes_of (replicate (length (words_of t)) 0) ≡ replicate (length t) 0
cleared t e =
    let whole : 8 * (length t / 8) ≡ length t = omega arith in
    rw (words-length t, zero-bytes (length t / 8), whole)

pub new-left : (created : ℕ) (s t : List ℕ) → (eqb (length s) session_bytes && is_table (length t)) ≡ true →
    let pages = length t / 16 in
    Leaves s t (new_code (length t / 8) created) (bytes_of (session_words (new_session pages created))) (replicate (length t) 0) (host_of (New created) (lent s t))
unfolding played new_out
new-left created s t e =
    let whole = table-whole (length t) (and_right (eqb (length s) session_bytes) (is_table (length t)) e) in
    let code = new_code (length (words_of t)) created in
    rw (host-left (New created) (lent s t) (rw e) refl, ← cleared t whole, ← words-length t, ← page-count t)
    (answered-either (λ (o : Outcome). Leaves s t code (bytes_of (session_words (new_session (page_count (words_of t)) created)))
    (bytes_of (replicate (length (words_of t)) 0)) (leaving (effect o (words_of []) (words_of [])) (lent s t))) code _ _ _ _
    (λ z. rw (eqb-true code 0 z) (refl, (refl, refl)))
    (λ n. rw (n, new-refuses (length (words_of t)) created n) (refl, (refl, refl))))
