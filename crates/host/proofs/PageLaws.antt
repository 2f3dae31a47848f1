-- A call on one page comes down to the turn on the page's two words: with code 0 its sixteen bytes are put; every other byte, read and written again, is as
-- it came.
use mathlib.Core.Path.{◌≡◌, refl}
use mathlib.Core.Bool.{Bool, true, false, cond}
use mathlib.Core.List.{List, []}
use Prim.Native.Nat.{ℕ}
use lib.Dec.{eqb}
use lib.ListN.{length}
use borrow.Author.Tests.{eqb-true}
use Rattle.page.specs.declared.moves.Move.{Move}
use Rattle.table.specs.Table.{words_at, put_at}
use Rattle.session.specs.Outcome.{Outcome, answered}
use Rattle.session.proofs.Laws.{answered-either}
use Rattle.memory.proofs.Laws.{page-turn}
use Rattle.memory.specs.Memory.{Turn, page_turn}
use Rattle.calls.specs.Calls.{effect}
use Rattle.calls.specs.declared.Call.TheVariants.{OnPage}
use Rattle.wire.specs.Bytes.{words_of, Bytes}
use Rattle.wire.specs.Sessions.{session_of}
use Rattle.wire.specs.Tables.{put_page}
use Rattle.wire.proofs.BytesLaws.{page-bytes}
use Rattle.host.specs.Host.{Left, lent, code_alone, leaving, played, host_of}
use Rattle.host.proofs.LayoutLaws.{Sound, table-whole, table_kept, table-formed, session-kept, host-played}

-- the turn on the words that the bytes are
abbrev pub turn_on : Move → List ℕ → List ℕ → ℕ → Turn
turn_on m s t page =
    let session = session_of (words_of s) in
    page_turn m session.phase session.fixed.pages session.clock page (words_at (words_of t) page)

-- what it leaves
abbrev pub turn_left : List ℕ → List ℕ → ℕ → Turn → Left
turn_left s t page turn =
    record {
      answer = code_alone turn.code;
      session = s;
      table = cond (eqb turn.code 0) (put_page t page turn.words) t;
      list = [];
      buffer = [];
    }

-- the same either way
same : (b : Bool) (l : List ℕ) → cond b l l ≡ l
same true l = refl
same false l = refl

no_words : words_of [] ≡ []
unfolding words_of
no_words = refl

pub one-page : (m : Move) (s t : List ℕ) (page : ℕ) → Bytes s → Bytes t → Sound s (length t) →
    host_of (OnPage page m) (lent s t) ≡ turn_left s t page (turn_on m s t page)
unfolding played
one-page m s t page x y h =
    rw (host-played (OnPage page m) (lent s t) refl h refl, page-turn m (session_of (words_of s)) (words_of t) page (table-formed s t h), no_words)
    (go (turn_on m s t page))
  where
    go : (turn : Turn) → leaving (effect (answered turn.code (session_of (words_of s)) (words_of t) (session_of (words_of s))
        (put_at (words_of t) page turn.words)) [] []) (lent s t) ≡ turn_left s t page turn
    go turn =
        let kept = session-kept s (length t) x h in
        answered-either (λ (o : Outcome). leaving (effect o [] []) (lent s t) ≡ turn_left s t page turn) turn.code _ _ _ _
        (λ z. rw (eqb-true turn.code 0 z, page-bytes t page turn.words y (table-whole (length t) h.table), kept))
        (λ n. simp (n, kept, table_kept t y h.table, same))
