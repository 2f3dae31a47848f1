-- A host and a history that are tied: the bytes are those of the session and the table, which are well-formed and words, and the notes are the same. Then the
-- bytes are in their layouts and mean that session and that table, so each function is the engine's call there, or the C side's own refusal; either way both
-- are tied afterwards.
use mathlib.Core.Path.{◌≡◌, refl, sym, ap, subst, ◌∙◌}
use mathlib.Core.Bool.{Bool, true, false, cond, not, ◌||◌, or-true}
use mathlib.Core.List.{List, [], ◌∷◌}
use Prim.Native.Nat.{ℕ, ◌*◌, ◌/◌, ◌%◌}
use native.Mathlib.Omega.{arith}
use lib.Dec.{eqb, leb}
use lib.ListN.{length}
use borrow.Author.Tests.{eq-eqb, ne_eqb, eqb-true}
use Rattle.words.specs.Codes as codes
use Rattle.refusals.specs.Refusals.{◌gives◌}
use Rattle.refusals.proofs.Laws.{either, and_left, first-all}
use Rattle.table.specs.Table.{legal}
use Rattle.session.specs.Session.{stream_places}
use Rattle.session.specs.Formed.{formed, most_entries, within, fewest_created, most_created}
use Rattle.session.specs.Outcome.{answered}
use Rattle.session.specs.declared.Session.{Session}
use Rattle.session.proofs.FormedLaws.{every-hold}
use Rattle.memory.specs.Memory.{new_code, new_out}
use Rattle.calls.specs.Calls.{Effect, effect_of}
use Rattle.calls.specs.Promises.{refusal, is_new}
use Rattle.calls.specs.declared.Call.{Call}
use Rattle.calls.specs.declared.Call.TheVariants.{New, OnPage, OnAll, OnSession, StartToken, Dscan, Dcheck, Export, Restore}
use Rattle.calls.specs.declared.Returned.{Returned}
use Rattle.calls.proofs.Promises.{refusal-keeps}
use Rattle.history.specs.History as history
use Rattle.wire.specs.Bytes.{words_of, bytes_of, Bytes, Words}
use Rattle.wire.specs.Sessions.{fits, session_of, session_words}
use Rattle.wire.specs.Promises.{Numbers}
use Rattle.wire.proofs.BytesLaws.{bytes-length, words_back, bytes_back}
use Rattle.wire.proofs.SessionLaws.{session-length}
use Rattle.wire.proofs.Promises.{reads-back}
use Rattle.host.specs.Host.{Lent, Left, session_bytes, is_table, in_layout, is_list, refused, unless, leaving, played}
use Rattle.host.specs.Inside.{before42}
use Rattle.host.proofs.LayoutLaws.{engine_left, host-left, host-first, engine-read}
use Rattle.rehearsal.specs.Rehearsal.{Function, call_of, Host, left_in}
use Rattle.rehearsal.specs.Promises.{is_played, given_by, Engines, own42, unread}
use Rattle.rehearsal.proofs.Gate.{legal-of, formed-other}
use Rattle.rehearsal.proofs.Functions.{list_of, buffer_of, lent_with, is-host, InC}

pub record Tied (h : Host) (w : history.World) : Type 0 where
  pub session : h.session ≡ bytes_of (session_words w.session)
  pub table : h.table ≡ bytes_of w.table
  pub log : h.log ≡ w.log
  pub memory : h.memory ≡ w.memory
  pub copy : h.copy ≡ w.copy
  pub formed : formed w.session (length w.table) ≡ true
  pub streams : length w.session.streams ≡ stream_places
  pub small : Words w.table

module _ (h : Host) (w : history.World) (k : Tied h w) where
  numbers : Numbers w.session
  numbers = reads-back.formed w.session (length w.table) k.formed

  -- what the bytes mean
  pub reads : session_of (words_of h.session) ≡ w.session
  reads = ap (λ (b : List ℕ). session_of (words_of b)) k.session ∙ reads-back.session w.session numbers k.streams

  pub words : words_of h.table ≡ w.table
  words = ap words_of k.table ∙ words_back w.table k.small

  -- they are in their layouts
  long : length h.session ≡ session_bytes
  long = ap length k.session ∙ bytes-length (session_words w.session) ∙ ap (λ (n : ℕ). 8 * n) (session-length w.session)

  in_table : is_table (length h.table) ≡ true
  in_table =
      let n = length w.table in
      let size : length h.table ≡ 8 * n = ap length k.table ∙ bytes-length w.table in
      let whole : 8 * n % 8 ≡ 0 = omega arith in
      let half : 8 * n / 8 ≡ n = omega arith in
      rw (size, whole, half) (legal-of w.session n k.formed)

  in-fits : fits (words_of h.session) ≡ true
  in-fits = ap (λ (b : List ℕ). fits (words_of b)) k.session ∙ reads-back.layout w.session numbers

  pub layout : (c : Call) (x : Lent) → x.session ≡ h.session → x.table ≡ h.table → in_layout c x ≡ true
  layout c x e f = rw (e, f, eq-eqb (length h.session) session_bytes long, in_table, in-fits) (or-true (is_new c))

-- ---- the engine's call

-- New is done or refused
new-refuses : (len created : ℕ) → eqb (new_code len created) 0 ≡ false → refusal (new_code len created) ≡ true
unfolding new_code
new-refuses len created e =
    rw e at
    (first-all (λ (n : ℕ). eqb n 0 || refusal n)
    (not (legal len) gives codes.malformed ∷ not (within fewest_created most_created created) gives codes.operand_invalid ∷ []) refl refl)

-- and reads no session: with another one it leaves the same
new-unread : (created : ℕ) (s s' : Session) (t l b : List ℕ) (x : Lent) →
    leaving (effect_of (New created) s t l b) x ≡ leaving (effect_of (New created) s' t l b) x
unfolding new_out answered
new-unread created s s' t l b x = go (eqb (new_code (length t) created) 0) refl
  where
    go : (d : Bool) → eqb (new_code (length t) created) 0 ≡ d → leaving (effect_of (New created) s t l b) x ≡ leaving (effect_of (New created) s' t l b) x
    go true q = rw q
    go false q = rw (q, new-refuses (length t) created q)

-- bytes after a call are those of its words, if those that came are where it refused
pub unless-made : (r : Returned) (came made : List ℕ) → (refusal r.code ≡ true → came ≡ bytes_of made) → unless r came made ≡ bytes_of made
unless-made r came made e = either (λ (z : List ℕ). z ≡ bytes_of made) (refusal r.code) e (λ q. refl)

list_back : (b : List ℕ) → Bytes b → is_list (length b) ≡ true → bytes_of (words_of b) ≡ b
list_back b y e = bytes_back b y (eqb-true _ _ (and_left (eqb (length b % 8) 0) (leb (length b) (8 * most_entries)) e))

-- where it is not 40
first-own : (code : ℕ) → (code ≡ codes.malformed → ⊥) → before42 code ≡ cond (eqb code codes.op_state_incorrect) codes.op_state_incorrect codes.operand_invalid
first-own code n = rw (ne_eqb code codes.malformed n)

module _ (h : Host) (w : history.World) (k : Tied h w) (f : Function) where
  abbrev pub lends : Lent
  lends = lent_with f h.session h.table

  abbrev pub effect : Effect
  effect = history.effect_in w (given_by f)

  -- what the engine leaves of it
  abbrev leaves : Call → Left
  leaves c = leaving (effect_of c w.session w.table (words_of (list_of f)) (words_of (buffer_of f))) lends

  -- a call that reads its session
  engine-reads : (c : Call) → is_new c ≡ false → engine_left c lends ≡ leaves c
  unfolding played
  engine-reads c n = engine-read c lends n ∙ rw (reads h w k, words h w k)

  engine-is : (c : Call) → engine_left c lends ≡ leaves c
  unfolding played
  engine-is (New created) =
      rw (words h w k) (new-unread created unread w.session w.table (words_of (list_of f)) (words_of (buffer_of f)) lends)
  engine-is (OnPage page m) = engine-reads (OnPage page m) refl
  engine-is (OnAll a) = engine-reads (OnAll a) refl
  engine-is (OnSession a) = engine-reads (OnSession a) refl
  engine-is StartToken = engine-reads StartToken refl
  engine-is (Dscan first count budget) = engine-reads (Dscan first count budget) refl
  engine-is (Dcheck budget) = engine-reads (Dcheck budget) refl
  engine-is (Export stream resume info budget) = engine-reads (Export stream resume info budget) refl
  engine-is (Restore info budget) = engine-reads (Restore info budget) refl

  -- in words, all bytes are the engine's: a refusal keeps what came, of which the bytes are those
  pub played-engines : InC f → is_played f ≡ true → Engines effect (left_in h f)
  played-engines c p =
      let kept = refusal-keeps.all (call_of f) w.session w.table (words_of (list_of f)) (words_of (buffer_of f)) in
      let is : left_in h f ≡ leaving effect lends
      = (is-host f h.session h.table).left ∙ host-left (call_of f) lends (layout h w k (call_of f) lends refl refl) p ∙ engine-is (call_of f) in
      let parts = every-hold (is_list (length (list_of f)) ∷ is_list (length (buffer_of f)) ∷ leb lends.resume 1 ∷ []) p in
      subst (Engines effect) (sym is)
      (record {
        answer = refl;
        session = unless-made effect.returned _ (session_words effect.returned.session)
            (λ q. k.session ∙ ap (λ (s : Session). bytes_of (session_words s)) (sym (kept q).session));
        table = unless-made effect.returned _ effect.table (λ q. k.table ∙ ap bytes_of (sym (kept q).table));
        list = unless-made effect.returned _ effect.list (λ q. sym (list_back (list_of f) c.list parts.0) ∙ ap bytes_of (sym (kept q).list));
        buffer =
            unless-made effect.returned _ effect.buffer (λ q. sym (list_back (buffer_of f) c.buffer parts.1.0) ∙ ap bytes_of (sym (kept q).buffer));
      })

  -- else it is refused, with 42 or before it with 41
  pub refused-own : is_played f ≡ false → left_in h f ≡ refused (own42 effect) lends
  refused-own p =
      let code = effect.returned.code in
      (is-host f h.session h.table).left
      ∙ host-first (call_of f) lends (layout h w k (call_of f) lends refl refl) p
      ∙ ap (λ (l : Left). refused (before42 l.answer.code) lends) (engine-is (call_of f))
      ∙ ap (λ (n : ℕ). refused n lends) (first-own code (formed-other w.session w.table _ _ k.formed (call_of f)))
