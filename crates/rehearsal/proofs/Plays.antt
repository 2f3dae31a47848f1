-- An accepted `chirp_new` ties a host to a history, and every call keeps the tie: so each rehearsal plays a history, and what is proved of that one holds of
-- the host's bytes and notes.
use mathlib.Core.Path.{◌≡◌, refl, sym, ap, subst, ◌∙◌}
use mathlib.Core.Bool.{Bool, true, false, false≢true, true≢false}
use mathlib.Core.List.{List, [], ◌∷◌, ◌++◌}
use Prim.Native.Nat.{ℕ, ◌≤◌}
use lib.Dec.{eqb}
use lib.ListN.{length, replicate}
use borrow.Author.Tests.{eqb-true}
use Rattle.table.specs.Table.{page_count, page_at}
use Rattle.session.specs.Session.{new_session}
use Rattle.session.specs.Outcome.{Outcome}
use Rattle.session.specs.declared.Session.{Session}
use Rattle.session.proofs.Laws.{answered-either}
use Rattle.memory.specs.Memory.{new_code, new_out}
use Rattle.calls.specs.Calls.{Effect}
use Rattle.calls.specs.Promises.{refusal}
use Rattle.calls.specs.declared.Call.TheVariants.{New}
use Rattle.bundle.specs.Bundle.{Holding, Sent, Order, Once}
use Rattle.history.specs.History as history
use Rattle.history.specs.Earning as earning
use Rattle.history.specs.Promises.{content}
use Rattle.history.proofs.Formed.{new-begins}
use Rattle.history.proofs.Memory.{remembers}
use Rattle.history.proofs.Safety.{safe, entries_fit}
use Rattle.wire.specs.Bytes.{words_of, Words}
use Rattle.wire.specs.Sessions.{session_words}
use Rattle.host.specs.Host.{Numbers, lent, in_layout, leaving, played}
use Rattle.host.proofs.LayoutLaws.{host-left, host-none}
use Rattle.chirpsteeple.specs.Functions.{new_left}
use Rattle.rehearsal.specs.Rehearsal.{start_token, accepted, Host, new_host, Rehearsal, at_end}
use Rattle.rehearsal.specs.Driver.{granted}
use Rattle.rehearsal.specs.Promises.{unread, new_played, history_of, Engines, Same, Plays, SafeOnBytes}
use Rattle.rehearsal.proofs.Words.{zero-words}
use Rattle.rehearsal.proofs.Functions.{in_c}
use Rattle.rehearsal.proofs.Tied.{Tied, reads, words, unless-made, played-engines}
use Rattle.rehearsal.proofs.After.{answers, run-tied}

-- ---- an accepted New

-- its table is zeros
new-words : (s : Session) (t : List ℕ) (created : ℕ) → history.accepted (history.new_effect s t created) ≡ true →
    Words (history.new_effect s t created).table
unfolding new_out
new-words s t created =
    answered-either (λ (o : Outcome). eqb o.answer.code 0 ≡ true → Words o.table) (new_code (length t) created) s t (new_session (page_count t) created)
    (replicate (length t) 0)
    (λ e a. zero-words (length t))
    (λ e a. absurd (true≢false (sym a ∙ e)))

module _ (s t : List ℕ) (streams : ℕ) (a : accepted (new_left s t streams) ≡ true) where
  abbrev effect : Effect
  effect = history.new_effect unread (words_of t) streams

  -- else it is 40
  new_is : new_left s t streams ≡ leaving effect (lent s t)
  unfolding played words_of
  new_is = go (in_layout (New streams) (lent s t)) refl
    where
      go : (b : Bool) → in_layout (New streams) (lent s t) ≡ b → new_left s t streams ≡ leaving effect (lent s t)
      go true q = host-left (New streams) (lent s t) q refl
      go false q = absurd (false≢true (sym (ap accepted (host-none (New streams) (lent s t) q)) ∙ a))

  new-accepted : history.accepted effect ≡ true
  new-accepted = sym (ap accepted new_is) ∙ a

  no-refusal : refusal effect.returned.code ≡ true → ⊥
  no-refusal r = false≢true (sym (ap refusal (eqb-true effect.returned.code 0 new-accepted)) ∙ r)

  new-engines : Engines effect (new_left s t streams)
  new-engines =
      subst (Engines effect) (sym new_is)
      (record {
        answer = refl;
        session = unless-made effect.returned s (session_words effect.returned.session) (λ r. absurd (no-refusal r));
        table = unless-made effect.returned t effect.table (λ r. absurd (no-refusal r));
        list = unless-made effect.returned [] [] (λ r. refl);
        buffer = unless-made effect.returned [] [] (λ r. refl);
      })

  new-tied : Tied (new_host s t streams) (history.new_world unread (words_of t) streams)
  new-tied =
      let n = new-engines in
      let begins = new-begins unread (words_of t) streams new-accepted in
      record {
        session = n.session;
        table = n.table;
        log = refl;
        memory = refl;
        copy = refl;
        formed = begins.0;
        streams = begins.1;
        small = new-words unread (words_of t) streams new-accepted;
      }

-- ---- rehearsals

pub there : (r : Rehearsal) → history.accepted (new_played r) ≡ true
there r = new-accepted r.session r.table r.streams r.new

-- the history that a rehearsal plays
abbrev pub playing : Rehearsal → history.History
playing r = history_of r (there r)

pub end-tied : (r : Rehearsal) → Tied (at_end r) (history.at_end (playing r))
end-tied r = run-tied r.calls _ _ (new-tied r.session r.table r.streams r.new) r.operands

tied-same : (h : Host) (w : history.World) → Tied h w → Same h w
tied-same h w k =
    record { session = k.session; table = k.table; log = k.log; memory = k.memory; copy = k.copy; reads = reads h w k; words = words h w k }

pub plays : Plays
plays =
    record {
      new = there;
      first = λ r. new-engines r.session r.table r.streams r.new;
      call = λ r f o. answers (at_end r) (history.at_end (playing r)) (end-tied r) f o;
      same = λ r. tied-same (at_end r) (history.at_end (playing r)) (end-tied r);
    }

-- ---- the token

pub granted-same : (h : Host) (w : history.World) → Tied h w → granted h ≡ earning.granted w
granted-same h w k =
    ap (λ (n : Numbers). eqb n.code 0) (played-engines h w k start_token (in_c start_token tt) refl).answer

module _ (r : Rehearsal) where
  abbrev there-granted : granted (at_end r) ≡ true → earning.granted (history.at_end (playing r)) ≡ true
  there-granted g = sym (granted-same (at_end r) (history.at_end (playing r)) (end-tied r)) ∙ g

  order-there : (l : List Sent) → Order (at_end r).log l → Order (history.at_end (playing r)).log l
  order-there l o = subst (λ (log : List Sent). Order log l) (end-tied r).log o

  content-there : (i : ℕ) → content (page_at (history.at_end (playing r)).table i) ≡ content (page_at (words_of (at_end r).table) i)
  content-there i = ap (λ (t : List ℕ). content (page_at t i)) (sym (words (at_end r) (history.at_end (playing r)) (end-tied r)))

pub safe-on-bytes : SafeOnBytes
safe-on-bytes =
    record {
      copy = λ r g l o i.
          safe.copy (playing r) (there-granted r g) l (order-there r l o) i ∙ sym (ap (λ (m : ℕ → Holding). m i) (end-tied r).copy);
      table = λ r g l o i. safe.table (playing r) (there-granted r g) l (order-there r l o) i ∙ content-there r i;
      beyond = λ r g l o i b.
          safe.beyond (playing r) (there-granted r g) l (order-there r l o) i
          (subst (λ (t : List ℕ). page_count t ≤ i) (words (at_end r) (history.at_end (playing r)) (end-tied r)) b);
      order = λ r. subst (λ (log : List Sent). Order log log) (sym (end-tied r).log) (safe.order (playing r));
      marks = λ r i. sym (content-there r i) ∙ remembers.marks (playing r) i ∙ sym (ap (λ (m : ℕ → Holding). m i) (end-tied r).memory);
      turn = λ r before after x o. entries_fit.turn (playing r) before after x (order-there r (before ++ (x ∷ after)) o);
      once = λ r. subst Once (sym (end-tied r).log) (entries_fit.once (playing r));
    }
