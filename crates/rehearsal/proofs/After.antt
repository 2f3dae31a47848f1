-- What a host notes of a call is what the history notes: numbers, list and buffer are the engine's, and read back; the epoch is word 3 of the session handed
-- in. A call that the C side refuses by itself leaves bytes and notes as they were, and the history stays where it is.
use mathlib.Core.Path.{◌≡◌, refl, sym, ap, ◌∙◌}
use mathlib.Core.Bool.{Bool, true, false, cond, ◌&&◌, and-true, and-false, true≢false}
use mathlib.Core.List.{List, [], ◌∷◌, append-nil}
use Prim.Native.Nat.{ℕ, ◌-◌}
use native.Mathlib.Omega.{arith}
use lib.Dec.{eqb}
use lib.ListN.{length}
use borrow.Author.Tests.{eq-eqb}
use Rattle.words.specs.Codes as codes
use Rattle.words.specs.Info.{info_of}
use Rattle.refusals.proofs.Laws.{either}
use Rattle.session.specs.declared.Session.{Session}
use Rattle.calls.specs.Calls.{Effect}
use Rattle.bundle.specs.Bundle.{Sent}
use Rattle.history.specs.History as history
use Rattle.history.proofs.Formed.{formed-after, streams-after}
use Rattle.wire.specs.Bytes.{words_of}
use Rattle.wire.specs.Sessions.{session_of}
use Rattle.wire.proofs.BytesLaws.{words_back, words_small}
use Rattle.wire.proofs.Promises.{reads-back}
use Rattle.host.specs.Host.{Numbers, Left, refused, numbers_of}
use Rattle.rehearsal.specs.Small.{WordsIn}
use Rattle.rehearsal.specs.Rehearsal.{Function, new, write, add, accept, block, unblock, remove, track, start, pause, abort, new_epoch, reset, start_token}
use Rattle.rehearsal.specs.Rehearsal.{dscan, dcheck, export, restore, Operands, call_of, epoch_word, logged_by, Host, left_in, after, run, AllOperands}
use Rattle.rehearsal.specs.Promises.{is_played, given_by, played_by, own42, Answers}
use Rattle.rehearsal.proofs.Small.{words-out}
use Rattle.rehearsal.proofs.Gate.{formed-other}
use Rattle.rehearsal.proofs.Functions.{list_of, buffer_of, is-host, in_c}
use Rattle.rehearsal.proofs.Tied.{Tied, reads, effect, played-engines, refused-own}

-- ---- the log

module _ (h : Host) (w : history.World) (k : Tied h w) where
  pub epoch-read : epoch_word h.session ≡ w.session.epoch
  unfolding session_of
  epoch-read = ap (λ (s : Session). s.epoch) (reads h w k)

  module _ (left : Left) (e : Effect) (n : left.answer ≡ numbers_of e.returned) (l : words_of left.list ≡ e.list) (b : words_of left.buffer ≡ e.buffer)
    where
      no_start : w.log ≡ cond (history.accepted e && false) [] w.log
      no_start = rw (and-false (history.accepted e))

      log-same : (f : Function) → logged_by f h.session left h.log ≡ history.logged_by (call_of f) w e
      log-same (new streams) = k.log
      log-same (write page mark) = k.log
      log-same (add page) = k.log
      log-same (accept page) = k.log
      log-same (block page) = k.log
      log-same (unblock page) = k.log
      log-same (remove page) = k.log
      log-same track = k.log ∙ no_start
      log-same start = cc (n, k.log, and-true (history.accepted e))
      log-same pause = k.log ∙ no_start
      log-same abort = k.log
      log-same new_epoch = k.log
      log-same reset = k.log
      log-same start_token = k.log
      log-same (dscan first count list budget) = k.log
      log-same (dcheck list budget) = k.log
      log-same (export list buffer stream resume info budget) = cc (n, l, b, epoch-read, k.log)
      log-same (restore list info budget) = k.log

-- a refusal with a code that is neither 0 nor 1 logs nothing
refused-log : (code : ℕ) → eqb code codes.done ≡ false → eqb code codes.interrupted ≡ false → (left : Left) → left.answer.code ≡ code →
    (f : Function) (s : List ℕ) (log : List Sent) → logged_by f s left log ≡ log
refused-log code z o left e (new streams) s log = refl
refused-log code z o left e (write page mark) s log = refl
refused-log code z o left e (add page) s log = refl
refused-log code z o left e (accept page) s log = refl
refused-log code z o left e (block page) s log = refl
refused-log code z o left e (unblock page) s log = refl
refused-log code z o left e (remove page) s log = refl
refused-log code z o left e track s log = refl
refused-log code z o left e start s log = rw (e, z)
refused-log code z o left e pause s log = refl
refused-log code z o left e abort s log = refl
refused-log code z o left e new_epoch s log = refl
refused-log code z o left e reset s log = refl
refused-log code z o left e start_token s log = refl
refused-log code z o left e (dscan first count list budget) s log = refl
refused-log code z o left e (dcheck list budget) s log = refl
refused-log code z o left e (export list buffer stream resume info budget) s log =
    let none : (info_of info).first - (info_of info).first ≡ 0 = omega arith in
    rw (e, z, o, none) (append-nil log)
refused-log code z o left e (restore list info budget) s log = refl

-- ---- one call

module _ (h : Host) (w : history.World) (k : Tied h w) (f : Function) (o : Operands f) where
  pub goes_in : WordsIn (call_of f) w.session w.table (words_of (list_of f)) (words_of (buffer_of f))
  goes_in =
      let c = in_c f o in
      record {
        call = c.call;
        session = record { numbers = reads-back.formed w.session (length w.table) k.formed; streams = k.streams };
        table = k.small;
        list = words_small (list_of f) c.list;
        buffer = words_small (buffer_of f) c.buffer;
      }

  pub after-played : is_played f ≡ true → Tied (after h f) (history.after w (given_by f))
  after-played p =
      let n = played-engines h w k f (in_c f o) p in
      let out = words-out _ _ _ _ _ goes_in in
      let code : (left_in h f).answer.code ≡ (effect h w k f).returned.code = ap (λ (x : Numbers). x.code) n.answer in
      record {
        session = n.session;
        table = n.table;
        log =
            log-same h w k (left_in h f) (effect h w k f) n.answer (ap words_of n.list ∙ words_back _ out.list)
            (ap words_of n.buffer ∙ words_back _ out.buffer) f;
        memory = rw (code, k.memory);
        copy = rw (code, k.memory, k.copy);
        formed = formed-after w (given_by f) k.formed;
        streams = streams-after w (given_by f) k.streams;
        small = out.table;
      }

  own_code : is_played f ≡ false → (left_in h f).answer.code ≡ own42 (effect h w k f)
  own_code p = ap (λ (l : Left). l.answer.code) (refused-own h w k f p)

  own-neither : (n : ℕ) → eqb 41 n ≡ false → eqb 42 n ≡ false → eqb (own42 (effect h w k f)) n ≡ false
  own-neither n a b = either (λ (c : ℕ). eqb c n ≡ false) (eqb (effect h w k f).returned.code codes.op_state_incorrect) (λ q. a) (λ q. b)

  pub after-refused : is_played f ≡ false → Tied (after h f) w
  after-refused p =
      let is = refused-own h w k f p in
      let code = own_code p in
      let z = own-neither 0 refl refl in
      record {
        session = ap (λ (l : Left). l.session) is ∙ k.session;
        table = ap (λ (l : Left). l.table) is ∙ k.table;
        log = refused-log (own42 (effect h w k f)) z (own-neither 1 refl refl) (left_in h f) code f h.session h.log ∙ k.log;
        memory = rw (code, z) k.memory;
        copy = rw (code, z) k.copy;
        formed = k.formed;
        streams = k.streams;
        small = k.small;
      }

  -- what it answers
  pub answers : Answers w h f
  answers =
      record {
        played = played-engines h w k f (in_c f o);
        refused = λ p. refused-own h w k f p ∙ ap (refused (own42 (effect h w k f))) (sym (is-host f h.session h.table).lent);
        formed = by (is_played f) refl;
      }
    where
      by : (p : Bool) → is_played f ≡ p → (left_in h f).answer.code ≡ codes.malformed → ⊥
      by true p e =
          formed-other w.session w.table _ _ k.formed (call_of f)
          (sym (ap (λ (x : Numbers). x.code) (played-engines h w k f (in_c f o) p).answer) ∙ e)
      by false p e = true≢false (sym (eq-eqb _ _ (sym (own_code p) ∙ e)) ∙ own-neither 40 refl refl)

-- ---- many calls

pub run-tied : (l : List Function) (h : Host) (w : history.World) → Tied h w → AllOperands l → Tied (run h l) (history.run w (played_by l))
run-tied [] h w k o = k
run-tied (f ∷ l) h w k o =
    either (λ (gs : List history.Given). Tied (run (after h f) l) (history.run w gs)) (is_played f)
    (λ p. run-tied l (after h f) (history.after w (given_by f)) (after-played h w k f o.0 p) o.1)
    (λ p. run-tied l (after h f) w (after-refused h w k f o.0 p) o.1)
