-- Words come out. A malformed session is refused, and everything stays; where it is well-formed the session that comes back is (`history`), so its numbers are
-- words. The other numbers are (`Counts`); table, list and buffer hold words by the moves of a page, a scan and the entries of a list.
use mathlib.Core.Path.{◌≡◌, refl, sym, ap, subst}
use mathlib.Core.Bool.{Bool, true, false}
use mathlib.Core.List.{List, []}
use Prim.Native.Nat.{ℕ, ◌-◌, ◌≤◌}
use native.Mathlib.Omega.{arith}
use lib.Dec.{eqb}
use lib.ListN.{length, replicate}
use borrow.Author.Tests.{eqb-true}
use Rattle.words.specs.Codes as codes
use Rattle.words.specs.Info.{info_of}
use Rattle.page.specs.Page.{on_words}
use Rattle.page.specs.Moves.{moved_by}
use Rattle.page.specs.Sweeps.{swept_by}
use Rattle.table.specs.Table.{page_count, words_at}
use Rattle.session.specs.Session.{new_session, work_of}
use Rattle.session.specs.Formed.{formed}
use Rattle.session.specs.Outcome.{Outcome}
use Rattle.session.specs.declared.Session.{Session}
use Rattle.session.proofs.Laws.{answered-either}
use Rattle.session.proofs.FormedLaws.{means-formed}
use Rattle.memory.specs.Memory.{new_code, new_out}
use Rattle.memory.proofs.Laws.{page-either}
use Rattle.migration.proofs.Laws.{all_either, alone-table}
use Rattle.scan.specs.Scan.{ScanOutcome, dscan_of, dcheck_of}
use Rattle.scan.proofs.Outcomes.{dscan-either, dcheck-either}
use Rattle.lists.specs.Run.{standing}
use Rattle.lists.specs.declared.Kind.TheVariants as kind
use Rattle.entry.specs.Entry.{ground_of}
use Rattle.export.specs.Export.{begun_by, ExportOutcome}
use Rattle.export.proofs.Moves.{export-either}
use Rattle.restore.specs.Restore.{begun_at, RestoreOutcome}
use Rattle.restore.proofs.Moves.{restore-either}
use Rattle.calls.specs.Calls.{Effect, scan_effect, export_effect, restore_effect, effect_of, effect}
use Rattle.calls.specs.Promises.{refusal, is_new, Kept}
use Rattle.calls.specs.declared.Call.{Call}
use Rattle.calls.specs.declared.Call.TheVariants.{New, OnPage, OnAll, OnSession, StartToken, Dscan, Dcheck, Export, Restore}
use Rattle.calls.proofs.Codes.{answers-named}
use Rattle.calls.proofs.Promises.{refusal-keeps}
use Rattle.bundle.specs.Bundle.{nothing}
use Rattle.history.specs.History.{World, given}
use Rattle.history.proofs.Accepted.{new-made}
use Rattle.history.proofs.Formed.{formed-after, streams-after}
use Rattle.wire.specs.Bytes.{Words}
use Rattle.wire.specs.Promises.{Word, Numbers}
use Rattle.wire.proofs.BytesLaws.{words_back, put_small}
use Rattle.wire.proofs.Promises.{reads-back}
use Rattle.rehearsal.specs.Small.{CallWords, SessionWords, WordsOut, WordsIn, StaysSmall}
use Rattle.rehearsal.proofs.Words.{zero-words}
use Rattle.rehearsal.proofs.Pages.{words-at, on-words, move-keeps, sweep-keeps, swept-words}
use Rattle.rehearsal.proofs.Scans.{range_small}
use Rattle.rehearsal.proofs.Exports.{run_small}
use Rattle.rehearsal.proofs.Counts.{named-most, Counted, none, counted}
use Rattle.rehearsal.proofs.Gate.{malformed-told}

-- ---- table, list and buffer

record LentWords (e : Effect) : Type 0 where
  table : Words e.table
  list : Words e.list
  buffer : Words e.buffer

module _ (s : Session) (t l b : List ℕ) (ht : Words t) (hl : Words l) (hb : Words b) where
  lent-words : (c : Call) → CallWords c → LentWords (effect_of c s t l b)
  unfolding new_out
  lent-words (New created) w =
      answered-either (λ (o : Outcome). LentWords (effect o l b)) (new_code (length t) created) s t (new_session (page_count t) created) (replicate (length t) 0)
      (λ e. record { table = zero-words (length t); list = hl; buffer = hb })
      (λ e. record { table = ht; list = hl; buffer = hb })
  lent-words (OnPage page m) w =
      let f = moved_by m s.clock in
      let two = on-words f (move-keeps m s.clock w.1) (words_at t page) (words-at t page ht) in
      page-either m s t page (λ (o : Outcome). LentWords (effect o l b))
      (λ d. record { table = put_small t page (on_words f (words_at t page)) ht two.word two.mark; list = hl; buffer = hb })
      (λ e. record { table = ht; list = hl; buffer = hb })
  lent-words (OnAll k) w =
      all_either (λ (o : Outcome). LentWords (effect o l b)) k s t
      (λ o. record { table = swept-words (on_words (swept_by k)) (on-words (swept_by k) (sweep-keeps k)) t ht; list = hl; buffer = hb })
      (λ e. record { table = ht; list = hl; buffer = hb })
  lent-words (OnSession k) w = record { table = subst Words (sym (alone-table k s t)) ht; list = hl; buffer = hb }
  lent-words StartToken w = record { table = ht; list = hl; buffer = hb }
  lent-words (Dscan first count budget) w =
      let r = range_small count (dscan_of s first budget) t l ht hl in
      dscan-either s t l first count budget (λ (o : ScanOutcome). LentWords (scan_effect o b))
      (λ e. record { table = r.part; list = r.list; buffer = hb })
      (record { table = ht; list = hl; buffer = hb })
  lent-words (Dcheck budget) w =
      let r = range_small (s.fixed.pages - s.check.place) (dcheck_of s budget) t l ht hl in
      dcheck-either s t l budget (λ (o : ScanOutcome). LentWords (scan_effect o b))
      (λ e. record { table = r.part; list = r.list; buffer = hb })
      (record { table = ht; list = hl; buffer = hb })
  lent-words (Export stream resume info budget) w =
      let r = run_small kind.Export (ground_of s) (info_of info).last budget (standing (begun_by (work_of s stream)) t l b)
      (record { table = ht; list = hl; buffer = hb }) in
      export-either (λ (o : ExportOutcome). LentWords (export_effect o)) s t l b stream resume info budget
      (record { table = r.table; list = r.list; buffer = r.buffer })
      (record { table = ht; list = hl; buffer = hb })
  lent-words (Restore info budget) w =
      let x = info_of info in
      let r = run_small kind.Restore (ground_of s) x.last budget (standing (begun_at x) t l []) (record { table = ht; list = hl; buffer = zero-words 0 }) in
      restore-either (λ (o : RestoreOutcome). LentWords (restore_effect o b)) s t l info budget
      (λ e. record { table = r.table; list = r.list; buffer = hb })
      (λ e. record { table = ht; list = hl; buffer = hb })

-- ---- all of it

-- a refusal leaves words where words came
kept-words : (s : Session) (t l b : List ℕ) (e : Effect) → Kept s t l b e → e.returned.code ≤ 56 → e.returned.page ≡ 0 → SessionWords s → Words t →
    Words l → Words b → WordsOut e
kept-words s t l b e k code page hs ht hl hb =
    record {
      answer = record {
        code = omega arith;
        page = omega arith;
        next = omega (arith, k.next);
        first = omega (arith, k.first);
        last = omega (arith, k.last);
        info = omega (arith, k.info);
        errors = omega (arith, k.errors);
        buffers = omega (arith, k.buffers);
      };
      session = subst SessionWords (sym k.session) hs;
      table = subst Words (sym k.table) ht;
      list = subst Words (sym k.list) hl;
      buffer = subst Words (sym k.buffer) hb;
    }

module _ (s : Session) (t l b : List ℕ) (hs : SessionWords s) (ht : Words t) (hl : Words l) (hb : Words b) where
  abbrev world : World
  world = record { session = s; table = t; log = []; memory = nothing; copy = nothing }

  code-most : (c : Call) → (effect_of c s t l b).returned.code ≤ 56
  code-most c = named-most _ (answers-named.code c s t l b)

  with-numbers : (c : Call) → CallWords c → Counted (effect_of c s t l b).returned → Numbers (effect_of c s t l b).returned.session →
      WordsOut (effect_of c s t l b)
  with-numbers c w n numbers =
      let x = lent-words s t l b ht hl hb c w in
      let code = code-most c in
      record {
        answer = record {
          code = omega arith;
          page = n.page;
          next = n.next;
          first = n.first;
          last = n.last;
          info = n.info;
          errors = n.errors;
          buffers = n.buffers;
        };
        session = record { numbers = numbers; streams = streams-after world (given c l b) hs.streams };
        table = x.table;
        list = x.list;
        buffer = x.buffer;
      }

  new-words : (created : ℕ) → Word created → WordsOut (effect_of (New created) s t l b)
  unfolding new_out
  new-words created w =
      with-numbers (New created) w (none _ _)
      (answered-either (λ (o : Outcome). Numbers o.answer.session) (new_code (length t) created) s t (new_session (page_count t) created)
      (replicate (length t) 0)
      (λ e. reads-back.formed _ (length t) (means-formed _ (length t) (new-made (length t) created (eqb-true _ _ e))))
      (λ e. hs.numbers))

  -- by the gate
  gated-words : (c : Call) → is_new c ≡ false → CallWords c → WordsOut (effect_of c s t l b)
  gated-words c n w = go (formed s (length t)) refl
    where
      go : (f : Bool) → formed s (length t) ≡ f → WordsOut (effect_of c s t l b)
      go true f = with-numbers c w (counted s t l b f ht hl c) (reads-back.formed _ _ (formed-after world (given c l b) f))
      go false f =
          let told = malformed-told s t l b f c n in
          kept-words s t l b (effect_of c s t l b) (refusal-keeps.all c s t l b (ap refusal told)) (code-most c)
          (refusal-keeps.page c s t l b (ap (λ (k : ℕ). eqb k codes.exported_dirty_pages_remain) told)
          (ap (λ (k : ℕ). eqb k codes.unexported_memory_remains) told)) hs ht hl hb

  small : (c : Call) → CallWords c → WordsOut (effect_of c s t l b)
  small (New created) w = new-words created w
  small (OnPage page m) w = gated-words (OnPage page m) refl w
  small (OnAll k) w = gated-words (OnAll k) refl w
  small (OnSession k) w = gated-words (OnSession k) refl w
  small StartToken w = gated-words StartToken refl w
  small (Dscan first count budget) w = gated-words (Dscan first count budget) refl w
  small (Dcheck budget) w = gated-words (Dcheck budget) refl w
  small (Export stream resume info budget) w = gated-words (Export stream resume info budget) refl w
  small (Restore info budget) w = gated-words (Restore info budget) refl w

pub words-out : (c : Call) (s : Session) (t l b : List ℕ) → WordsIn c s t l b → WordsOut (effect_of c s t l b)
words-out c s t l b h = small s t l b h.session h.table h.list h.buffer c h.call

pub stays-small : StaysSmall
stays-small =
    record {
      words = words-out;
      back = λ c s t l b h.
          let o = words-out c s t l b h in
          record {
            session = reads-back.session _ o.session.numbers o.session.streams;
            table = words_back _ o.table;
            list = words_back _ o.list;
            buffer = words_back _ o.buffer;
          };
    }
