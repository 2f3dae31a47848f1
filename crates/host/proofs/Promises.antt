-- What a call leaves is the engine's or a refusal's (`host-either`); of the engine's, `calls` has the promise. What is no list is refused in its place
-- (`no-list`).
use mathlib.Core.Path.{◌≡◌, refl, sym, ap, ◌∙◌}
use mathlib.Core.Bool.{Bool, true, false, ◌&&◌}
use mathlib.Core.List.{List, [], ◌∷◌}
use Prim.Native.Nat.{ℕ}
use lib.Dec.{eqb, lit<}
use lib.ListN.{length}
use borrow.Author.Tests.{lt-leb}
use Rattle.words.specs.Codes as codes
use Rattle.page.specs.declared.sweeps.Sweep.TheVariants.{Track}
use Rattle.table.specs.Table.{legal}
use Rattle.session.specs.Session.{moving, stream_places}
use Rattle.session.specs.Formed.{formed, busy, gated}
use Rattle.session.specs.declared.Phase.{Phase}
use Rattle.session.specs.declared.Phase.TheVariants.{Idle, Live, Blackout}
use Rattle.session.specs.declared.Session.{Session}
use Rattle.calls.specs.Promises.{named, refusal, is_new}
use Rattle.calls.specs.declared.Call.{Call}
use Rattle.calls.proofs.Codes.{answers-named}
use Rattle.calls.proofs.Promises.{refusal-keeps}
use Rattle.calls.specs.declared.Call.TheVariants.{OnAll, Dscan, Dcheck, Export, Restore}
use Rattle.wire.specs.Bytes.{words_of, bytes_of}
use Rattle.wire.specs.Sessions.{session_of, session_words}
use Rattle.wire.proofs.BytesLaws.{bytes-length}
use Rattle.wire.proofs.SessionLaws.{session-length}
use Rattle.wire.proofs.Promises.{reads-back}
use Rattle.host.specs.Host.{Numbers, Lent, lent, Left, in_layout, is_list, code_alone, played, host_of}
use Rattle.host.specs.Promises.{Meets, OneOutcome, Untouched, code_and_page, RefusalWritesNothing, NamedToC, NoLayout, first_group, no_list_in, NoList}
use Rattle.host.specs.Promises.{fresh, going, one_page, Gives42, Met}
use Rattle.host.proofs.LayoutLaws.{host-none, host-either}
use Rattle.host.proofs.ListLaws.{dscan-comes, dcheck-comes, export-comes, restore-comes, no-list}

abbrev left : Numbers → List ℕ → List ℕ → List ℕ → List ℕ → Left
left n s t l b = record { answer = n; session = s; table = t; list = l; buffer = b }

meets : (c : Call) (x : Lent) (l : Left) → Meets c x l → l ≡ host_of c x
meets c x l m =
    let same : left l.answer l.session l.table l.list l.buffer ≡ host_of c x = rw (m.answer, m.session, m.table, m.list, m.buffer) in
    same

pub one-outcome : OneOutcome
one-outcome = record { one = λ c x l l' m n. meets c x l m ∙ sym (meets c x l' n) }

-- ---- refusals

module _ (c : Call) (s : Session) (x : Lent) where
  played-keeps : refusal (played c s x).answer.code ≡ true → Untouched x (played c s x)
  unfolding played
  played-keeps r = record { session = rw r; table = rw r; list = rw r; buffer = rw r }

  played-answer : refusal (played c s x).answer.code ≡ true → (played c s x).answer ≡ code_and_page (played c s x).answer.code (played c s x).answer.page
  unfolding played
  played-answer r =
      let k = refusal-keeps.all c s (words_of x.table) (words_of x.list) (words_of x.buffer) r in
      rw (k.next, k.first, k.last, k.info, k.errors, k.buffers)

  played-page : eqb (played c s x).answer.code codes.exported_dirty_pages_remain ≡ false →
      eqb (played c s x).answer.code codes.unexported_memory_remains ≡ false → (played c s x).answer.page ≡ 0
  unfolding played
  played-page = refusal-keeps.page c s (words_of x.table) (words_of x.list) (words_of x.buffer)

  played-named : named (played c s x).answer.code ≡ true
  unfolding played
  played-named = answers-named.code c s (words_of x.table) (words_of x.list) (words_of x.buffer)

pub refusal-writes-nothing : RefusalWritesNothing
refusal-writes-nothing = record {
  all = λ c x. host-either c x (λ (l : Left). refusal l.answer.code ≡ true → Untouched x l)
      (played-keeps c _ x)
      (λ code n r. record { session = refl; table = refl; list = refl; buffer = refl });
  answer = λ c x. host-either c x (λ (l : Left). refusal l.answer.code ≡ true → l.answer ≡ code_and_page l.answer.code l.answer.page)
      (played-answer c _ x)
      (λ code n r. refl);
  page = λ c x. host-either c x (λ (l : Left). eqb l.answer.code codes.exported_dirty_pages_remain ≡ false →
      eqb l.answer.code codes.unexported_memory_remains ≡ false → l.answer.page ≡ 0)
      (played-page c _ x)
      (λ code n e f. refl);
}

-- ---- codes

pub named-to-c : NamedToC
named-to-c = record {
  code = λ c x. host-either c x (λ (l : Left). named l.answer.code ≡ true) (played-named c _ x) (λ code n. n);
}

answer-of : {l l' : Left} → l ≡ l' → l.answer ≡ l'.answer
answer-of e = ap (λ (l : Left). l.answer) e

pub no-layout : NoLayout
no-layout = record { all = λ c x e. answer-of (host-none c x e) }

-- ---- the first 42

and-false : (b : Bool) → (b && false) ≡ false
and-false true = refl
and-false false = refl

pub no-list-no-call : NoList
no-list-no-call = record {
  dscan = λ first count budget x e n. answer-of (no-list _ _ x (dscan-comes first count budget) e (rw n));
  dcheck = λ budget x e n. answer-of (no-list _ _ x (dcheck-comes budget) e (rw n));
  list = λ stream resume info budget x e n. answer-of (no-list _ _ x (export-comes stream resume info budget) e (rw n));
  buffer = λ stream resume info budget x e n. answer-of
      (no-list _ _ x (export-comes stream resume info budget) e (rw (n, and-false (is_list (length x.list)))));
  resume = λ stream resume info budget x e n. answer-of
      (no-list _ _ x (export-comes stream resume info budget) e
      (rw (lt-leb x.resume 1 n) (and-false (is_list (length x.list) && is_list (length x.buffer)))));
  restore = λ info budget x e n. answer-of (no-list _ _ x (restore-comes info budget) e (rw n));
}

-- ---- each hypothesis is met

-- what a session of one page in bytes means, and that it is in its layout
module _ (session : Session) (f : formed session 2 ≡ true) (eight : length session.streams ≡ stream_places) where
  reads : session_of (words_of (bytes_of (session_words session))) ≡ session
  reads = reads-back.session session (reads-back.formed session 2 f) eight

  in-layout : (c : Call) (list buffer resume : ℕ) → is_new c ≡ false → in_layout c (one_page session list buffer resume) ≡ true
  unfolding legal
  in-layout c list buffer resume n =
      rw (bytes-length (session_words session), session-length session, n) (reads-back.layout session (reads-back.formed session 2 f))

  gives-42 : (c : Call) (phases : List Phase) (list buffer resume : ℕ) → is_new c ≡ false → first_group session 2 phases ≡ 42 →
      (in_layout c (one_page session list buffer resume) ≡ true →
      (host_of c (one_page session list buffer resume)).answer ≡ no_list_in phases (one_page session list buffer resume)) → Gives42 c (one_page session list buffer resume)
  gives-42 c phases list buffer resume n e none =
      let layout = in-layout c list buffer resume n in
      (layout, none layout ∙ ap code_alone (ap (λ (s : Session). first_group s 2 phases) reads ∙ e))

pub met : Met
unfolding formed busy legal gated
met = record {
  layout = refl;
  refused = ap (λ (n : Numbers). refusal n.code) (no-layout.all (OnAll Track) (lent [] []) refl);
  dscan = (gives-42 (going Live) refl refl (Dscan 0 1 1) (Live ∷ []) 7 0 0 refl refl (λ e. no-list-no-call.dscan 0 1 1 _ e refl), refl);
  dcheck = (gives-42 (going Blackout) refl refl (Dcheck 1) (Blackout ∷ []) 4104 0 0 refl refl (λ e. no-list-no-call.dcheck 1 _ e refl), refl);
  list = (gives-42 (going Live) refl refl (Export 0 false 0 1) moving 7 8 0 refl refl (λ e. no-list-no-call.list 0 false 0 1 _ e refl), refl);
  buffer = (gives-42 (going Live) refl refl (Export 0 false 0 1) moving 8 7 0 refl refl (λ e. no-list-no-call.buffer 0 false 0 1 _ e refl), refl);
  resume = (gives-42 (going Live) refl refl (Export 0 false 0 1) moving 8 8 2 refl refl (λ e. no-list-no-call.resume 0 false 0 1 _ e (lit< tt)), lit< tt);
  restore = (gives-42 fresh refl refl (Restore 0 1) (Idle ∷ []) 7 0 0 refl refl (λ e. no-list-no-call.restore 0 1 _ e refl), refl);
}
