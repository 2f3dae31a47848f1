-- One list exported to its end: each call is accepted and takes entries until its budget is used up; one that is interrupted is resumed where it was, since its
-- stream, its info and its list come back with the next entry's place; and the call that comes behind the last entry leaves the stream at rest.
use Rattle.std.specs.Prelude.{Option, Some, None}
use mathlib.Core.Path.{◌≡◌, refl, sym, ap, ◌∙◌, subst}
use mathlib.Core.Logic.{◌⊎◌, inl, inr, ⊎_elim}
use mathlib.Core.Bool.{Bool, true, false, cond, not}
use mathlib.Core.List.{List, [], ◌∷◌, Memᴰ}
use Prim.Native.Nat.{ℕ, ◌+◌, ◌≤◌, ◌<◌}
use native.Mathlib.Omega.{arith}
use native.Mathlib.Decide.{ℕ_discrete}
use lib.Dec.{eqb}
use lib.ListN.{length, get_or, set}
use lib.Seq.{get_or-set_same, get_or-set_other}
use borrow.Author.Tests.{lt-ltb, ltb-true, ltb-false, le-leb, lt-leb, eq-eqb}
use Rattle.words.specs.Codes as codes
use Rattle.words.specs.Info.{info_of, with_first}
use Rattle.words.specs.declared.infos.Info.{Info}
use Rattle.words.proofs.InfoLaws.{info-fits}
use Rattle.refusals.proofs.Laws.{either}
use Rattle.table.specs.Table.{page_count, page_at}
use Rattle.session.specs.Session.{among, moving, resting, stream_places, work_of, with_streams, with_work}
use Rattle.session.specs.Formed.{formed, most_entries, work_resting}
use Rattle.session.specs.declared.Phase.TheVariants.{Blackout}
use Rattle.session.specs.declared.Session.{Session}
use Rattle.session.specs.declared.streams.Interruption.{Interruption}
use Rattle.session.specs.declared.streams.Stream.{Stream}
use Rattle.session.proofs.Laws.{open-gate}
use Rattle.session.proofs.FormedLaws.{formed-means, means-busy}
use Rattle.lists.specs.Run.{Standing, standing}
use Rattle.lists.specs.List.{is_over}
use Rattle.lists.proofs.Laws.{run-far}
use Rattle.entry.specs.Entry.{ground_of}
use Rattle.export.specs.Export.{ExportAnswer, no_resumption, no_new_call, not_from_0, export_tests, export_code, export_step, begun_by, done_by, interrupted_by, finished_by}
use Rattle.export.specs.Export.{ExportOutcome, ran_export, export_out}
use Rattle.export.proofs.Moves as moves
use Rattle.calls.specs.Calls.{export_effect}
use Rattle.calls.specs.declared.Call.TheVariants.{Export}
use Rattle.history.specs.History.{Given, given, World, effect_in, left_by, after}
use Rattle.history.specs.Earning.{total, exported}
use Rattle.history.proofs.Formed.{formed-after, streams-after}
use Rattle.history.proofs.Exports.{begins, info-back}
use Rattle.history.proofs.Waiting.{Listed, Short, Left}
use Rattle.history.proofs.Ahead.{Ahead, Waits, waits-map, none_ahead, Along, call_along}

-- a new call finds its stream at rest and begins with entry 0; a resumed one finds it interrupted at its own FIRST and LAST
abbrev Finds : Bool → ℕ → ℕ → Option Interruption → Type 0
Finds resume next last None = (resume ≡ false) × (next ≡ 0)
Finds resume next last (Some i) = (resume ≡ true) × (i.next ≡ next) × (i.last ≡ last)

module _ (n stream entries : ℕ) (rest : List (List ℕ)) where
  -- before a call that goes on with entry `next`
  pub record Going (w : World) (resume : Bool) (info : ℕ) (l b : List ℕ) (next : ℕ) : Type 0 where
    pub formed : formed w.session (length w.table) ≡ true
    pub phase : w.session.phase ≡ Blackout
    pub streams : length w.session.streams ≡ stream_places
    pub complete : w.session.check.complete ≡ true
    pub created : w.session.fixed.created ≡ n
    -- the other streams are at rest
    pub others : (i : ℕ) → i < stream_places → (i ≡ stream → ⊥) → work_resting (get_or w.session.streams i resting).work ≡ true
    pub work : Finds resume next (info_of info).last (work_of w.session stream)
    pub format : (info_of info).format ≡ 0
    pub zeros : (info_of info).zero52 ≡ 0
    pub first : (info_of info).first ≡ next
    pub last : (info_of info).last + 1 ≡ entries
    pub ordered : next ≤ (info_of info).last
    pub list : length l ≡ entries
    pub buffer : length b ≡ entries
    pub waits : (i : ℕ) → i < page_count w.table → Waits (Ahead l next entries (Listed rest) i) w.session.epoch (page_at w.table i)

  module _ (usable : stream + 1 < n) (most : entries ≤ most_entries) (lists : (l : List ℕ) → Memᴰ l rest → Short l) where
    module _ (w : World) (resume : Bool) (info budget : ℕ) (l b : List ℕ) (next : ℕ) (k : Going w resume info l b next) where
      abbrev s : Session
      s = w.session

      abbrev x : Info
      x = info_of info

      low : stream < stream_places
      low = omega (arith, usable, k.created, (formed-means s (length w.table) k.formed).created.high)

      -- ---- the call is accepted

      stands : (r : Option Interruption) → Finds resume next x.last r → (no_resumption resume r x ≡ false) × (no_new_call resume r ≡ false) × (not_from_0 resume x ≡ false)
      stands None e = (rw e.0, rw e.0, rw (e.0, k.first, e.1))
      stands (Some i) e =
          (rw (e.0, eq-eqb x.first i.next (k.first ∙ sym e.1), eq-eqb x.last i.last (sym e.2)), rw e.0, rw e.0)

      accepted : export_code s (length w.table) (length l) (length b) stream resume x ≡ 0
      unfolding export_code
      accepted =
          let stand = stands (work_of s stream) k.work in
          open-gate s (length w.table) moving (export_tests s (length l) (length b) stream resume x)
          (record {
            formed = k.formed;
            comes = ap (among moving) k.phase;
            passed = (
              ap not (lt-ltb (stream + 1) s.fixed.created (omega (arith, k.created))),
              (
                ap not (eq-eqb (length b) (length l) (k.buffer ∙ sym k.list)),
                (
                  rw (le-leb 1 (length l) (omega (arith, k.last, k.list)), le-leb (length l) most_entries (omega (arith, k.list))),
                  (
                    rw k.format,
                    (
                      rw k.zeros,
                      (lt-leb (length l) x.last (omega (arith, k.last, k.list)), (stand.0, (stand.1, (stand.2, tt)))),
                    ),
                  ),
                ),
              ),
            );
          })

      -- ---- its entries

      abbrev left : Standing
      left = moves.exported s w.table l b stream info budget

      along : Along s.epoch (Listed rest) (length w.table) (length l) entries left
      along =
          call_along s w.table l b stream resume info budget (Listed rest) entries k.phase accepted (rw k.first k.waits)

      -- ---- what it leaves

      abbrev g : Given
      g = given (Export stream resume info budget) l b

      abbrev ran : ExportAnswer → ExportOutcome
      ran a = record { answer = a; table = left.table; list = left.list; buffer = left.buffer }

      abbrev Kept : ExportOutcome → Type 0
      Kept o = (formed o.answer.session (length o.table) ≡ true) × (length o.answer.session.streams ≡ stream_places)

      -- the list is at its end, or the call used its budget up
      abbrev Came : ExportOutcome → Type 0
      Came o =
          ((o.answer.code ≡ codes.done) × Left (left_by w g (export_effect o)) n rest)
          ⊎ ((o.answer.code ≡ codes.interrupted)
          × ((at : ℕ) × (next + budget ≤ at) × Going (left_by w g (export_effect o)) true o.answer.info o.list o.buffer at))

      set-run : (r : Option Interruption) → with_work s stream r ≡ with_streams s (set s.streams stream (record { work = r }))
      unfolding with_work
      set-run r = rw (lt-ltb stream stream_places low)

      run-here : (r : Option Interruption) → (get_or (with_work s stream r).streams stream resting).work ≡ r
      run-here r =
          rw (set-run r) (ap (λ (z : Stream). z.work) (get_or-set_same s.streams stream (record { work = r }) resting (omega (arith, low, k.streams))))

      run-set : (r : Option Interruption) → work_of (with_work s stream r) stream ≡ r
      unfolding work_of
      run-set r = rw (lt-ltb stream stream_places low) (run-here r)

      run-others : (r : Option Interruption) (i : ℕ) → i < stream_places → (i ≡ stream → ⊥) → work_resting (get_or (with_work s stream r).streams i resting).work ≡ true
      run-others r i h ne =
          rw (set-run r, get_or-set_other s.streams stream i (record { work = r }) resting ne) (k.others i h ne)

      all_rest : (i : ℕ) → i < stream_places → work_resting (get_or (with_work s stream None).streams i resting).work ≡ true
      all_rest i h =
          elim (ℕ_discrete i stream) [
            | yes e ↦ rw (e, run-here None)
            | no ne ↦ run-others None i h ne
          ]

      ended : x.last < left.at.next → Kept (ran (done_by s stream x left.at)) → Came (ran (done_by s stream x left.at))
      ended q kept =
          inl (
            refl,
            record {
              formed = kept.0;
              phase = rw (set-run None) k.phase;
              rest = means-busy (with_work s stream None) all_rest;
              streams = kept.1;
              complete = rw (set-run None) k.complete;
              created = rw (set-run None) k.created;
              lists = lists;
              pages = λ i h. rw (set-run None) (waits-map s.epoch (page_at left.table i)
                  (none_ahead left.list left.at.next entries (Listed rest) i (omega (arith, q, k.last))) (along.waits i (rw along.table at h)));
            },
          )

      next-info : left.at.next ≤ x.last → info_of (interrupted_by s stream x left.at).info ≡ with_first x left.at.next
      next-info q = info-back info left.at.next q (omega (arith, q, (info-fits info).last))

      goes_on : left.at.next ≤ x.last → Kept (ran (interrupted_by s stream x left.at)) → Came (ran (interrupted_by s stream x left.at))
      goes_on q kept =
          let r : Option Interruption = Some (record { next = left.at.next; last = x.last; errors = left.at.errors; filled = left.at.filled }) in
          inr (
            refl,
            (
              left.at.next,
              ⊎_elim (λ far. omega (arith, far, begins s (length w.table) (length l) (length b) stream resume x accepted, k.first))
                  (λ end. absurd (omega (arith, end, q)))
                  (run-far (export_step (ground_of s)) x.last budget (standing (begun_by (work_of s stream)) w.table l b)),
              record {
                formed = kept.0;
                phase = rw (set-run r) k.phase;
                streams = kept.1;
                complete = rw (set-run r) k.complete;
                created = rw (set-run r) k.created;
                others = run-others r;
                work = rw (run-set r, next-info q) (refl, refl, refl);
                format = rw (next-info q) k.format;
                zeros = rw (next-info q) k.zeros;
                first = rw (next-info q);
                last = rw (next-info q) k.last;
                ordered = rw (next-info q) q;
                list = along.list ∙ k.list;
                buffer = along.buffer ∙ k.list;
                waits = λ i h. rw (set-run r) (along.waits i (rw along.table at h));
              },
            ),
          )

      came : Came (export_out s w.table l b stream resume info budget)
      unfolding export_out finished_by
      came =
          let outcome : export_out s w.table l b stream resume info budget ≡ ran_export s stream x left = rw accepted in
          subst (λ (o : ExportOutcome). Kept o → Came o) (sym outcome)
          (either (λ (a : ExportAnswer). Kept (ran a) → Came (ran a)) (is_over x left.at.next) (λ q. ended (ltb-true _ _ q))
          (λ q. goes_on (ltb-false _ _ q)))
          (formed-after w g k.formed, streams-after w g k.streams)

    -- budgets that come to the end
    pub exported-left : (budgets : List ℕ) (w : World) (resume : Bool) (info : ℕ) (l b : List ℕ) (next : ℕ) → Going w resume info l b next →
        entries ≤ next + total budgets → Left (exported w stream resume info l b budgets) n rest
    exported-left [] w resume info l b next k h = absurd (omega (arith, k.ordered, k.last))
    exported-left (budget ∷ budgets) w resume info l b next k h =
        let g = given (Export stream resume info budget) l b in
        let e = effect_in w g in
        let Then : ℕ → Type 0 = λ code. Left (cond (eqb code codes.interrupted)
        (exported (after w g) stream true e.returned.info e.list e.buffer budgets) (after w g)) n rest in
        ⊎_elim
        (λ c. subst Then (sym c.0) c.1)
        (λ c. subst Then (sym c.0) (exported-left budgets (after w g) true e.returned.info e.list e.buffer c.1.0 c.1.2
        (omega (arith, h, c.1.1))))
        (came w resume info budget l b next k)
