-- A call that takes a list, past 40: 41, then the 42 of what is no list, then the call's own tests. Where one of them holds the C side refuses with its code;
-- where none does, list and buffer are in whole words and the engine's tests are passed.
use mathlib.Core.Path.{◌≡◌, refl, sym, ap, ◌∙◌}
use mathlib.Core.Bool.{Bool, true, false, cond, not, ◌&&◌, ◌||◌}
use mathlib.Core.List.{List, [], ◌∷◌}
use Prim.Native.Nat.{ℕ, ◌/◌}
use native.Mathlib.Omega.{arith}
use lib.Dec.{eqb}
use lib.ListN.{length}
use Rattle.words.specs.Codes as codes
use Rattle.refusals.specs.Refusals.{Test, ◌gives◌, first_of, number_of}
use Rattle.refusals.specs.declared.Refusal.{Refusal}
use Rattle.refusals.proofs.Laws.{and_left, and_right, not-true, all_codes, first-all, number-pos}
use Rattle.session.specs.Session.{among}
use Rattle.session.specs.Formed.{phase_tests, gate_tests, gated, behind}
use Rattle.session.specs.declared.Phase.{Phase}
use Rattle.session.specs.declared.Session.{Session}
use Rattle.session.proofs.Laws.{gate-first, gate-formed}
use Rattle.calls.specs.Calls.{effect_of}
use Rattle.calls.specs.Promises.{refusal}
use Rattle.calls.specs.declared.Call.{Call}
use Rattle.wire.specs.Bytes.{words_of}
use Rattle.wire.specs.Sessions.{session_of}
use Rattle.host.specs.Host.{Lent, in_words, refused, played, host_of}
use Rattle.host.specs.Inside.{ComesIn}
use Rattle.host.proofs.LayoutLaws.{Sound, table-formed, played-refused, sound-layout, host-played}
use Rattle.host.proofs.ListLaws.{no-list}

-- 0, or a refusal without a page
abbrev plain : ℕ → Bool
plain n = refusal n && not (eqb n codes.exported_dirty_pages_remain) && not (eqb n codes.unexported_memory_remains)

abbrev pub or_plain : ℕ → Bool
or_plain n = eqb n 0 || plain n

abbrev pub gate_for : List Phase → Lent → ℕ
gate_for phases x = first_of (phase_tests (session_of (words_of x.session)).phase phases (not (in_words x) gives codes.operand_invalid ∷ []))

-- behind a refusal no test is asked
pub behind-refusal : (r : Refusal) (asks : List Test) → number_of r ≡ behind (number_of r) asks
behind-refusal r asks = rw (number-pos r)

module _ (c : Call) (phases : List Phase) (comes : ComesIn c phases) (x : Lent) (h : Sound x.session (length x.table)) where
  abbrev read : Session
  read = session_of (words_of x.session)

  -- the engine's gate and its tests
  abbrev own : List Test → ℕ
  own asks = gated read (length (words_of x.table)) phases asks

  abbrev gate : ℕ
  gate = gate_for phases x

  -- with words, what stands before the call's tests is the engine's gate
  words-gate : in_words x ≡ true → gate ≡ own []
  words-gate w = rw w (sym (gate-formed read (length (words_of x.table)) phases [] (table-formed x.session x.table h)))

  words-code : (asks : List Test) → in_words x ≡ true → behind gate asks ≡ own asks
  words-code asks w = rw (words-gate w) (sym (gate-first read (length (words_of x.table)) phases asks))

  -- without, it is a code, and the C side's refusal
  no-words-code : (asks : List Test) → in_words x ≡ false → behind gate asks ≡ gate
  no-words-code asks w = rw w (go (not (among phases read.phase)))
    where
      go : (b : Bool) → cond (eqb (cond b 41 42) 0) (first_of asks) (cond b 41 42) ≡ cond b 41 42
      go true = refl
      go false = refl

  no-words-left : in_words x ≡ false → host_of c x ≡ refused gate x
  no-words-left w =
      no-list c phases x comes (sound-layout c x comes.reads h) w
      ∙ ap (λ (code : ℕ). refused code x) (gate-formed read (length x.table / 8) phases (true gives codes.operand_invalid ∷ []) h.formed ∙ rw w)

  -- no test holds
  pub listed-passed : (asks : List Test) → behind gate asks ≡ 0 → (in_words x ≡ true) × (own asks ≡ 0)
  listed-passed asks e = go (in_words x) refl
    where
      never : (b : Bool) → ◌≡◌ {A = ℕ} (cond b 41 42) 0 → ⊥
      never true z = omega (arith, z)
      never false z = omega (arith, z)

      go : (b : Bool) → in_words x ≡ b → (in_words x ≡ true) × (own asks ≡ 0)
      go true w = (w, sym (words-code asks w) ∙ e)
      go false w = absurd (never (not (among phases read.phase)) (rw w at (sym (no-words-code asks w) ∙ e)))

  -- one does, and the engine answers with its code: a refusal
  pub listed-refused :
      (asks : List Test) →
      all_codes or_plain asks ≡ true →
      (eqb (own asks) 0 ≡ false → (effect_of c read (words_of x.table) (words_of x.list) (words_of x.buffer)).returned.code ≡ own asks) →
      (r : Refusal) →
      behind gate asks ≡ number_of r →
      host_of c x ≡ refused (number_of r) x
  unfolding played gated
  listed-refused asks k told r e = go (in_words x) refl ∙ ap (λ (m : ℕ). refused m x) e
    where
      n : eqb (behind gate asks) 0 ≡ false
      n = rw e (number-pos r)

      named : or_plain (own asks) ≡ true
      named = first-all or_plain (gate_tests read (length (words_of x.table)) phases asks) refl k

      go : (b : Bool) → in_words x ≡ b → host_of c x ≡ refused (behind gate asks) x
      go true w =
          let code = words-code asks w in
          let none : eqb (own asks) 0 ≡ false = rw (← code) n in
          let p : plain (own asks) ≡ true = rw none at named in
          let two = and_left (refusal (own asks) && not (eqb (own asks) codes.exported_dirty_pages_remain)) (not (eqb (own asks) codes.unexported_memory_remains)) p in
          host-played c x comes.reads h w
          ∙ played-refused c read x (own asks)
          (and_left (refusal (own asks)) (not (eqb (own asks) codes.exported_dirty_pages_remain)) two)
          (not-true (eqb (own asks) codes.exported_dirty_pages_remain) (and_right (refusal (own asks)) (not (eqb (own asks) codes.exported_dirty_pages_remain)) two))
          (not-true (eqb (own asks) codes.unexported_memory_remains)
          (and_right (refusal (own asks) && not (eqb (own asks) codes.exported_dirty_pages_remain)) (not (eqb (own asks) codes.unexported_memory_remains)) p))
          (told none)
          ∙ ap (λ (m : ℕ). refused m x) (sym code)
      go false w = no-words-left w ∙ ap (λ (m : ℕ). refused m x) (sym (no-words-code asks w))
