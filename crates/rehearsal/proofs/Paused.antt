-- A host is paused exactly where its history is: phase and epoch are words 0 and 3 of the session, and the first word of each stream is its flag.
use Rattle.std.specs.Prelude.{Option, Some, None}
use mathlib.Core.Path.{◌≡◌, refl, sym, ap, ◌∙◌}
use mathlib.Core.Bool.{true, false≢true}
use mathlib.Core.List.{List}
use Prim.Native.Nat.{ℕ, ◌<◌}
use native.Mathlib.Omega.{arith}
use native.Mathlib.Nat.{add-zero}
use lib.ListN.{length, get_or}
use lib.Seq.{get_or-drop}
use borrow.Author.Tests.{lt-ltb}
use Rattle.session.specs.Session.{phase_number, stream_places, work_at, work_of}
use Rattle.session.specs.Formed.{work_resting}
use Rattle.session.specs.declared.Session.{Session}
use Rattle.session.specs.declared.streams.Interruption.{Interruption}
use Rattle.session.proofs.FormedLaws.{busy-means, means-busy}
use Rattle.history.specs.History as history
use Rattle.history.specs.Earning as earning
use Rattle.wire.specs.Bytes.{words_of}
use Rattle.wire.specs.Sessions.{phase_of, stream_place, work_words, session_of, session_words}
use Rattle.wire.proofs.BytesLaws.{words_back}
use Rattle.wire.proofs.SessionLaws.{in-session, formed-words}
use Rattle.rehearsal.specs.Rehearsal.{Host}
use Rattle.rehearsal.specs.Driver.{Paused}
use Rattle.rehearsal.proofs.Tied.{Tied, reads}
use Rattle.rehearsal.proofs.After.{epoch-read}

flag_at : (s : Session) (i : ℕ) → i < stream_places → get_or (session_words s) (stream_place i) 0 ≡ (work_words (work_at s i)).flag
unfolding work_of
flag_at s i h =
    let work : work_of s i ≡ work_at s i = rw (lt-ltb i stream_places h) in
    sym (get_or-drop (stream_place i) (session_words s) 0 0 ∙ ap (λ (n : ℕ). get_or (session_words s) n 0) (add-zero (stream_place i)))
    ∙ ap (λ x. x.flag) (in-session s i h)
    ∙ ap (λ (x : Option Interruption). (work_words x).flag) work

flag-rests : (x : Option Interruption) → (work_words x).flag ≡ 0 → work_resting x ≡ true
flag-rests None e = refl
flag-rests (Some i) e = absurd (omega (arith, e))

rests-flag : (x : Option Interruption) → work_resting x ≡ true → (work_words x).flag ≡ 0
rests-flag None e = refl
rests-flag (Some i) e = absurd (false≢true e)

module _ (h : Host) (w : history.World) (k : Tied h w) where
  session-words : words_of h.session ≡ session_words w.session
  session-words =
      ap words_of k.session ∙ words_back (session_words w.session) (formed-words w.session (length w.table) k.formed)

  pub paused-there : Paused h → earning.Paused w
  unfolding session_of
  paused-there p =
      record {
        phase = sym (ap (λ (s : Session). s.phase) (reads h w k)) ∙ ap phase_of p.phase;
        rest =
            means-busy w.session
            (λ i b.
            flag-rests (work_at w.session i)
            (sym (flag_at w.session i b) ∙ ap (λ (l : List ℕ). get_or l (stream_place i) 0) (sym session-words) ∙ p.rest i b));
        epoch = rw (epoch-read h w k) at p.epoch;
      }

  pub there-paused : earning.Paused w → Paused h
  unfolding session_of session_words
  there-paused p =
      record {
        phase = ap (λ (l : List ℕ). get_or l 0 0) session-words ∙ ap phase_number p.phase;
        rest = λ i b.
            ap (λ (l : List ℕ). get_or l (stream_place i) 0) session-words
            ∙ flag_at w.session i b
            ∙ rests-flag (work_at w.session i) (busy-means w.session p.rest i b);
        epoch = rw (epoch-read h w k) p.epoch;
      }
