-- What `sound` tells; that bytes in their layouts, read and written again, are the bytes that came; and which way `host_of` goes.
use mathlib.Core.Path.{◌≡◌, refl, sym, ap, ◌∙◌}
use mathlib.Core.Logic.{◌⊎◌, inl, inr, ⊎_elim}
use mathlib.Core.Bool.{Bool, true, false, cond, not, ◌&&◌, true≢false}
use mathlib.Core.List.{List, [], ◌∷◌}
use Prim.Native.Nat.{ℕ, ◌*◌, ◌/◌, ◌%◌}
use native.Mathlib.Omega.{arith}
use lib.Dec.{eqb}
use lib.ListN.{length}
use borrow.Author.Tests.{eqb-true, eq-eqb, ne_eqb}
use Rattle.words.specs.Codes as codes
use Rattle.refusals.specs.Refusals.{◌gives◌, first_of, number_of}
use Rattle.refusals.specs.declared.Refusal.{Refusal}
use Rattle.refusals.proofs.Laws.{either, and_left, and_right, first-all, number-pos}
use Rattle.table.specs.Table.{legal}
use Rattle.session.specs.Session.{changed_by}
use Rattle.session.specs.Formed.{formed}
use Rattle.session.specs.declared.Session.{Session}
use Rattle.session.specs.declared.changes.Change.{Change}
use Rattle.session.specs.declared.changes.Change.TheVariants.{Nothing}
use Rattle.session.proofs.FormedLaws.{every-hold}
use Rattle.calls.specs.Promises.{named, refusal, is_new}
use Rattle.calls.specs.declared.Call.{Call}
use Rattle.calls.proofs.Codes.{unformed-code}
use Rattle.calls.proofs.Promises.{refusal-keeps}
use Rattle.wire.specs.Bytes.{words_of, bytes_of, Bytes}
use Rattle.wire.specs.Sessions.{session_length, fits, session_of, session_words, written_by}
use Rattle.wire.proofs.BytesLaws.{words-length, bytes_back}
use Rattle.wire.proofs.SessionLaws.{layout-back}
use Rattle.wire.proofs.ChangeLaws.{change-written}
use Rattle.host.specs.Host.{Lent, Left, session_bytes, is_table, in_layout, in_words, session_read, refused, played, host_tests, host_of}
use Rattle.host.specs.Inside.{sound, before42}

pub record Sound (s : List ℕ) (len : ℕ) : Type 0 where
  pub long : length s ≡ session_bytes
  pub table : is_table len ≡ true
  pub layout : fits (words_of s) ≡ true
  pub formed : formed (session_of (words_of s)) (len / 8) ≡ true

pub sound-means : (s : List ℕ) (len : ℕ) → sound s len ≡ true → Sound s len
unfolding sound
sound-means s len e =
    let inside = fits (words_of s) && formed (session_of (words_of s)) (len / 8) in
    let h = every-hold (eqb (length s) session_bytes ∷ is_table len ∷ inside ∷ []) e in
    record {
      long = eqb-true _ _ h.0;
      table = h.1.0;
      layout = and_left (fits (words_of s)) _ h.1.1.0;
      formed = and_right (fits (words_of s)) _ h.1.1.0;
    }

-- 40 of what is not sound, passed and given
pub lent-sound : (s : List ℕ) (len : ℕ) → 0 ≡ first_of (not (sound s len) gives codes.malformed ∷ []) → sound s len ≡ true
lent-sound s len e = go (sound s len) e
  where
    go : (b : Bool) → 0 ≡ cond (not b) codes.malformed 0 → b ≡ true
    go true e = refl
    go false e = absurd (omega (arith, e))

lent-unsound : (s : List ℕ) (len : ℕ) (r : Refusal) → number_of r ≡ first_of (not (sound s len) gives codes.malformed ∷ []) →
    (sound s len ≡ false) × (number_of r ≡ codes.malformed)
lent-unsound s len r e = go (sound s len) e
  where
    go : (b : Bool) → number_of r ≡ cond (not b) codes.malformed 0 → (b ≡ false) × (number_of r ≡ codes.malformed)
    go true e = absurd (true≢false (rw e at (number-pos r)))
    go false e = (refl, e)

-- a table is whole words
pub table-whole : (len : ℕ) → is_table len ≡ true → len % 8 ≡ 0
table-whole len e = eqb-true _ _ (and_left (eqb (len % 8) 0) (legal (len / 8)) e)

pub table_kept : (b : List ℕ) → Bytes b → is_table (length b) ≡ true → bytes_of (words_of b) ≡ b
table_kept b y e = bytes_back b y (table-whole (length b) e)

-- the engine's table has as many words
pub table-formed : (s t : List ℕ) → Sound s (length t) → formed (session_of (words_of s)) (length (words_of t)) ≡ true
table-formed s t h = rw (words-length t) h.formed

pub session-kept : (s : List ℕ) (len : ℕ) → Bytes s → Sound s len → bytes_of (session_words (session_of (words_of s))) ≡ s
session-kept s len y h =
    let long : length s ≡ 8 * session_length = h.long in
    let words : length (words_of s) ≡ session_length = rw (words-length s) (omega arith) in
    ap bytes_of (layout-back (words_of s) words h.layout) ∙ bytes_back s y (omega arith)

-- a change in its place leaves the changed session; a refusal changes nothing
pub change-kept : (s : List ℕ) (len code : ℕ) (c : Change) → Bytes s → Sound s len → (refusal code ≡ true → c ≡ Nothing) →
    written_by c s ≡ cond (refusal code) s (bytes_of (session_words (changed_by c (session_of (words_of s)))))
unfolding written_by
change-kept s len code c y h none = go (refusal code) none
  where
    go : (b : Bool) → (b ≡ true → c ≡ Nothing) → written_by c s ≡ cond b s (bytes_of (session_words (changed_by c (session_of (words_of s)))))
    go true n = rw (n refl)
    go false n = change-written c s y h.long h.layout

at-fault : (a f g : Bool) → (a && (f && g)) ≡ false → ((a && f) ≡ false) ⊎ (g ≡ false)
at-fault true true g e = inr e
at-fault true false g e = inl refl
at-fault false f g e = inl refl

-- ---- what a call leaves, in the layouts and not

-- a refusal of the engine's without a page leaves what a refusal here leaves
pub played-refused : (c : Call) (s : Session) (x : Lent) (code : ℕ) → refusal code ≡ true → eqb code codes.exported_dirty_pages_remain ≡ false →
    eqb code codes.unexported_memory_remains ≡ false → (played c s x).answer.code ≡ code → played c s x ≡ refused code x
unfolding played
played-refused c s x code r n m e =
    let k = refusal-keeps.all c s (words_of x.table) (words_of x.list) (words_of x.buffer) (ap refusal e ∙ r) in
    let page = refusal-keeps.page c s (words_of x.table) (words_of x.list) (words_of x.buffer) (rw e n) (rw e m) in
    rw (e, r, page, k.next, k.first, k.last, k.info, k.errors, k.buffers)

module _ (c : Call) (x : Lent) where
  -- the engine's call
  abbrev pub engine_left : Left
  engine_left = played c (session_read c x.session) x

  abbrev pub engine_code : ℕ
  engine_code = engine_left.answer.code

  pub host-none : in_layout c x ≡ false → host_of c x ≡ refused codes.malformed x
  unfolding host_of
  host-none e = rw e

  -- bytes of another length than a session's
  pub host-unlent : (length x.session ≡ session_bytes → ⊥) → host_of c x ≡ refused codes.malformed x
  host-unlent n = host-none (rw (ne_eqb (length x.session) session_bytes n))

  -- 40 as the engine gives it
  first-40 : (code : ℕ) → code ≡ codes.malformed → first_of (host_tests c x code) ≡ codes.malformed
  first-40 code e = rw e (go (not (in_layout c x)))
    where
      go : (b : Bool) → cond b codes.malformed codes.malformed ≡ codes.malformed
      go true = refl
      go false = refl

  pub host-40 : engine_code ≡ codes.malformed → host_of c x ≡ refused codes.malformed x
  unfolding host_of
  host-40 e = rw (first-40 engine_code e)

  pub host-left : in_layout c x ≡ true → in_words x ≡ true → host_of c x ≡ engine_left
  unfolding host_of
  host-left e w = rw (e, w) (go (eqb engine_code 40) refl (eqb engine_code 41) refl)
    where
      go : (a : Bool) → eqb engine_code 40 ≡ a → (b : Bool) → eqb engine_code 41 ≡ b →
          cond (eqb (cond a 40 (cond b 41 0)) 0) engine_left (refused (cond a 40 (cond b 41 0)) x) ≡ engine_left
      go true p b q = sym (played-refused c _ x 40 refl refl refl (eqb-true engine_code 40 p))
      go false p true q = sym (played-refused c _ x 41 refl refl refl (eqb-true engine_code 41 q))
      go false p false q = refl

  pub host-first : in_layout c x ≡ true → in_words x ≡ false → host_of c x ≡ refused (before42 engine_code) x
  unfolding host_of
  host-first e w = rw (e, w) (go (eqb engine_code 40) (eqb engine_code 41))
    where
      go : (a b : Bool) → cond (eqb (cond a 40 (cond b 41 42)) 0) engine_left (refused (cond a 40 (cond b 41 42)) x) ≡ refused (cond a 40 (cond b 41 42)) x
      go true b = refl
      go false true = refl
      go false false = refl

  -- either the engine's call or a refusal with one of document 01's codes
  pub host-either : (P : Left → Type 0) → P engine_left → ((code : ℕ) → named code ≡ true → P (refused code x)) → P (host_of c x)
  unfolding host_of
  host-either P engine none =
      let tests = host_tests c x engine_code in
      either P (eqb (first_of tests) 0) (λ e. engine) (λ e. none (first_of tests) (first-all named tests refl refl))

-- a call that reads its session
module _ (c : Call) (x : Lent) (reads : is_new c ≡ false) where
  pub engine-read : engine_left c x ≡ played c (session_of (words_of x.session)) x
  engine-read = rw reads

  pub sound-layout : Sound x.session (length x.table) → in_layout c x ≡ true
  sound-layout h = rw (reads, eq-eqb _ _ h.long, h.table, h.layout)

  pub host-played : Sound x.session (length x.table) → in_words x ≡ true → host_of c x ≡ played c (session_of (words_of x.session)) x
  host-played h w = host-left c x (sound-layout h) w ∙ engine-read

  unformed : formed (session_of (words_of x.session)) (length x.table / 8) ≡ false → engine_code c x ≡ codes.malformed
  unfolding played
  unformed f =
      ap (λ (l : Left). l.answer.code) engine-read
      ∙ unformed-code (session_of (words_of x.session)) (words_of x.table) (words_of x.list) (words_of x.buffer) (rw (words-length x.table) f) c reads

  -- 40, whether the layout or the session is at fault
  pub host-refused : sound x.session (length x.table) ≡ false → host_of c x ≡ refused codes.malformed x
  unfolding sound
  host-refused e =
      let whole = eqb (length x.session) session_bytes && is_table (length x.table) in
      ⊎_elim (λ q. host-none c x (rw reads q)) (λ q. host-40 c x (unformed q))
      (at-fault whole (fits (words_of x.session)) (formed (session_of (words_of x.session)) (length x.table / 8)) e)

  pub host-unsound : (r : Refusal) → number_of r ≡ first_of (not (sound x.session (length x.table)) gives codes.malformed ∷ []) →
      host_of c x ≡ refused (number_of r) x
  host-unsound r e = let n = lent-unsound x.session (length x.table) r e in rw n.1 (host-refused n.0)
