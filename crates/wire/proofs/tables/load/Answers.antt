-- Each way out is the definition at the test that led there; word j of the bytes is at 8 * j.
use mathlib.Core.Path.{◌≡◌}
use mathlib.Core.List.{List}
use Prim.Native.Nat.{ℕ, ◌+◌, ◌*◌, ◌/◌, ◌<◌, ◌≤◌}
use native.Mathlib.Omega.{arith}
use lib.ListN.{length}
use borrow.Author.Tests.{lt-ltb, le-ltb}
use Rattle.table.specs.Table.{words_at, page_count}
use Rattle.wire.specs.Bytes.{word_at, words_of}
use Rattle.wire.proofs.BytesLaws.{words-length, words-at}
use Rattle.wire.proofs.tables.load.Goals as goal

inside : (b : List ℕ) (i : ℕ) → i < length b / 16 → words_at (words_of b) i ≡ record { word = word_at b (16 * i); mark = word_at b (16 * i + 8) }
unfolding words_at
inside b i h =
    let some : i < page_count (words_of b) = rw (words-length b) (omega arith) in
    let first : 8 * (2 * i) ≡ 16 * i = omega arith in
    let second : 8 * (2 * i + 1) ≡ 16 * i + 8 = omega arith in
    rw (lt-ltb _ _ some, words-at b (2 * i) (omega arith), words-at b (2 * i + 1) (omega arith), first, second)

past : (b : List ℕ) (i : ℕ) → length b / 16 ≤ i → words_at (words_of b) i ≡ record { word = 0; mark = 0 }
unfolding words_at
past b i h =
    let none : page_count (words_of b) ≤ i = rw (words-length b) (omega arith) in
    rw (le-ltb _ _ none)

pub returns-then-at-b : goal.returns-then-at-b
returns-then-at-b c = rw (c.word_at-then-at-b.ensures, c.word_at.ensures, inside _ _ c.if-at-b.true)

pub returns : goal.returns
returns c = rw (past _ _ c.if-at-b.false)
