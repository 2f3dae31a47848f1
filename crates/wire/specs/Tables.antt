-- A page in the table's bytes.
use Rattle.std.specs.Prelude.{cond, List, ℕ, ◌+◌, ◌*◌, ◌/◌, ltb, length}
use Rattle.page.specs.declared.PageWords.{PageWords}
use Rattle.wire.specs.Bytes.{put_word}

-- the bytes with two words for page i; past the end, as they were
unfoldable pub put_page : List ℕ → ℕ → PageWords → List ℕ
put_page b i w =
    cond (ltb i (length b / 16)) (put_word (put_word b (16 * i) w.word) (16 * i + 8) w.mark) b
