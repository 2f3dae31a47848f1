-- The scans.
use Rattle.std.specs.Prelude.{◌≡◌, Bool, true, false, cond, not, ◌&&◌, ◌||◌, Option, None, Some, Result, Ok, Err, List, [], ◌∷◌, ◌++◌, ℕ, zero, suc, ◌+◌, ◌-◌}
use Rattle.std.specs.Prelude.{◌*◌, length, set, take, drop, eqb, leb, ltb}
use Rattle.words.specs.Codes as codes
use Rattle.refusals.specs.Refusals.{Test, ◌gives◌, first_of, number_of, ending_number}
use Rattle.refusals.specs.declared.Refusal.{Refusal}
use Rattle.refusals.specs.declared.Ending.{Ending}
use Rattle.table.specs.Table.{words_at, put_at}
use Rattle.session.specs.Session.{with_check}
use Rattle.session.specs.Formed.{gated, most_entries, last_entry}
use Rattle.session.specs.declared.Phase.TheVariants.{Live, Blackout}
use Rattle.session.specs.declared.Check.{Check}
use Rattle.session.specs.declared.Session.{Session}
use Rattle.scan.specs.Look.{look_of}
use Rattle.scan.specs.declared.Scan.{Scan}
use Rattle.scan.specs.declared.Scanned as ended
use Rattle.scan.specs.declared.Written.{Written}
use Rattle.scan.specs.declared.ScanAnswer as answered

-- ---- the run

-- budget spent, 1; in DCHECK a blocked page, 51; to be listed and no room, 2
abbrev pub stop_tests : Scan → Bool → Bool → ℕ → ℕ → ℕ → List Test
stop_tests scan blocked listed i put room =
    leb scan.budget i gives codes.interrupted
    ∷ (scan.checking && blocked) gives codes.mem_scan_failed_blocked_range
    ∷ (listed && leb room put) gives codes.list_full
    ∷ []

unfoldable pub stop_code : Scan → Bool → Bool → ℕ → ℕ → ℕ → ℕ
stop_code scan blocked listed i put room = first_of (stop_tests scan blocked listed i put room)

-- what stops a scan has that code, which is not 0; with 0 nothing does
abbrev pub Stops : ℕ → Option Ending → Type 0
Stops code None = code ≡ codes.done
Stops code (Some e) = (ending_number e ≡ code) × (eqb code codes.done ≡ false)

-- past the end, 0; in DCHECK 3
unfoldable pub end_code : Bool → ℕ
end_code checking = cond checking codes.check_complete codes.done

-- how a scan ended: the page that it stands at, and how many words it has written
pub record Scanned : Type 0 where
  pub code : ℕ
  pub next : ℕ
  pub put : ℕ

-- the same, as code has it
abbrev pub scanned_of : ended.Scanned → Scanned
scanned_of g = record { code = ending_number g.ending; next = g.next; put = g.put }

-- a part of the table, or the whole of it, and the list
pub record ScanOut : Type 0 where
  pub scanned : Scanned
  pub part : List ℕ
  pub list : List ℕ

abbrev pub stop : ℕ → ℕ → ℕ → List ℕ → List ℕ → ScanOut
stop code next put part list = record { scanned = record { code = code; next = next; put = put }; part = part; list = list }

-- a scan with `left` pages before it, which stands at page i of its part and has written `put` words
unfoldable pub scan_run : ℕ → Scan → ℕ → ℕ → List ℕ → List ℕ → ScanOut
scan_run zero scan i put part list = stop (end_code scan.checking) (scan.first + i) put part list
scan_run (suc left) scan i put part list =
    let f = look_of (words_at part i) (scan.first + i) scan.clock in
    let code = stop_code scan f.blocked f.listed i put (length list) in
    cond (eqb code codes.done)
    (scan_run left scan (i + 1)
    (cond f.listed (put + 1) put)
    (cond f.listed (put_at part i f.words) part)
    (cond f.listed (set list put f.word) list))
    (stop code (scan.first + i) put part list)

-- the words of `count` pages from page `first` on
abbrev pub part_of : List ℕ → ℕ → ℕ → List ℕ
part_of t first count = take (2 * count) (drop (2 * first) t)

-- the table with other words there
abbrev pub patched : List ℕ → ℕ → ℕ → List ℕ → List ℕ
patched t first count part = take (2 * first) t ++ (part ++ drop (2 * count) (drop (2 * first) t))

-- `count` pages of the table from the scan's first page on
unfoldable pub range_run : ℕ → Scan → List ℕ → List ℕ → ScanOut
range_run count scan t l =
    let o = scan_run count scan 0 0 (part_of t scan.first count) l in
    record { scanned = o.scanned; part = patched t scan.first count o.part; list = o.list }

-- ---- the answer

-- what a scan answers: the next page, and the first and the last entry of its list
pub record ScanAnswer : Type 0 where
  pub code : ℕ
  pub next : ℕ
  pub first : ℕ
  pub last : ℕ
  pub session : Session

-- the first and last entries: 0 and count−1; 511 and 0 when empty
unfoldable pub written_of : ℕ → Written
written_of put = cond (eqb put 0) (record { first = last_entry; last = 0 }) (record { first = 0; last = put - 1 })

unfoldable pub answer_of : Scanned → Session → ScanAnswer
answer_of g s =
    let w = written_of g.put in
    record { code = g.code; next = g.next; first = w.first; last = w.last; session = s }

-- a refusal's answer is the code; all other numbers in it are 0
abbrev pub refused_answer : ℕ → Session → ScanAnswer
refused_answer code s = record { code = code; next = 0; first = 0; last = 0; session = s }

-- the answer that code gives as a `Result`: a refusal has no numbers, and brings back the session that came
abbrev pub scan_answer_of : Session → Result answered.ScanAnswer Refusal → ScanAnswer
scan_answer_of s (Ok a) = record { code = ending_number a.ending; next = a.next; first = a.first; last = a.last; session = a.session }
scan_answer_of s (Err r) = record { code = number_of r; next = 0; first = 0; last = 0; session = s }

-- the place becomes the next page; 3 is complete; 51 marks the check failed
abbrev pub check_after : Scanned → Check
check_after g = record { place = g.next; complete = eqb g.code codes.check_complete; failed = eqb g.code codes.mem_scan_failed_blocked_range }

unfoldable pub checked_by : Session → Scanned → Session
checked_by s g = with_check s (check_after g)

pub record ScanOutcome : Type 0 where
  pub answer : ScanAnswer
  pub table : List ℕ
  pub list : List ℕ

abbrev pub refused_scan : ℕ → Session → List ℕ → List ℕ → ScanOutcome
refused_scan code s t l = record { answer = refused_answer code s; table = t; list = l }

abbrev pub ran_scan : Session → ScanOut → ScanOutcome
ran_scan s o = record { answer = answer_of o.scanned s; table = o.part; list = o.list }

-- ---- DSCAN

-- first page and count ≥ 1 within the table
unfoldable pub within_table : ℕ → ℕ → ℕ → Bool
within_table first count pages = leb 1 count && leb (first + count) pages

-- else 42; a list longer than 512 is 42
abbrev pub dscan_asks : ℕ → ℕ → ℕ → ℕ → List Test
dscan_asks pages room first count =
    not (within_table first count pages) gives codes.operand_invalid ∷ ltb most_entries room gives codes.operand_invalid ∷ []

abbrev pub dscan_tests : Session → ℕ → ℕ → ℕ → List Test
dscan_tests s room first count = dscan_asks s.fixed.pages room first count

unfoldable pub dscan_code : Session → ℕ → ℕ → ℕ → ℕ → ℕ
dscan_code s len room first count = gated s len (Live ∷ []) (dscan_tests s room first count)

abbrev pub dscan_of : Session → ℕ → ℕ → Scan
dscan_of s first budget = record { first = first; budget = budget; clock = s.clock; checking = false }

unfoldable pub dscan_out : Session → List ℕ → List ℕ → ℕ → ℕ → ℕ → ScanOutcome
dscan_out s t l first count budget =
    let code = dscan_code s (length t) (length l) first count in
    cond (eqb code codes.done) (ran_scan s (range_run count (dscan_of s first budget) t l)) (refused_scan code s t l)

-- ---- DCHECK

-- a list longer than 512 is 42; 50 if complete or failed
abbrev pub dcheck_asks : Check → ℕ → List Test
dcheck_asks check room =
    ltb most_entries room gives codes.operand_invalid ∷ (check.complete || check.failed) gives codes.mem_scan_reset_required ∷ []

abbrev pub dcheck_tests : Session → ℕ → List Test
dcheck_tests s room = dcheck_asks s.check room

unfoldable pub dcheck_code : Session → ℕ → ℕ → ℕ
dcheck_code s len room = gated s len (Blackout ∷ []) (dcheck_tests s room)

-- from the session's place to the end of the table
abbrev pub dcheck_of : Session → ℕ → Scan
dcheck_of s budget = record { first = s.check.place; budget = budget; clock = s.clock; checking = true }

unfoldable pub dcheck_out : Session → List ℕ → List ℕ → ℕ → ScanOutcome
dcheck_out s t l budget =
    let code = dcheck_code s (length t) (length l) in
    let o = range_run (s.fixed.pages - s.check.place) (dcheck_of s budget) t l in
    cond (eqb code codes.done) (ran_scan (checked_by s o.scanned) o) (refused_scan code s t l)
