-- What each of the eighteen functions leaves: the host's call, on what its caller lends.
use Rattle.std.specs.Prelude.{List, ℕ, eqb}
use Rattle.page.specs.declared.moves.Move.TheVariants.{Write, Add, Accept, Block, Unblock, Remove}
use Rattle.page.specs.declared.sweeps.Sweep.TheVariants.{Track, Start, Pause}
use Rattle.migration.specs.declared.Alone.TheVariants.{NewEpoch, Reset, Abort}
use Rattle.calls.specs.declared.Call.TheVariants.{New, OnPage, OnAll, OnSession, StartToken, Dscan, Dcheck, Export, Restore}
use Rattle.host.specs.Host.{Numbers, lent_all, lent_list, lent, Left, host_of}
use Rattle.chirpsteeple.specs.declared.ChirpTokenAnswer.{ChirpTokenAnswer}
use Rattle.chirpsteeple.specs.declared.ChirpScanAnswer.{ChirpScanAnswer}
use Rattle.chirpsteeple.specs.declared.ChirpExportAnswer.{ChirpExportAnswer}
use Rattle.chirpsteeple.specs.declared.ChirpListAnswer.{ChirpListAnswer}

-- ---- on session and table

abbrev pub new_left : List ℕ → List ℕ → ℕ → Left
new_left s t streams = host_of (New streams) (lent s t)

abbrev pub write_left : List ℕ → List ℕ → ℕ → ℕ → Left
write_left s t page mark = host_of (OnPage page (Write mark)) (lent s t)

abbrev pub add_left : List ℕ → List ℕ → ℕ → Left
add_left s t page = host_of (OnPage page Add) (lent s t)

abbrev pub accept_left : List ℕ → List ℕ → ℕ → Left
accept_left s t page = host_of (OnPage page Accept) (lent s t)

abbrev pub block_left : List ℕ → List ℕ → ℕ → Left
block_left s t page = host_of (OnPage page Block) (lent s t)

abbrev pub unblock_left : List ℕ → List ℕ → ℕ → Left
unblock_left s t page = host_of (OnPage page Unblock) (lent s t)

abbrev pub remove_left : List ℕ → List ℕ → ℕ → Left
remove_left s t page = host_of (OnPage page Remove) (lent s t)

abbrev pub track_left : List ℕ → List ℕ → Left
track_left s t = host_of (OnAll Track) (lent s t)

abbrev pub start_left : List ℕ → List ℕ → Left
start_left s t = host_of (OnAll Start) (lent s t)

abbrev pub pause_left : List ℕ → List ℕ → Left
pause_left s t = host_of (OnAll Pause) (lent s t)

abbrev pub new_epoch_left : List ℕ → List ℕ → Left
new_epoch_left s t = host_of (OnSession NewEpoch) (lent s t)

abbrev pub reset_left : List ℕ → List ℕ → Left
reset_left s t = host_of (OnSession Reset) (lent s t)

abbrev pub abort_left : List ℕ → List ℕ → Left
abort_left s t = host_of (OnSession Abort) (lent s t)

abbrev pub token_left : List ℕ → List ℕ → Left
token_left s t = host_of StartToken (lent s t)

-- ---- on a list, and a buffer

abbrev pub dscan_left : List ℕ → List ℕ → ℕ → ℕ → List ℕ → ℕ → Left
dscan_left s t first count l budget = host_of (Dscan first count budget) (lent_list s t l)

abbrev pub dcheck_left : List ℕ → List ℕ → List ℕ → ℕ → Left
dcheck_left s t l budget = host_of (Dcheck budget) (lent_list s t l)

abbrev pub export_left : List ℕ → List ℕ → List ℕ → List ℕ → ℕ → ℕ → ℕ → ℕ → Left
export_left s t l b stream resume info budget =
    host_of (Export stream (eqb resume 1) info budget) (lent_all s t l b resume)

abbrev pub restore_left : List ℕ → List ℕ → List ℕ → ℕ → ℕ → Left
restore_left s t l info budget = host_of (Restore info budget) (lent_list s t l)

-- ---- what C gets of the numbers

abbrev pub token_to_c : Numbers → ChirpTokenAnswer
token_to_c n = record { code = n.code; page = n.page }

abbrev pub scan_to_c : Numbers → ChirpScanAnswer
scan_to_c n = record { code = n.code; next = n.next; first = n.first; last = n.last }

abbrev pub export_to_c : Numbers → ChirpExportAnswer
export_to_c n = record { code = n.code; info = n.info; errors = n.errors; buffers = n.buffers }

abbrev pub list_to_c : Numbers → ChirpListAnswer
list_to_c n = record { code = n.code; info = n.info }
