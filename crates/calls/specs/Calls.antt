-- Every call and all that it leaves: the one place from which what holds of all calls is said.
use Rattle.std.specs.Prelude.{List, ℕ}
use Rattle.session.specs.Outcome.{Outcome, Answer}
use Rattle.session.specs.declared.Session.{Session}
use Rattle.memory.specs.Memory.{new_out, on_page}
use Rattle.migration.specs.Migration.{on_all, on_session}
use Rattle.migration.specs.Token.{TokenAnswer, token_says, token_out}
use Rattle.scan.specs.Scan.{ScanAnswer, ScanOutcome, dscan_out, dcheck_out}
use Rattle.export.specs.Export.{ExportAnswer, ExportOutcome, export_out}
use Rattle.restore.specs.Restore.{ListAnswer, RestoreOutcome, restore_out}
use Rattle.calls.specs.declared.Call.{Call}
use Rattle.calls.specs.declared.Call.TheVariants.{New, OnPage, OnAll, OnSession, StartToken, Dscan, Dcheck, Export, Restore}
use Rattle.calls.specs.declared.Returned.{Returned}

pub record Effect : Type 0 where
  pub returned : Returned
  pub table : List ℕ
  pub list : List ℕ
  pub buffer : List ℕ

-- an answer without numbers
abbrev pub without_numbers : Answer → Returned
without_numbers a =
    record { code = a.code; page = 0; next = 0; first = 0; last = 0; info = 0; errors = 0; buffers = 0; session = a.session }

abbrev pub token_numbers : TokenAnswer → Returned
token_numbers a =
    record {
      code = (token_says a.token).code;
      page = (token_says a.token).page;
      next = 0;
      first = 0;
      last = 0;
      info = 0;
      errors = 0;
      buffers = 0;
      session = a.session;
    }

abbrev pub scan_numbers : ScanAnswer → Returned
scan_numbers a =
    record { code = a.code; page = 0; next = a.next; first = a.first; last = a.last; info = 0; errors = 0; buffers = 0; session = a.session }

abbrev pub export_numbers : ExportAnswer → Returned
export_numbers a =
    record { code = a.code; page = 0; next = 0; first = 0; last = 0; info = a.info; errors = a.errors; buffers = a.buffers; session = a.session }

abbrev pub list_numbers : ListAnswer → Returned
list_numbers a =
    record { code = a.code; page = 0; next = 0; first = 0; last = 0; info = a.info; errors = 0; buffers = 0; session = a.session }

-- a call that takes no list leaves the list and the buffer
abbrev pub effect : Outcome → List ℕ → List ℕ → Effect
effect o l b = record { returned = without_numbers o.answer; table = o.table; list = l; buffer = b }

-- the token leaves the table too
abbrev pub token_effect : TokenAnswer → List ℕ → List ℕ → List ℕ → Effect
token_effect a t l b = record { returned = token_numbers a; table = t; list = l; buffer = b }

-- a scan takes no buffer
abbrev pub scan_effect : ScanOutcome → List ℕ → Effect
scan_effect o b = record { returned = scan_numbers o.answer; table = o.table; list = o.list; buffer = b }

abbrev pub export_effect : ExportOutcome → Effect
export_effect o = record { returned = export_numbers o.answer; table = o.table; list = o.list; buffer = o.buffer }

-- RESTORE takes no buffer
abbrev pub restore_effect : RestoreOutcome → List ℕ → Effect
restore_effect o b = record { returned = list_numbers o.answer; table = o.table; list = o.list; buffer = b }

abbrev pub effect_of : Call → Session → List ℕ → List ℕ → List ℕ → Effect
effect_of (New created) s t l b = effect (new_out s t created) l b
effect_of (OnPage page m) s t l b = effect (on_page m s t page) l b
effect_of (OnAll k) s t l b = effect (on_all k s t) l b
effect_of (OnSession k) s t l b = effect (on_session k s t) l b
effect_of StartToken s t l b = token_effect (token_out s t) t l b
effect_of (Dscan first count budget) s t l b = scan_effect (dscan_out s t l first count budget) b
effect_of (Dcheck budget) s t l b = scan_effect (dcheck_out s t l budget) b
effect_of (Export stream resume info budget) s t l b = export_effect (export_out s t l b stream resume info budget)
effect_of (Restore info budget) s t l b = restore_effect (restore_out s t l info budget) b
