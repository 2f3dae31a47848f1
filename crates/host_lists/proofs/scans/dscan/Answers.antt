-- 40; past it by the function for that.
use Rattle.std.proofs.Common.{rules}
use mathlib.Core.Path.{refl}
use Rattle.calls.specs.declared.Call.TheVariants.{Dscan}
use Rattle.host.specs.Host.{lent_list}
use Rattle.host.proofs.LayoutLaws.{host-unsound, host-unlent}
use Rattle.host_lists.proofs.scans.dscan.Goals as goal

pub returns-in_err-session : goal.returns-in_err-session
returns-in_err-session c =
    let a = c.args in
    let none = rw c.in_err-session.ensures.ok_part at c.as_array.ensures.cases in
    let e = host-unlent (Dscan a.first a.count a.budget) (lent_list a.session.now a.table.now a.list.now) none in
    record { value = rw e (search rules); session_value = rw e; table_after = rw e; list_after = rw e }

pub returns-in_err-allow_lent : goal.returns-in_err-allow_lent
returns-in_err-allow_lent c =
    let a = c.args in
    let same = (rw c.in_ok-session.ensures.ok_part at c.as_array.ensures.cases).same in
    let e = host-unsound (Dscan a.first a.count a.budget) (lent_list a.session.now a.table.now a.list.now) refl _
    (rw same at c.in_err-allow_lent.ensures) in
    record { value = rw e (search rules); session_value = rw e; table_after = rw e; list_after = rw e }
