-- 40; past it by the function for that.
use Rattle.std.proofs.Common.{rules}
use mathlib.Core.Path.{refl}
use lib.Dec.{eqb}
use Rattle.calls.specs.declared.Call.TheVariants.{Export}
use Rattle.host.specs.Host.{lent_all}
use Rattle.host.proofs.LayoutLaws.{host-unsound, host-unlent}
use Rattle.host_lists.proofs.exports.export.Goals as goal

pub returns-in_err-session : goal.returns-in_err-session
returns-in_err-session c =
    let a = c.args in
    let none = rw c.in_err-session.ensures.ok_part at c.as_mut_array.ensures.cases in
    let e = host-unlent (Export a.stream (eqb a.resume 1) a.info a.budget) (lent_all a.session.now a.table.now a.list.now a.buffer.now a.resume) none in
    record { value = rw e (search rules); session_after = rw e; table_after = rw e; list_after = rw e; buffer_after = rw e }

pub returns-in_err-allow_lent : goal.returns-in_err-allow_lent
returns-in_err-allow_lent c =
    let a = c.args in
    let same = (rw c.in_ok-session.ensures.ok_part at c.as_mut_array.ensures.cases).same in
    let e = host-unsound (Export a.stream (eqb a.resume 1) a.info a.budget) (lent_all a.session.now a.table.now a.list.now a.buffer.now a.resume) refl _
    (rw same at c.in_err-allow_lent.ensures) in
    record { value = rw e (search rules); session_after = rw e same; table_after = rw e; list_after = rw e; buffer_after = rw e }
