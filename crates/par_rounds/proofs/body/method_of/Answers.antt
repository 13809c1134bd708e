use Rattle.std.proofs.Common.{sym, ap}
use Rattle.par_typed.specs.Shown as shown
use Rattle.par_program_laws.specs.Orderly.{locals_of}
use Rattle.par_program_laws.proofs.Methods.{method_known}
use Rattle.par_rounds.proofs.Methods.{orderly}
use Rattle.par_rounds.proofs.body.method_of.Goals as goal

pub returns-clause-method : goal.returns-clause-method
returns-clause-method c =
    sym (method_known c.args.table.now c.args.body.now.class c.args.body.now.method
    c.in-Some.method.now (sym (rw c.in-Some.is at c.method_at.ensures)))

pub returns-clause-orderly : goal.returns-clause-orderly
returns-clause-orderly c =
    orderly c.args.table.now (shown.body c.args.body.now) c.in-Some.method.now
    (sym (rw c.in-Some.is at c.method_at.ensures)) c.requires

pub returns-clause-locals : goal.returns-clause-locals
returns-clause-locals c = sym (ap locals_of (sym (rw c.in-Some.is at c.method_at.ensures)))
