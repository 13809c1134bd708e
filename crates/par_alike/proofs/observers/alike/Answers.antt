use Rattle.std.proofs.Common.{◌↔◌, subst, sym}
use Rattle.std.specs.Prelude.{IsTrue, Bool}
use Rattle.par_run_laws.specs.par_secrecy.Shown.{Alike}
use Rattle.par_alike.specs.Subject.{subject}
use Rattle.par_alike.specs.Tests.{observer}
use Rattle.par_alike.proofs.Telling.{alike_iff}
use Rattle.par_alike.proofs.observers.alike.Goals as goal

pub returns : goal.returns
returns c =
    let o = observer c.args.actor c.args.locks.now in
    let Answers : Bool → Type 0 =
    λ t. IsTrue t ↔ Alike (subject c.args.typed.now) o c.args.a.now c.args.b.now in
    subst Answers (sym c.give_alike.ensures)
    (alike_iff c.args.typed.now o c.args.a.now c.args.b.now)
