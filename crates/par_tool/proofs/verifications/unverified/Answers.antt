use Rattle.par_tool.proofs.Verifying.{first_told, first_there, first_so}
use Rattle.par_tool.proofs.verifications.unverified.Goals as goal

pub class_name-requires : goal.class_name-requires
class_name-requires c =
    first_there c.args.linked.now c.in_ok-unfit.unfit
    (first_told c.args.linked.now c.in_ok-unfit.unfit c.args.error c.requires
    c.in_ok-unfit.ensures)

pub returns : goal.returns
returns c =
    first_so c.args.linked.now c.in_ok-unfit.unfit c.in_ok-class.class
    (first_told c.args.linked.now c.in_ok-unfit.unfit c.args.error c.requires
    c.in_ok-unfit.ensures)
    c.in_ok-class.ensures
