use Rattle.par_tree.specs.Shown.{method}
use Rattle.par_names.specs.Seen.{seen}
use Rattle.par_faults.proofs.Headed.{noted_in_parts}
use Rattle.par_faults.proofs.methods.check_head.Goals as goal

-- the three parts, one behind the other
pub returns : goal.returns
returns c =
    noted_in_parts c.args.findings.now c.check_signature.new.findings c.check_marks.new.findings
    c.check_thrown.new.findings
    (seen c.args.view.now) (method c.args.method.now) c.in_ok-check_signature.ensures
    c.check_marks.ensures c.in_ok-check_thrown.ensures
