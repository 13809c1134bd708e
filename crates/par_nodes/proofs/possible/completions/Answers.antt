use Rattle.std.proofs.Common.{arith}
use Rattle.par_nodes.specs.Seen.{seen_rules}
use Rattle.par_nodes.proofs.Completing.{rules_all}
use Rattle.par_nodes.proofs.possible.completions.Goals as goal

pub returns : goal.returns
returns c =
    rules_all (seen_rules c.args.rules.now) c.add_rules.new.kinds c.new-kinds.result
    c.args.found.items c.as_mut_slice.result.now c.len-left.result c.new-kinds.ensures
    c.as_mut_slice.ensures.value
    (omega (arith, c.len-left.ensures, c.args.found.ok.0)) c.requires c.in_ok-add_rules.ensures
