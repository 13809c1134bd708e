-- How the counts grow with a list.
use Rattle.std.proofs.Common.{◌≡◌, ℕ, ◌+◌, arith}
use Rattle.par_typed.specs.Plain.{TExp, TExps, NoExps, More, TSta, TStas, End, Then, TCatches}
use Rattle.par_typed.specs.Plain.{NoCatch, Catch}
use Rattle.par_typed.specs.Plain.{with_exp, with_sta, with_catch}
use Rattle.par_typed.specs.Nodes.{nodes, args_nodes, stmt_nodes, all_nodes, catch_nodes}

-- one more argument behind the last
pub args_nodes_with : (es : TExps) (e : TExp) → args_nodes (with_exp es e) ≡ args_nodes es + nodes e
unfolding args_nodes with_exp
args_nodes_with NoExps e = omega arith
args_nodes_with (More x es) e = let more = args_nodes_with es e in omega arith

-- one more statement behind the last
pub all_nodes_with : (ss : TStas) (s : TSta)
    → all_nodes (with_sta ss s) ≡ all_nodes ss + stmt_nodes s
unfolding all_nodes with_sta
all_nodes_with End s = omega arith
all_nodes_with (Then x ss) s = let more = all_nodes_with ss s in omega arith

-- one more catch behind the last
pub catch_nodes_with : (cs : TCatches) (class : ℕ) (s : TSta)
    → catch_nodes (with_catch cs class s) ≡ catch_nodes cs + stmt_nodes s
unfolding catch_nodes with_catch
catch_nodes_with NoCatch class s = omega arith
catch_nodes_with (Catch c x cs) class s = let more = catch_nodes_with cs class s in omega arith

pub ruleset grows = (args_nodes_with, all_nodes_with, catch_nodes_with)
