-- A program that keeps all rules on names and all limits fits a table.
use Rattle.std.proofs.Common.{◌≡◌, ◌≤◌, List, [], ◌∷◌}
use Rattle.std.proofs.Common.{arith}
use Rattle.std.specs.Prelude.{sum_by}
use Rattle.std.specs.List.{flat_map}
use Rattle.std.proofs.lemmas.List.Sums.{sum_by-cons, sum_by-append}
use Rattle.par_lexer.specs.declared.cut.TheConstants.{LONGEST_SOURCE}
use Rattle.par_tree.specs.Nodes.{method_nodes}
use Rattle.par_tree.specs.Plain as plain
use Rattle.par_tree.specs.Plain.{Method, Declaration, Source}
use Rattle.par_faults.specs.par_parser.Bodies.{method_size, methods_size, declaration_size}
use Rattle.par_faults.specs.par_parser.Bodies.{source_size}
use Rattle.par_names.specs.Declarations.{builtins, classes_in, classes}
use Rattle.par_resolved.specs.Limits as policies
use Rattle.par_faults.specs.Faults.{all_faults}
use Rattle.par_faults.proofs.Within.{limits_kept}
use Rattle.par_table.specs.Room.{class_nodes, FitsTable}

-- ---- nodes

nodes_of : (ms : List Method) → sum_by method_nodes ms ≤ methods_size ms
nodes_of [] = omega arith
nodes_of (m ∷ ms) =
    omega (arith, sum_by-cons method_nodes m ms, sum_by-cons method_size m ms, nodes_of ms)

nodes_in : (d : Declaration) → sum_by class_nodes (classes_in d) ≤ declaration_size d
nodes_in (plain.Actors ids) = omega arith
nodes_in (plain.Lock lock) = omega arith
nodes_in (plain.Policy policy) = omega arith
nodes_in (plain.Declared class) =
    omega (arith, sum_by-cons class_nodes class [], nodes_of class.methods)

declared_nodes : (s : Source)
    → sum_by class_nodes (flat_map classes_in s) ≤ sum_by declaration_size s
declared_nodes [] = omega arith
declared_nodes (d ∷ s) =
    omega (
      arith,
      sum_by-append class_nodes (classes_in d) (flat_map classes_in s),
      sum_by-cons declaration_size d s,
      nodes_in d,
      declared_nodes s,
    )

-- the classes that every program has add nothing
all_nodes : (s : Source) → sum_by class_nodes (classes s) ≤ source_size s
all_nodes s =
    omega (arith, sum_by-append class_nodes builtins (flat_map classes_in s), declared_nodes s)

-- ---- all

pub fits : (s : Source) → all_faults s ≡ [] → source_size s ≤ LONGEST_SOURCE → FitsTable s
fits s none small =
    let kept = limits_kept s none in
    record {
      few = kept.few;
      few_policies = kept.few_policies;
      few_classes = omega (arith, kept.few_classes);
      few_nodes = omega (arith, all_nodes s, small);
    }
