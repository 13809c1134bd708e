use Rattle.std.proofs.Common.{◌≡◌, ◌<◌, ◌^◌, drop, flat_map}
use Rattle.par_tree.specs.Shown.{all_declared}
use Rattle.par_names.specs.Declarations.{classes_in}
use Rattle.par_refusals.specs.First.{first_of}
use Rattle.par_faults.specs.Limits.{class_limits}
use Rattle.par_parser.specs.Bodies.{source_size}
use Rattle.par_faults.proofs.counts.check_classes.Given as goal

abbrev pub invariant-loop-decl : goal.invariant-loop-decl
invariant-loop-decl l = record {
  few : source_size (all_declared (drop l.decl-index l.decls)) < 2 ^ 32;
  found : first_of l.findings
      (flat_map class_limits (flat_map classes_in (all_declared (drop l.decl-index l.decls))))
      ≡ first_of l.fn.findings (flat_map class_limits (flat_map classes_in (all_declared l.decls)));
}
