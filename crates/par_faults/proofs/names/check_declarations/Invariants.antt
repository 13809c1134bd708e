use Rattle.std.proofs.Common.{◌≡◌, ◌≤◌, [], drop, take, map}
use Rattle.par_index.specs.Texts.{texts}
use Rattle.par_tree.specs.Shown.{all_declared, source}
use Rattle.par_refusals.specs.First.{first_of}
use Rattle.par_names.specs.Declarations.{policies}
use Rattle.par_names.specs.Program.{declarations_faults}
use Rattle.par_faults.proofs.names.check_declarations.Given as goal

abbrev pub invariant-loop-decl : goal.invariant-loop-decl
invariant-loop-decl l = record {
  few : l.before ≤ l.decl-index;
  left : drop l.before (texts l.all.policies.names.items)
      ≡ map (λ p. p.id.name) (policies (all_declared (drop l.decl-index l.program.decls)));
  found : first_of l.findings
      (declarations_faults (source l.program) (take l.before (texts l.all.policies.names.items))
      (all_declared (drop l.decl-index l.program.decls)))
      ≡ first_of l.fn.findings (declarations_faults (source l.program) [] (source l.program));
}
