use Rattle.std.proofs.Common.{◌≡◌, drop}
use Rattle.par_tree.specs.Shown.{methods}
use Rattle.par_refusals.specs.First.{first_of}
use Rattle.par_type_rules.specs.Methods.{methods_faults}
use Rattle.par_type_rules.proofs.methods.check_methods.Given as goal

-- what was found so far, and what is left
abbrev pub invariant-loop-decl : goal.invariant-loop-decl
invariant-loop-decl l =
    first_of l.findings (methods_faults l.table l.names l.class
    (methods (drop l.decl-index l.decls)))
    ≡ first_of l.fn.findings (methods_faults l.table l.names l.class (methods l.decls))
