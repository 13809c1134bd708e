use Rattle.std.proofs.Common.{◌≡◌, drop}
use Rattle.par_tree.specs.Shown.{all_declared}
use Rattle.par_refusals.specs.First.{first_of}
use Rattle.par_type_rules.specs.Program.{declarations_faults}
use Rattle.par_type_rules.proofs.program.check_decls.Given as goal

-- what was found so far, and what is left
abbrev pub invariant-loop-decl : goal.invariant-loop-decl
invariant-loop-decl l =
    first_of l.findings (declarations_faults l.table l.names
    (all_declared (drop l.decl-index l.decls)))
    ≡ first_of l.fn.findings (declarations_faults l.table l.names (all_declared l.decls))
