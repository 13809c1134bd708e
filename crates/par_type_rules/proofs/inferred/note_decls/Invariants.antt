use Rattle.std.proofs.Common.{◌≡◌, drop}
use Rattle.par_tree.specs.Shown.{all_declared}
use Rattle.par_refusals.specs.First.{first_of}
use Rattle.par_type_rules.specs.Inferred.{all_inferred}
use Rattle.par_type_rules.proofs.inferred.note_decls.Given as goal

-- what was found so far, and what is left
abbrev pub invariant-loop-decl : goal.invariant-loop-decl
invariant-loop-decl l =
    first_of l.findings (all_inferred (all_declared (drop l.decl-index l.decls)))
    ≡ first_of l.fn.findings (all_inferred (all_declared l.decls))
