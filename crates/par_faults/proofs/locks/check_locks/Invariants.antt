use Rattle.std.proofs.Common.{◌≡◌, ◌≤◌, drop}
use Rattle.par_tree.specs.Shown.{all_declared}
use Rattle.par_names.specs.Declarations.{locks}
use Rattle.par_refusals.specs.First.{first_of}
use Rattle.par_faults.specs.Limits.{locks_limit}
use Rattle.par_faults.specs.declared.limit.TheConstants.{LOCKS}
use Rattle.par_faults.proofs.locks.check_locks.Given as goal

abbrev pub invariant-loop-decl : goal.invariant-loop-decl
invariant-loop-decl l = record {
  few : l.sum ≤ LOCKS.most;
  found : first_of l.findings
      (locks_limit l.actors l.sum (locks (all_declared (drop l.decl-index l.decls))))
      ≡ first_of l.fn.findings (locks_limit l.actors 0 (locks (all_declared l.decls)));
}
