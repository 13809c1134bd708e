use Rattle.std.proofs.Common.{◌≡◌, drop, true}
use Rattle.par_tree.specs.Shown.{all_do, all_catch}
use Rattle.par_refusals.specs.First.{first_of}
use Rattle.par_scope.specs.Home.{seen}
use Rattle.par_type_rules.specs.Kept.{IsKept}
use Rattle.par_type_rules.specs.Stmts.{stmts_faults, catches_faults}
use Rattle.par_type_rules.proofs.stmts.+stmt.Given as goal

-- what was found so far, and what the statements that are left break
abbrev pub invariant-check_stmts-loop-stmt : goal.invariant-check_stmts-loop-stmt
invariant-check_stmts-loop-stmt l = record {
  found : first_of l.findings (stmts_faults (seen l.home) l.looped l.locals l.is_reached
      (all_do (drop l.stmt-index l.stmts)))
      ≡ first_of l.fn.findings
      (stmts_faults (seen l.home) l.looped l.fn.locals true (all_do l.stmts));
  kept : IsKept l.fn.locals l.locals;
}

abbrev pub invariant-check_catches-loop-catch : goal.invariant-check_catches-loop-catch
invariant-check_catches-loop-catch l = record {
  found : first_of l.findings
      (catches_faults (seen l.home) l.looped l.fn.locals (all_catch (drop l.catch-index l.catches)))
      ≡ first_of l.fn.findings
      (catches_faults (seen l.home) l.looped l.fn.locals (all_catch l.catches));
  left : l.locals ≡ l.fn.locals;
}
