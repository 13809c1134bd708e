use Rattle.std.proofs.Common.{◌≡◌, drop, take, length}
use Rattle.par_tree.specs.Shown.{all_do, all_catch}
use Rattle.par_refusals.specs.First.{first_of}
use Rattle.par_names.specs.Seen.{seen, home_seen}
use Rattle.par_names.specs.Stmts.{stmts_faults, catches_faults}
use Rattle.par_names.proofs.body.+stmt.Given as goal

-- what is noted, with what the statements that are left break
abbrev pub invariant-check_stmts-loop-s : goal.invariant-check_stmts-loop-s
invariant-check_stmts-loop-s l = record {
  found : first_of l.findings
      (stmts_faults (seen l.view) (home_seen l.home) l.scope (all_do (drop l.s-index l.stmts)))
      ≡ first_of l.fn.findings
      (stmts_faults (seen l.view) (home_seen l.home) l.fn.scope (all_do l.stmts));
  kept : take (length l.fn.scope) l.scope ≡ l.fn.scope;
}

-- what is noted, with what the catches that are left break
abbrev pub invariant-check_catches-loop-catch : goal.invariant-check_catches-loop-catch
invariant-check_catches-loop-catch l = record {
  found : first_of l.findings (catches_faults (seen l.view) (home_seen l.home) l.scope
      (all_catch (drop l.catch-index l.catches)))
      ≡ first_of l.fn.findings
      (catches_faults (seen l.view) (home_seen l.home) l.fn.scope (all_catch l.catches));
  left : l.scope ≡ l.fn.scope;
}
