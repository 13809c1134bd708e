use Rattle.std.proofs.Common.{◌≡◌, List, ◌++◌, length, drop}
use Rattle.std.specs.Prelude.{map}
use Rattle.std.specs.List.{AllByRecursion}
use Rattle.par_typed.specs.Shown.{bodies}
use Rattle.par_asked.specs.par_program_laws.Lattice.{numbers}
use Rattle.par_asked.specs.par_program_laws.Facts.{Facts}
use Rattle.par_flow.specs.Table.{facts_in}
use Rattle.par_asked.specs.par_check_laws.Right.{AreAllRight}
use Rattle.par_program_laws.specs.Orderly.{IsOrderlyBody}
use Rattle.par_check.proofs.accepted.all_facts.Given as goal

-- with facts of the bodies that are left, these are facts of all
abbrev pub invariant-loop-body : goal.invariant-loop-body
invariant-loop-body l = record {
  many : length l.facts ≡ l.body-index;
  right : (rest : List (Facts numbers))
      → AreAllRight l.typed.table (bodies (drop l.body-index l.typed.bodies)) rest
      → AreAllRight l.typed.table (bodies l.typed.bodies)
      (map facts_in l.facts ++ rest);
  orderly : AllByRecursion (IsOrderlyBody l.typed.table)
      (bodies (drop l.body-index l.typed.bodies));
}
