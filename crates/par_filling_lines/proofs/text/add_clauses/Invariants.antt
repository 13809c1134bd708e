use Rattle.std.proofs.Common.{◌≡◌, ◌++◌, take}
use Rattle.std.specs.Prelude.{codes}
use Rattle.std.specs.List.{flat_map}
use Rattle.par_filling_lines.specs.Texts.{clause_text}
use Rattle.par_filling_lines.proofs.text.add_clauses.Given as goal

abbrev pub invariant-loop-clause : goal.invariant-loop-clause
invariant-loop-clause l =
    l.text.items ≡ l.initial.text.items
    ++ flat_map (λ y. codes "; " ++ clause_text l.table y) (take l.clause-index l.rest)
