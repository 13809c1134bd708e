use Rattle.std.proofs.Common.{◌≡◌, ◌++◌, take}
use Rattle.std.specs.Prelude.{codes}
use Rattle.std.specs.List.{flat_map}
use Rattle.par_filling_lines.specs.Texts.{policy_text}
use Rattle.par_filling_lines.proofs.text.add_join.Given as goal

abbrev pub invariant-loop-number : goal.invariant-loop-number
invariant-loop-number l =
    l.text.items ≡ l.initial.text.items
    ++ flat_map (λ y. codes " * " ++ policy_text l.table y) (take l.number-index l.rest)
