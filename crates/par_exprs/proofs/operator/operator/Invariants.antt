use Rattle.std.proofs.Common.{◌≡◌, drop}
use Rattle.par_exprs.specs.Operators.{row_of}
use Rattle.par_tree.specs.Grammar.{operators}
use Rattle.par_exprs.proofs.operator.operator.Given as goal

-- the rows that are left have the one that fits, where any has
abbrev pub invariant-rows : goal.invariant-rows
invariant-rows l =
    row_of (drop l.row-index l.row-items) l.fn.next ≡ row_of (operators l.fn.line) l.fn.next
