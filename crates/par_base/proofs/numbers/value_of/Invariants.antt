use Rattle.std.proofs.Common.{◌≡◌, ◌≤◌, fold, drop}
use Rattle.par_base.specs.Numbers.{with_digit, value}
use Rattle.par_base.proofs.numbers.value_of.Given as goal

-- the digits that are left go on from the number so far
abbrev pub invariant-loop-digit : goal.invariant-loop-digit
invariant-loop-digit l =
    (fold with_digit l.number (drop l.digit-index l.digits) ≡ value l.digits)
    × (l.number ≤ l.greatest) × (l.greatest ≤ 2147483648)
