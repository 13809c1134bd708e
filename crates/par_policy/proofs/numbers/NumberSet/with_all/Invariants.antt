use Rattle.std.proofs.Common.{take}
use Rattle.par_policy.specs.Numbers.{IsAscending, IsUnion}
use Rattle.par_policy.proofs.numbers.NumberSet.with_all.Given as goal

abbrev pub invariant-loop-number : goal.invariant-loop-number
invariant-loop-number l = record {
  ascending : IsAscending l.self;
  gains : IsUnion l.self l.initial.self (take l.number-index l.number-items);
}
