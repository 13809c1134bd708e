use Rattle.std.proofs.Common.{◌≡◌}
use Rattle.par_class.specs.Layout.{code_in, others_in}
use Rattle.par_class.proofs.member.parted.Given as goal

abbrev pub invariant-loop-piece : goal.invariant-loop-piece
invariant-loop-piece l = (l.code ≡ code_in l.yielded) × (l.attributes ≡ others_in l.yielded)
