use Rattle.std.proofs.Common.{◌≡◌, take}
use Rattle.par_erase.proofs.members.copy_types.Given as goal

-- those that were gone over
abbrev pub invariant-loop-ty : goal.invariant-loop-ty
invariant-loop-ty l = l.found ≡ take l.ty-index l.types
