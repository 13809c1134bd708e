use Rattle.std.proofs.Common.{◌≡◌, take}
use Rattle.par_frame_steps.proofs.pile.Pile.of.Given as goal

-- those so far
abbrev pub invariant-loop-kind : goal.invariant-loop-kind
invariant-loop-kind l = l.pile ≡ take l.kind-index l.kinds
