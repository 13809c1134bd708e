use Rattle.std.proofs.Common.{◌≡◌, ◌-◌, length, take}
use Rattle.par_frame_steps.proofs.pile.Pile.take.Given as goal

-- so many are gone
abbrev pub invariant-loop-kind : goal.invariant-loop-kind
invariant-loop-kind l =
    l.self ≡ take (length l.initial.self - l._kind) l.initial.self
