use Rattle.std.proofs.Common.{◌≡◌, ℕ, length}
use Rattle.par_meaning.specs.Work.{left}
use Rattle.par_meaning.specs.Onward.{setting, onward}
use Rattle.par_meaning.proofs.steps.settle.Given as goal

abbrev pub invariant-loop-then : goal.invariant-loop-then
invariant-loop-then l =
    (d n : ℕ) → let p = setting l.program d in
    onward p (left p l.work) l.machine l.then n
    ≡ onward p (left p l.initial.work) l.initial.machine l.initial.then n

abbrev pub decreases-loop-then : goal.decreases-loop-then
decreases-loop-then l = length l.work
