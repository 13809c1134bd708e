use Rattle.std.proofs.Common.{◌≤◌, length}
use Rattle.par_inputs.specs.declared.read.TheConstants.{LONGEST_INPUTS}
use Rattle.par_inputs.proofs.Progress.{SoFar}
use Rattle.par_inputs.proofs.read.read_inputs.Given as goal

-- the lines so far are right, and their entries are read
abbrev pub invariant-lines : goal.invariant-lines
invariant-lines l =
    (length l.bytes ≤ LONGEST_INPUTS) × SoFar l.bytes l.rest l.channels l.number l.seen

-- the bytes that are left
abbrev pub decreases-lines : goal.decreases-lines
decreases-lines l = length l.rest
