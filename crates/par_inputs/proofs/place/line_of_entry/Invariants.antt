use Rattle.std.proofs.Common.{◌≤◌, length}
use Rattle.par_inputs.specs.declared.read.TheConstants.{LONGEST_INPUTS}
use Rattle.par_inputs.proofs.Counting.{Counted}
use Rattle.par_inputs.proofs.place.line_of_entry.Given as goal

-- the line of the entry is counted on from the lines so far
abbrev pub invariant-lines : goal.invariant-lines
invariant-lines l =
    (length l.bytes ≤ LONGEST_INPUTS) × Counted l.bytes l.rest l.entry l.number l.left

-- the bytes that are left
abbrev pub decreases-lines : goal.decreases-lines
decreases-lines l = length l.rest
