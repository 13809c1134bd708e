use Rattle.std.proofs.Common.{◌≡◌, None, take}
use Rattle.std.specs.List.{position}
use Rattle.par_link.specs.Rules.{is_absent}
use Rattle.par_link.proofs.fault.absent.Given as goal

-- each constant so far names something, or is of another sort
abbrev pub invariant-loop-place : goal.invariant-loop-place
invariant-loop-place l =
    position (is_absent l.sort l.tables.files.now l.file.pool.entries)
    (take l.place l.file.pool.entries) ≡ None
