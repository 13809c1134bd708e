-- How many reads and writes are made, one job after another, and where memory is wanting.
use Rattle.std.proofs.Common.{◌≡◌, ◌∙◌, ap, ℕ, ◌≤◌, Option, Result, Ok, Err, IfErr, arith}
use Rattle.std.proofs.Common.{inl, inr}
use Rattle.par_io.specs.Causes.{FolderCounts, Makes, Files, raised, raised_by}
use Rattle.par_tool.specs.declared.reads.Failure.{Failure}
use Rattle.par_tool.specs.declared.reads.Failure.TheVariants.{Memory}
use Rattle.par_tool.specs.Outside.{Text, MakesAtMost}
use Rattle.par_tool.specs.Traces.{LacksMemory}
use Rattle.par_tool.specs.Sources.{MOST_FILES}

pub at_most : (reads writes : ℕ) (before after : FolderCounts) → Makes reads writes before after
    → MakesAtMost reads writes before after
at_most reads writes before after makes =
    record {
      read = reads;
      written = writes;
      few_reads = omega arith;
      few_writes = omega arith;
      makes = makes;
    }

-- where one read is made, no more than one read and the writes of class files are
pub read_alone : (before after : FolderCounts) → Makes 1 0 before after
    → MakesAtMost 1 MOST_FILES before after
read_alone before after makes =
    record {
      read = 1;
      written = 0;
      few_reads = omega arith;
      few_writes = omega arith;
      makes = makes;
    }

pub two_reads : (before between after : FolderCounts) → Makes 1 0 before between
    → Makes 1 0 between after → Makes 2 0 before after
two_reads before between after first second = (second.0 ∙ ap raised first.0, second.1 ∙ first.1)

pub read_and_writes : (writes : ℕ) (before between after : FolderCounts)
    → Makes 1 0 before between → Makes 0 writes between after → Makes 1 writes before after
read_and_writes writes before between after first second =
    (second.0 ∙ first.0, second.1 ∙ ap (raised_by writes) first.1)

-- to trace, two files at most
pub few_to_trace : (files : Option Files) (before after : FolderCounts) (file inputs : Text)
    → LacksMemory files before after file inputs → MakesAtMost 2 0 before after
few_to_trace files before after file inputs (inl makes) =
    record {
      read = 1;
      written = 0;
      few_reads = omega arith;
      few_writes = omega arith;
      makes = makes;
    }
few_to_trace files before after file inputs (inr h) = at_most 2 0 before after h.0

-- a read, and no more writes than there are class files
pub read_and_few : (writes : ℕ) (before between after : FolderCounts) → writes ≤ MOST_FILES
    → Makes 1 0 before between → Makes 0 writes between after
    → MakesAtMost 1 MOST_FILES before after
read_and_few writes before between after few first second =
    record {
      read = 1;
      written = writes;
      few_reads = omega arith;
      few_writes = few;
      makes = read_and_writes writes before between after first second;
    }

-- what holds of any outcome holds where memory is wanting
pub on_memory : {A P : Type 0} (outcome : Result A Failure) → P
    → IfErr outcome (λ e. e ≡ Memory → P)
on_memory (Ok value) p = tt
on_memory (Err e) p = λ is. p
