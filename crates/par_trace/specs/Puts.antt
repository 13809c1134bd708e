-- Lines that are all put.
use Rattle.std.specs.Prelude.{◌≡◌, List, Option, length}
use Rattle.std.specs.List.{concat}
use Rattle.par_io.specs.Causes.{SinkCounts, raised_by, appended}
use Rattle.par_event_lines.specs.Texts.{Text}

-- each line is put by one put, and no more is put
pub record ArePut (lines : List Text) (old new : Option Text) (before after : SinkCounts)
    : Type 0 where
  pub counted : after.puts ≡ raised_by (length lines) before.puts
  pub held : new ≡ appended old (concat lines)
