use Rattle.std.proofs.Common.{◌≡◌, map, take}
use Rattle.std.specs.List.{All}
use Rattle.par_actions.specs.par_lines.Lines.{channels_of}
use Rattle.par_method_area.specs.Channels.{named, IsShort}
use Rattle.par_method_area.proofs.channels.channels.Given as goal

abbrev pub invariant-loop-line : goal.invariant-loop-line
invariant-loop-line l =
    (map named l.channels.items ≡ channels_of (take l.line-index l.lines))
    × All IsShort l.channels.items
