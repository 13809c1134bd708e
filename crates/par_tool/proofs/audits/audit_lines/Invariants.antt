use Rattle.std.proofs.Common.{◌≡◌, map, take}
use Rattle.par_tool.specs.Spots.{IsSpot}
use Rattle.par_tool.specs.Audits.{release_text}
use Rattle.par_tool.specs.Lines.{texts_of}
use Rattle.par_tool.proofs.audits.audit_lines.Given as goal

abbrev pub invariant-loop-release : goal.invariant-loop-release
invariant-loop-release l =
    IsSpot l.source l.spot
    × (texts_of l.lines.items ≡ map (release_text l.source) (take l.release-index l.found))
