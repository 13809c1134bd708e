use Rattle.std.proofs.Common.{◌≡◌, map, take}
use Rattle.par_filling_lines.specs.Texts.{field_text}
use Rattle.par_filling_lines.proofs.lines.filling_lines.Given as goal

-- the lines of the fields so far
abbrev pub invariant-loop-field : goal.invariant-loop-field
invariant-loop-field l =
    map (λ line. line.items) l.lines.items
    ≡ map (field_text l.table) (take l.field-index l.fields)
