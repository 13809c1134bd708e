use Rattle.std.proofs.Common.{◌≡◌, map, take}
use Rattle.par_code_form.specs.Named.{words_of}
use Rattle.par_code_form.specs.Frames.{slot}
use Rattle.par_erase.specs.Shown.{table_of}
use Rattle.par_code.proofs.draft.slots.Given as goal

-- those that were gone over
abbrev pub invariant-loop-ty : goal.invariant-loop-ty
invariant-loop-ty l = l.found ≡ map (slot (words_of (table_of l.plain))) (take l.ty-index l.types)
