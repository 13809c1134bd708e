use Rattle.std.proofs.Common.{◌≡◌, ◌++◌, length, map}
use Rattle.std.specs.List.{AllByRecursion}
use Rattle.par_frame_forms.specs.Spelled.{spelled_all}
use Rattle.par_frames.specs.Room.{Ascend}
use Rattle.par_frames.specs.Forms.{IndexedFits, forms_from}
use Rattle.par_frames.proofs.forms.put_frames.Given as goal

abbrev pub invariant-loop-rest : goal.invariant-loop-rest
invariant-loop-rest l =
    Ascend l.next (map (λ f. f.offset) l.rest) × AllByRecursion IndexedFits l.rest
    × (l.out.items ++ spelled_all (forms_from l.next l.earlier l.rest)
    ≡ l.initial.out.items ++ spelled_all (forms_from l.from l.listed l.frames))

abbrev pub decreases-loop-rest : goal.decreases-loop-rest
decreases-loop-rest l = length l.rest
