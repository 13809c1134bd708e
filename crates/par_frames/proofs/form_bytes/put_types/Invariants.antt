use Rattle.std.proofs.Common.{◌≡◌, ◌++◌, length}
use Rattle.par_frame_forms.specs.Spelled.{spelled_types}
use Rattle.par_frames.proofs.form_bytes.put_types.Given as goal

abbrev pub invariant-loop-rest : goal.invariant-loop-rest
invariant-loop-rest l =
    l.out.items ++ spelled_types l.rest ≡ l.initial.out.items ++ spelled_types l.types

abbrev pub decreases-loop-rest : goal.decreases-loop-rest
decreases-loop-rest l = length l.rest
