use Rattle.par_frame_forms.specs.Reading.{read_types}
use Rattle.par_given_frames.proofs.Repeated.{with_front}
use Rattle.std.proofs.Common.{◌≡◌, ◌-◌}
use Rattle.par_given_frames.proofs.form_reader.place_types.Given as goal

abbrev pub invariant-loop : goal.invariant-loop
invariant-loop l =
    with_front l.types (read_types (l.many - l.counter) l.rest) ≡ read_types l.many l.bytes
