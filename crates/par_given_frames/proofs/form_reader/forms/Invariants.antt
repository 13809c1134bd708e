use Rattle.par_frame_forms.specs.Reading.{read_forms}
use Rattle.par_given_frames.proofs.Repeated.{with_front}
use Rattle.std.proofs.Common.{◌≡◌, ◌-◌}
use Rattle.par_given_frames.proofs.form_reader.forms.Given as goal

abbrev pub invariant-loop : goal.invariant-loop
invariant-loop l =
    with_front l.forms (read_forms (l.many - l.counter) l.rest) ≡ read_forms l.many l.bytes
