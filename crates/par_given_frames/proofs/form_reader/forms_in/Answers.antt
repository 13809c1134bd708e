use Rattle.std.proofs.Common.{arith, refl}
use Rattle.par_frame_forms.specs.Reading.{read_form, read_forms}
use Rattle.par_given_frames.specs.Reads.{seen}
use Rattle.par_given_frames.proofs.Repeated.{Repeats, length-many}
use Rattle.par_given_frames.proofs.form_reader.forms_in.Goals as goal

by : Repeats read_form read_forms
by = record { none = λ bytes. refl; more = λ n bytes. refl }

pub returns-clause-few : goal.returns-clause-few
returns-clause-few c =
    omega (
      arith,
      length-many read_form read_forms by c.in_ok-many.many c.in_ok-many.rest.now
          (seen c.in_ok-forms.forms c.in_ok-forms.rest.now) c.in_ok-forms.ensures,
      c.in_ok-many.ensures.few,
    )
