-- What a throw comes to.
use Rattle.std.specs.Prelude.{◌≡◌, ℕ, if◌then◌else◌, List, [], Option, Some, None}
use Rattle.par_class.specs.declared.file.ClassFile.{ClassFile}
use Rattle.par_values.specs.declared.value.MVal.{MVal}
use Rattle.par_values.specs.Areas.{Areas, class_named}
use Rattle.par_values.specs.Effects.{ThrowsObject}
use Rattle.par_method_area.specs.par_step_laws.Classes.{class_names}
use Rattle.par_method_area.specs.par_step_laws.Handlers.{caught, is_lost, is_roomless}
use Rattle.par_method_area.specs.par_step_laws.Methods.{method_name}
use Rattle.par_method_area.specs.par_step_laws.State.{Frame}
use Rattle.par_method_area.specs.par_step_laws.Step.{Turn, IsBad, handlers, number_of_class}
use Rattle.par_method_area.specs.par_step_laws.Step.{thrown_class, throws}
use Rattle.par_method_area.specs.par_step_laws.Step.{throws_next}
use Rattle.par_stack.specs.declared.point.Point.{Point}
use Rattle.par_stack.specs.Frames as stack
use Rattle.par_method_area.specs.par_actions.Done.{lesser}
use Rattle.par_unwinding.specs.Shown.{frames_of}
use Rattle.par_unwinding.specs.Landing.{Lands}
use Rattle.par_unwinding.specs.declared.landings.Landing.{Landing}

-- the least reason against a throw that leaves these frames, against which this one stands too
abbrev pub landing_reason : List ClassFile → List Frame → Option ℕ → Option ℕ
landing_reason files left other =
    lesser
    (if is_roomless files left then Some 3 else (if is_lost files left then Some 5 else None))
    other

-- bad code at a point
abbrev pub bad_at : List ClassFile → Point → ℕ → Turn
bad_at files p r =
    IsBad (class_named (class_names files) p.class) (method_name files p.class p.method) p.at r

-- what it comes to where no reason stands against it
abbrev pub unless : List ClassFile → Point → Option ℕ → Turn → Turn
unless files p (Some r) turn = bad_at files p r
unless files p None turn = turn

-- An object is thrown from the first of these frames.
abbrev pub throw_of : List ClassFile → Point → Option ℕ → MVal → List Frame → Areas → Turn
throw_of files p other v frames a =
    let left = handlers files (thrown_class files (ThrowsObject v)) frames in
    unless files p (landing_reason files left other) (throws files v (number_of_class v) frames a)

-- The next object of a class is made and thrown.
abbrev pub throw_next_of : List ClassFile → Point → Option ℕ → (class : ℕ) → List Frame → Areas
    → Turn
throw_next_of files p other class frames a =
    unless files p (landing_reason files (handlers files (Some class) frames) other)
    (throws_next files class frames a)

-- Where an exception of a class goes from some frames, as it was looked for.
abbrev pub IsLanding : List ClassFile → ℕ → List stack.Frame → Option Landing → Type 0
IsLanding files thrown frames None = caught files thrown (frames_of frames) ≡ []
IsLanding files thrown frames (Some l) = Lands files thrown frames l
