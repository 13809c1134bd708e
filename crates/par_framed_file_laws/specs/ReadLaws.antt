-- From the attributes of placed code frames are read that tell the same as those of the code.
use Rattle.std.specs.Prelude.{◌≡◌, ◌<◌, ◌^◌, true, length}
use Rattle.std.specs.List.{AllByRecursion}
use Rattle.par_class.specs.declared.file.CodeAttr.{CodeAttr}
use Rattle.par_class.specs.declared.file.MethodFile.{MethodFile}
use Rattle.par_class.specs.declared.file.ClassFile.{ClassFile}
use Rattle.par_code_form.specs.declared.labelled.Labelled.{Labelled}
use Rattle.par_compile_laws.specs.Framed.{kinds_of, frames_of, IsPlacedWith}
use Rattle.par_given_frames.specs.par_frames.Given.{start_of, frames_given}
use Rattle.par_given_frames.specs.Laws.{AreNamedKinds, IsNamedFrame, AreReadAs}

-- with a method whose receiver and arguments are those of the code
abbrev pub PlacedFramesAreRead : Type 0
PlacedFramesAreRead =
    (file : ClassFile) (m : MethodFile) (code : Labelled) (attr : CodeAttr)
    → (p : IsPlacedWith true file.pool.entries code attr) → start_of file m ≡ kinds_of code.start
    → AreNamedKinds (kinds_of code.start)
    → AllByRecursion IsNamedFrame (frames_of code p.placed_.indices)
    → length (frames_of code p.placed_.indices) < 2 ^ 16
    → AreReadAs (kinds_of code.start) (frames_of code p.placed_.indices)
    (frames_given file m attr.attributes)
