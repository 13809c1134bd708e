-- What follows where class files are verified.
use Rattle.std.specs.Prelude.{◌≡◌, ℕ, List, Some, IsTrue}
use Rattle.std.specs.List.{slice_get}
use Rattle.par_class.specs.declared.file.ClassFile.{ClassFile}
use Rattle.par_values.specs.declared.inputs.Inputs.{Inputs}
use Rattle.par_values.specs.Areas.{Name}
use Rattle.par_frames.specs.par_link.Linked.{AreLinked}
use Rattle.par_single.specs.Members.{own_name, method_place}
use Rattle.par_single.specs.Described.{main_member, method_in, is_begun_with}
use Rattle.par_frames.specs.par_step_laws.Run.{machine_run}
use Rattle.par_verify_laws.specs.SoundLaws.{IsFine}
use Rattle.par_loader.specs.Begun.{AreCoded}
use Rattle.par_verify_laws.specs.Verified.{AllFrames, AreVerified}

-- the files of a program, of which the first is that of the class that was asked for
abbrev pub VerifiedProgramsAreNeverBad : Type 0
VerifiedProgramsAreNeverBad =
    (files : List ClassFile) (all : AllFrames) (main : Name) (file : ClassFile) (inputs : Inputs)
    (m : ℕ) → AreLinked files → AreCoded files → AreVerified files all
    → slice_get files 0 ≡ Some file → own_name file ≡ main
    → IsTrue (is_begun_with (method_in file (method_place file (main_member main))))
    → IsFine (machine_run files main inputs m).ending
