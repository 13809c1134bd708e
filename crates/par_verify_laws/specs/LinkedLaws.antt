-- What frames are at linked class files, and what follows where they fit.
use Rattle.std.specs.Prelude.{◌≡◌, ℕ, ◌&&◌, Bool, List, [], Some, IsTrue, slice_get}
use Rattle.std.specs.List.{list_any}
use Rattle.par_instr.specs.declared.instr.Instr.{Instr}
use Rattle.par_class.specs.declared.file.Catch.{Catch}
use Rattle.par_class.specs.declared.file.MethodFile.{MethodFile}
use Rattle.par_class.specs.declared.file.ClassFile.{ClassFile}
use Rattle.par_loader.specs.Begun.{AreCoded}
use Rattle.par_values.specs.declared.inputs.Inputs.{Inputs}
use Rattle.par_values.specs.Areas.{Name}
use Rattle.par_kinds.specs.par_link.Linked.{AreLinked}
use Rattle.par_single.specs.Members.{is_static, is_method_of, own_name, method_place}
use Rattle.par_single.specs.Described.{main_member, method_in, is_begun_with}
use Rattle.par_kinds.specs.par_step_laws.Methods.{class_pool}
use Rattle.par_kinds.specs.par_step_laws.Run.{class_number, machine_run}
use Rattle.par_kinds.specs.par_step_laws.State.{main_place}
use Rattle.par_kinds.specs.Linked.{AllGiven, AllFit, act_at, result_of, caught_kind}
use Rattle.par_kinds.specs.Shapes.{act_of, shape_in, fields_in, methods_in}
use Rattle.par_kinds.specs.Shapes.{caught_in}
use Rattle.par_verify_laws.specs.Right.{AreRight}
use Rattle.par_verify_laws.specs.SoundLaws.{IsFine, MainRight}

-- the links of linked files say what is so
abbrev pub LinkedFilesAreRight : Type 0
LinkedFilesAreRight = (files : List ClassFile) → AreLinked files → AreCoded files → AreRight files

-- what an instruction asks and leaves at linked files is what the texts of its constant pool say
abbrev pub TextsTellActs : Type 0
TextsTellActs =
    (files : List ClassFile) → AreLinked files → (class method : ℕ) (i : Instr)
    → act_at files class method i
    ≡ act_of (result_of files class method)
    (shape_in (fields_in files) (methods_in files) (class_pool files class)) i

-- and so is the kind of what a handler takes
abbrev pub TextsTellHandlers : Type 0
TextsTellHandlers =
    (files : List ClassFile) → AreLinked files → (class : ℕ) (c : Catch)
    → caught_kind files class c ≡ caught_in (class_pool files class) c

-- a static method `main` without arguments and result
abbrev pub is_main : ClassFile → MethodFile → Bool
is_main file m = is_static m.access && is_method_of file.pool.entries (main_member []) m

-- where a class has one, runs begin in it
abbrev pub MainsAreRight : Type 0
MainsAreRight =
    (files : List ClassFile) (class : ℕ) (file : ClassFile) → AreLinked files → AreCoded files
    → slice_get files class ≡ Some file → IsTrue (list_any (is_main file) file.methods)
    → MainRight files class (main_place (slice_get files class))

-- The files link and are of a class with a `main` that a run begins with, and frames fit all their
-- methods: whatever the inputs and the bound, the run comes to no bad code.
abbrev pub FramesKeepFromBadCode : Type 0
FramesKeepFromBadCode =
    (files : List ClassFile) (given : AllGiven) (main : Name) (file : ClassFile) (inputs : Inputs)
    (m : ℕ) → AreLinked files → AreCoded files → AllFit files given
    → slice_get files (class_number files main) ≡ Some file
    → IsTrue (list_any (is_main file) file.methods)
    → IsFine (machine_run files main inputs m).ending

-- the same of the files of a program, whose first is that of the class that was asked for
abbrev pub FramesKeepProgramsFromBadCode : Type 0
FramesKeepProgramsFromBadCode =
    (files : List ClassFile) (given : AllGiven) (main : Name) (file : ClassFile) (inputs : Inputs)
    (m : ℕ) → AreLinked files → AreCoded files → AllFit files given → slice_get files 0 ≡ Some file
    → own_name file ≡ main
    → IsTrue (is_begun_with (method_in file (method_place file (main_member main))))
    → IsFine (machine_run files main inputs m).ending
