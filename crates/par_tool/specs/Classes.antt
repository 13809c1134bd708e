-- What is said of class files and input files: to run them.
use Rattle.std.specs.Prelude.{◌≡◌, ℕ, suc, ◌⊎◌, List, All, Option}
use Rattle.par_io.specs.Causes.{FolderCounts, Makes, Files}
use Rattle.par_values.specs.declared.inputs.Inputs.{Inputs}
use Rattle.par_values.specs.Ran.{Ran}
use Rattle.par_class.specs.declared.file.ClassFile.{ClassFile}
use Rattle.par_link.specs.Inputs.{first_misfit}
use Rattle.par_loader.specs.declared.error.Unloaded.{Unloaded}
use Rattle.par_loader.specs.declared.error.Unloaded.TheVariants as unloaded
use Rattle.par_loader.specs.Reads.{Classes, AreOf}
use Rattle.par_loader.specs.Loaded.{Loaded, whole, Load}
use Rattle.par_loader.specs.Judged.{judged}
use Rattle.par_loader.specs.Ends.{Unended, IsRead}
use Rattle.par_loader.specs.Begun.{AreCoded, BeginsMain}
use Rattle.par_framed_program.specs.Framed.{AreFramed, IsUnframed}
use Rattle.par_machine.specs.declared.machine.Machine.{Machine}
use Rattle.par_machine.specs.Machine.{files_of, state_of, steps_of}
use Rattle.par_step_laws.specs.State.{start}
use Rattle.par_step_laws.specs.Run.{class_number, machine_run}
use Rattle.par_inputs.specs.declared.read.TheConstants.{LONGEST_INPUTS}
use Rattle.par_tool.specs.declared.answer.Answer.{Answer}
use Rattle.par_tool.specs.declared.answer.Answer.TheVariants.{Absent, ReadFault, TooLong, BadClass}
use Rattle.par_tool.specs.declared.answer.Answer.TheVariants.{BadInputs}
use Rattle.par_tool.specs.Given.{AreInputs, HasBadLine}
use Rattle.par_tool.specs.Outside.{Text, NotRead}

-- the end of loading and linking, and how many files were asked for
abbrev pub ends_so : Load → ℕ → Loaded → Type 0
ends_so load reads end = load ≡ record { reads = reads; end = end }

-- These are the class files of a class, which link; so many files are asked for.
pub record AreLinked (files : Option Files) (main : Text) (reads : ℕ) (all : List ClassFile)
    : Type 0 where
  pub classes : Classes
  pub of : AreOf files classes
  pub links : ends_so (judged classes main) reads (whole all)

-- What is known of class files that were loaded: each is spelled by what was read where its class
-- was asked for, each method that is not native has code, each method of a file of version 51 has
-- frames, and the run begins with the static method `main` of the class.
pub record AreLoaded (files : Option Files) (main : Text) (all : List ClassFile) : Type 0 where
  pub read : All (IsRead files) all
  pub coded : AreCoded all
  pub framed : AreFramed all
  pub begins : BeginsMain main all

-- The class files of a class are not had, or do not link; or memory is wanting for them. No more
-- files are asked for than there are to ask for.
abbrev pub IsUnlinked : Option Files → (before after : FolderCounts) → (main : Text) → Unloaded
    → Type 0
IsUnlinked files before after main e =
    (classes : Classes) × AreOf files classes
    × Unended (ends_so (judged classes main)) (judged classes main).reads before after e

-- Why no run begins, and how many files were read.
module _ (files : Option Files) (before after : FolderCounts) (main inputs : Text) where
  -- they link, and this method of this class is the first that has no frames
  abbrev pub LacksFrames : Text → (number value : ℕ) → Type 0
  LacksFrames class number value =
      (reads : ℕ) × Makes reads 0 before after
      × ((all : List ClassFile) × AreLinked files main reads all
      × IsUnframed all class number value)

  -- they link and have frames, the input file was asked for behind them, and this holds of them
  abbrev pub HasLinked : (List ClassFile → Type 0) → Type 0
  HasLinked P =
      (reads : ℕ) × Makes (suc reads) 0 before after
      × ((all : List ClassFile) × AreLinked files main reads all × AreFramed all × P all)

  -- they link and have frames, and the input file was not had
  abbrev pub LacksInputs : Answer → Type 0
  LacksInputs answer = HasLinked (λ all. NotRead files before after LONGEST_INPUTS inputs answer)

  abbrev pub NotRun : Answer → Type 0
  NotRun Absent = IsUnlinked files before after main unloaded.Absent ⊎ LacksInputs Absent
  NotRun TooLong = IsUnlinked files before after main unloaded.TooLong ⊎ LacksInputs TooLong
  NotRun ReadFault = IsUnlinked files before after main unloaded.Failed ⊎ LacksInputs ReadFault
  NotRun (BadClass class number value) =
      IsUnlinked files before after main (unloaded.BadClass class number value)
      ⊎ LacksFrames class number value
  NotRun (BadInputs number) = HasLinked (λ all. HasBadLine (first_misfit all) files inputs number)
  NotRun answer = ⊥

  -- memory is wanting before the input file is asked for, or behind that
  abbrev pub LacksMemory : Type 0
  LacksMemory =
      IsUnlinked files before after main unloaded.Memory ⊎ HasLinked (λ all. Unit {0})

-- The run of the class on its inputs, at most so many instructions; so many files are asked for
-- before the input file.
pub record IsRunOf (files : Option Files) (main inputs : Text) (steps reads : ℕ) (ran : Ran)
    : Type 0 where
  pub all : List ClassFile
  pub lists : Inputs
  pub linked : AreLinked files main reads all
  pub loaded : AreLoaded files main all
  pub given : AreInputs (first_misfit all) files inputs lists
  pub is_run : ran ≡ machine_run all main lists steps

-- A machine stands before the first instruction of the class on its inputs.
pub record IsStarted (files : Option Files) (main inputs : Text) (reads : ℕ) (m : Machine)
    : Type 0 where
  pub all : List ClassFile
  pub lists : Inputs
  pub linked : AreLinked files main reads all
  pub loaded : AreLoaded files main all
  pub given : AreInputs (first_misfit all) files inputs lists
  pub runs : files_of m ≡ all
  pub begun : state_of m ≡ start all (class_number all main) lists
  pub fresh : steps_of m ≡ 0

-- the same, with the reads that were made
abbrev pub Starts : Option Files → (before after : FolderCounts) → (main inputs : Text) → Machine
    → Type 0
Starts files before after main inputs m =
    (reads : ℕ) × IsStarted files main inputs reads m × Makes (suc reads) 0 before after
