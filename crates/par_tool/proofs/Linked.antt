-- Class files that are linked are run.
use Rattle.std.proofs.Common.{◌≡◌, ℕ, suc, ◌+◌, List, Option, Some, Ok, Err, slice_get, sym, ap}
use Rattle.std.proofs.Common.{subst, ◌∙◌, arith, inl, inr}
use Rattle.par_io.specs.Causes.{FolderCounts, Makes, NoneFalls, Files}
use Rattle.par_values.specs.declared.inputs.Inputs.{Inputs}
use Rattle.par_class.specs.declared.file.ClassFile.{ClassFile}
use Rattle.par_single.specs.Members.{own_name}
use Rattle.par_link.specs.Inputs.{first_misfit}
use Rattle.par_step_laws.specs.State.{start}
use Rattle.par_machine.specs.declared.machine.Machine.{Machine}
use Rattle.par_machine.specs.Machine.{files_of, state_of, steps_of}
use Rattle.par_loader.specs.declared.error.Unloaded.{Unloaded}
use Rattle.par_loader.specs.Ends.{Judges}
use Rattle.par_loader.proofs.Counting.{makes_both, none_falls}
use Rattle.par_tool.specs.declared.reads.Failure.{Failure}
use Rattle.par_framed_program.specs.Framed.{AreFramed, Framed}
use Rattle.par_tool.specs.Failures.{IsFailure, failure_of}
use Rattle.par_tool.specs.Given.{AreInputs, IsUngiven}
use Rattle.par_tool.specs.Outside.{Text}
use Rattle.par_tool.specs.Classes.{AreLinked, AreLoaded, NotRun, LacksMemory, Starts}
use Rattle.par_tool.proofs.Beginning.{first_number}
use Rattle.par_tool.proofs.Loads.{linked_reads, frames_fail, inputs_fail}

-- class files that are linked
module _ (files : Option Files) (main name : Text) (first before between : FolderCounts)
    (all : List ClassFile) (behind : Makes 1 0 first before)
    (h : Judges files main before between (Ok all)) where
  links_all : AreLinked files main (suc h.2.0) all
  links_all = record { classes = h.0; of = h.1; links = h.2.2 }

  makes_linked : Makes (suc h.2.0) 0 first between
  makes_linked =
      let e : h.2.0 + 1 ≡ suc h.2.0 = omega arith in
      subst (λ (n : ℕ). Makes n 0 first between) e
      (makes_both 1 h.2.0 first before between behind h.2.1)

  -- a method has no frames
  pub unframed : (e : Unloaded) → Framed {A = Unit {0}} (λ _. AreFramed all) all (Err e)
      → IsFailure (NotRun files first between main name) (failure_of e)
  unframed e why =
      frames_fail files main name first between (suc h.2.0) all makes_linked links_all e why

  -- memory is wanting for what is told of a method without frames
  pub looked_wants : LacksMemory files first between main name
  looked_wants =
      inl (h.0, h.1, linked_reads h.0 main (suc h.2.0) all h.2.2 first between makes_linked)

-- behind which the input file was asked for
module _ (files : Option Files) (main name : Text) (first before between after : FolderCounts)
    (all : List ClassFile) (behind : Makes 1 0 first before)
    (h : Judges files main before between (Ok all)) (makes : Makes 1 0 between after) where
  linked_so : AreLinked files main (suc h.2.0) all
  linked_so = links_all files main name first before between all behind h

  makes_all : Makes (suc (suc h.2.0)) 0 first after
  makes_all =
      let e : 1 + suc h.2.0 ≡ suc (suc h.2.0) = omega arith in
      subst (λ (n : ℕ). Makes n 0 first after) e
      (makes_both (suc h.2.0) 1 first between after
      (makes_linked files main name first before between all behind h) makes)

  pub fails : NoneFalls first before → NoneFalls before between → AreFramed all
      → (failure : Failure)
      → IsFailure (IsUngiven (first_misfit all) files between after name) failure
      → IsFailure (NotRun files first after main name) failure
  fails fell falls framed failure unfit =
      inputs_fail files main name first between after (suc h.2.0) all makes_all
      (none_falls first before between fell falls) linked_so framed failure unfit

  pub wants : AreFramed all → LacksMemory files first after main name
  wants framed = inr (suc h.2.0, makes_all, (all, linked_so, framed, tt))

  pub starts : (f : ClassFile) → slice_get all 0 ≡ Some f → own_name f ≡ main
      → AreLoaded files main all → (m : Machine) (lists : Inputs)
      → AreInputs (first_misfit all) files name lists → files_of m ≡ all
      → state_of m ≡ start all 0 lists → steps_of m ≡ 0
      → Starts files first after main name m
  starts f is own loaded m lists given same begun fresh = (
    suc h.2.0,
    record {
      all = all;
      lists = lists;
      linked = linked_so;
      loaded = loaded;
      given = given;
      runs = same;
      begun = begun ∙ ap (λ (n : ℕ). start all n lists) (sym (first_number all f main is own));
      fresh = fresh;
    },
    makes_all,
  )
