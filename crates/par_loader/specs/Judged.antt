-- What is said of a class: its files are loaded and linked, and its own has a method to begin with.
use Rattle.std.specs.Prelude.{Bool, false, ◌&&◌, if◌then◌else◌, List, [], Option, Some, None}
use Rattle.std.specs.Prelude.{slice_get}
use Rattle.std.specs.List.{list_any}
use Rattle.par_pool.specs.declared.constant.Constant.{Constant}
use Rattle.par_class.specs.declared.file.ClassFile.{ClassFile}
use Rattle.par_class.specs.declared.file.MethodFile.{MethodFile}
use Rattle.par_single.specs.Members.{own_name, is_method_of, is_static}
use Rattle.par_single.specs.Described.{main_member}
use Rattle.par_link.specs.Order.{Broken, first_broken}
use Rattle.par_loader.specs.Reads.{Text, Classes}
use Rattle.par_loader.specs.Loaded.{Loaded, whole, refused, Load, loaded}

-- whether a method is a static `main` of no arguments and no result
abbrev pub is_main : List Constant → MethodFile → Bool
is_main entries m = is_static m.access && is_method_of entries (main_member []) m

-- whether the first file has one
abbrev pub has_main : Option ClassFile → Bool
has_main None = false
has_main (Some file) = list_any (is_main file.pool.entries) file.methods

abbrev pub begins : List ClassFile → Bool
begins files = has_main (slice_get files 0)

-- the name of the class of the file at a place
abbrev pub name_of : Option ClassFile → Text
name_of None = []
name_of (Some file) = own_name file

-- files that break a rule of linking are refused by it
abbrev pub unless_broken : Text → List ClassFile → Option Broken → Loaded
unless_broken main files (Some b) = refused (name_of (slice_get files b.class)) b.number b.index
unless_broken main files None = if begins files then whole files else refused main 42 0

-- files that are loaded are linked
abbrev pub linked : Text → Loaded → Loaded
linked main (whole files) = unless_broken main files (first_broken files)
linked main end = end

-- The files of a class, which link and have a method to begin with, or the first refusal.
abbrev pub judged : Classes → Text → Load
judged classes main =
    record {
      reads = (loaded classes main).reads;
      end = linked main (loaded classes main).end;
    }
