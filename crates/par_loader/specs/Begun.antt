-- What is known of the class files of a program: their methods have code, and the run begins with
-- the static method `main` of the class that was asked for.
use Rattle.std.specs.Prelude.{◌≡◌, ℕ, false, List, Some, IsTrue, is_some, slice_get}
use Rattle.par_class.specs.declared.file.MethodFile.{MethodFile}
use Rattle.par_class.specs.declared.file.ClassFile.{ClassFile}
use Rattle.par_class.specs.Spelling.{is_native}
use Rattle.par_single.specs.Members.{own_name, method_place}
use Rattle.par_single.specs.Described.{main_member, method_in, is_begun_with}
use Rattle.par_loader.specs.Reads.{Text}

-- each method of these files that is not native has code
abbrev pub AreCoded : List ClassFile → Type 0
AreCoded files =
    (class place : ℕ) (file : ClassFile) (m : MethodFile) → slice_get files class ≡ Some file
    → slice_get file.methods place ≡ Some m → is_native m.access ≡ false → IsTrue (is_some m.code)

-- The class of this name comes first, and its method `main` of no arguments and no result is static
-- and not native.
pub record BeginsMain (main : Text) (files : List ClassFile) : Type 0 where
  pub file : ClassFile
  pub first : slice_get files 0 ≡ Some file
  pub own : own_name file ≡ main
  pub begun : IsTrue (is_begun_with (method_in file (method_place file (main_member main))))
