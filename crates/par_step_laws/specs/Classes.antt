-- The classes of a program by their numbers: those of its files in the order of the files, and
-- behind them the two exceptions that every program has.
use Rattle.std.specs.Prelude.{ℕ, suc, ◌+◌, Bool, if◌then◌else◌, List, [], ◌∷◌, ◌++◌, length, codes}
use Rattle.std.specs.Str.{bytes_eq}
use Rattle.par_link.specs.par_class.declared.file.ClassFile.{ClassFile}
use Rattle.par_secrecy.specs.par_values.Areas.{Name}
use Rattle.par_link.specs.par_single.Members.{class_name_at, own_names}

-- the name of each class, as a run shows it
abbrev pub class_names : List ClassFile → List Name
class_names files =
    own_names files ++ codes "ArithmeticException" ∷ codes "NullPointerException" ∷ []

abbrev pub arithmetic_exception : List ClassFile → ℕ
arithmetic_exception files = length files

abbrev pub null_pointer_exception : List ClassFile → ℕ
null_pointer_exception files = length files + 1

-- the number of that exception of the two which has this name
abbrev pub exception_named : List ClassFile → Name → ℕ
exception_named files name =
    if bytes_eq name (codes "ArithmeticException") then arithmetic_exception files
    else null_pointer_exception files

-- whether the class of a file is one of exceptions
abbrev pub is_exception : ClassFile → Bool
is_exception file =
    bytes_eq (class_name_at file.pool.entries file.super_class) (codes "java/lang/Exception")

-- the numbers of the exceptions, where the first of these files has this number
unfoldable pub exceptions_from : ℕ → List ClassFile → List ℕ
exceptions_from class [] = class ∷ suc class ∷ []
exceptions_from class (file ∷ files) =
    if is_exception file then class ∷ exceptions_from (suc class) files
    else exceptions_from (suc class) files

abbrev pub exceptions : List ClassFile → List ℕ
exceptions files = exceptions_from 0 files
