-- Which class is the first that is there twice.
use Rattle.std.specs.Prelude.{ℕ, min, List, Option, Some, None}
use Rattle.std.specs.List.{position}
use Rattle.std.specs.Str.{bytes_eq}
use Rattle.par_single.specs.par_class.declared.file.ClassFile.{ClassFile}
use Rattle.par_single.specs.Members.{own_name, own_names}
use Rattle.par_single.specs.Described.{is_taken}
use Rattle.par_references.specs.Firsts.{first_repeated}

abbrev pub earlier : Option ℕ → Option ℕ → Option ℕ
earlier None place = place
earlier (Some place) None = Some place
earlier (Some place) (Some other) = Some (min place other)

-- the first file whose class has a name that is taken, or that of an earlier file
abbrev pub repeated_class : List ClassFile → Option ℕ
repeated_class files =
    earlier (position (λ file. is_taken (own_name file)) files)
    (first_repeated bytes_eq (own_names files))
