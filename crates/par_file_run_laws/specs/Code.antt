-- The labelled code of the methods of loaded class files, by the place of the file and that of the
-- method in it.
use Rattle.std.specs.Prelude.{ℕ, List, [], Option, Some, None, slice_get}
use Rattle.std.specs.List.{position_or_len}
use Rattle.std.specs.Str.{bytes_eq}
use Rattle.par_typed.specs.declared.table.ClassInfo.{ClassInfo}
use Rattle.par_typed.specs.declared.table.Table.{Table}
use Rattle.par_typed.specs.Plain.{Body}
use Rattle.par_values.specs.Areas.{Name}
use Rattle.par_class.specs.declared.file.ClassFile.{ClassFile}
use Rattle.par_single.specs.Members.{own_name}
use Rattle.par_code_form.specs.declared.labelled.Labelled.{Labelled}
use Rattle.par_match_laws.specs.Labelled as matching
use Rattle.par_match_laws.specs.Naming.{to_run}
use Rattle.par_compile_laws.specs.Members.{Member, members}

-- the number of the class of a name
abbrev pub class_of : Table → Name → ℕ
class_of table name = position_or_len (λ class. bytes_eq name class.name) table.classes

abbrev pub no_code : Labelled
no_code = record {
  items = [];
  handlers = [];
  max_stack = 0;
  max_locals = 0;
  start = [];
  frames = [];
}

-- code, or none
abbrev pub code_or_none : Option Labelled → Labelled
code_or_none None = no_code
code_or_none (Some code) = code

abbrev pub code_of : Option Member → Labelled
code_of None = no_code
code_of (Some m) = code_or_none m.code

module _ (table : Table) (bodies : List Body) where
  abbrev pub members_of : ℕ → Option ClassInfo → List Member
  members_of c None = []
  members_of c (Some class) = members table bodies c class

  -- the methods of the class of a file
  abbrev pub members_in : Option ClassFile → List Member
  members_in None = []
  members_in (Some file) =
      let c = class_of table (own_name file) in members_of c (slice_get table.classes c)

  abbrev pub code_at : List ClassFile → ℕ → ℕ → Labelled
  code_at files n at = code_of (slice_get (members_in (slice_get files n)) at)

-- the code that a machine runs for these files
abbrev pub labelled_of : Table → List Body → List ClassFile → ℕ → ℕ → matching.Labelled
labelled_of table bodies files = to_run files (code_at table bodies files)
