-- The rules that linked class files keep, and where each is broken first.
use Rattle.std.specs.Prelude.{ℕ, suc, Bool, true, false, not, ◌&&◌, nat_lt, List, length, Option}
use Rattle.std.specs.Option.{option_map}
use Rattle.std.specs.List.{position}
use Rattle.par_single.specs.par_pool.declared.constant.Constant.{Constant}
use Rattle.par_single.specs.par_pool.declared.constant.Constant.TheVariants as constant
use Rattle.par_single.specs.par_class.declared.file.ClassFile.{ClassFile}
use Rattle.par_single.specs.Described.{is_field_right, is_method_right}
use Rattle.par_references.specs.declared.entry.Named.{Named}
use Rattle.par_references.specs.declared.entry.Named.TheVariants.{Nothing}
use Rattle.par_link.specs.declared.sort.Sort.{Sort}
use Rattle.par_link.specs.declared.sort.Sort.TheVariants as sort
use Rattle.par_references.specs.Firsts.{first_repeated}
use Rattle.par_references.specs.Named.{is_same, fields_of, methods_of, named_by}
pub use Rattle.par_references.specs.Twice.{earlier, repeated_class}
use Rattle.par_link.specs.Stops.{is_unlisted, is_cut, first_stop}

-- ---- the list

-- 45: there are at most 128 files
abbrev pub are_too_many : List ClassFile → Bool
are_too_many files = nat_lt 128 (length files)

-- 43: no class has a name that is taken, or that of an earlier file: `repeated_class`

-- ---- a file

-- 43: no field has the name and the descriptor of an earlier one, and no method those of an
-- earlier method
abbrev pub repeated_field : ClassFile → Option ℕ
repeated_field file = first_repeated is_same (fields_of file)

abbrev pub repeated_method : ClassFile → Option ℕ
repeated_method file = first_repeated is_same (methods_of file)

-- 44: fields, methods and channels have the names and the descriptors that they need
abbrev pub wrong_field : ClassFile → Option ℕ
wrong_field file = position (λ f. not (is_field_right file.pool.entries f)) file.fields

abbrev pub wrong_method : ClassFile → Option ℕ
wrong_method file = position (λ m. not (is_method_right file.pool.entries m)) file.methods

-- 40, 41, 42: a class, a field or a method that is named is there
unfoldable pub is_of : Sort → Constant → Bool
is_of sort.Class (constant.Class name) = true
is_of sort.Field (constant.Field class member) = true
is_of sort.Method (constant.Method class member) = true
is_of sort c = false

abbrev pub is_nothing : Named → Bool
is_nothing Nothing = true
is_nothing _ = false

abbrev pub is_absent : Sort → List ClassFile → List Constant → Constant → Bool
is_absent sort files entries c = is_of sort c && is_nothing (named_by files entries c)

abbrev pub absent : Sort → List ClassFile → ClassFile → Option ℕ
absent sort files file =
    option_map suc (position (is_absent sort files file.pool.entries) file.pool.entries)

-- 20: each opcode of the walk through a method's code is listed
abbrev pub unlisted : ClassFile → Option ℕ
unlisted file = first_stop is_unlisted file.methods

-- 21: the operands of each end within the code
abbrev pub cut : ClassFile → Option ℕ
cut file = first_stop is_cut file.methods
