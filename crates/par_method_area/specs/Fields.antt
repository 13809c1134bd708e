-- Fields as they are told once.
use Rattle.std.specs.Prelude.{◌≡◌, ℕ, ◌+◌, Bool, if◌then◌else◌, List}
use Rattle.par_pool.specs.declared.constant.Constant.{Constant}
use Rattle.par_class.specs.declared.file.FieldFile.{FieldFile}
use Rattle.par_class.specs.declared.file.ClassFile.{ClassFile}
use Rattle.par_values.specs.Areas.{Name}
use Rattle.par_step_laws.specs.Fields.{is_shared, is_own, kind_of, many_of}
use Rattle.par_actions.specs.declared.fields.Field.{Field}
use Rattle.par_method_area.specs.Fits.{fit_of}

-- the place of a field behind so many static fields of a program and so many of an object
abbrev pub place_behind : (shared own : ℕ) → Bool → ℕ
place_behind shared own is_shared = if is_shared then shared else own

abbrev pub row_behind : List Name → List Constant → FieldFile → (shared own : ℕ) → Field
row_behind classes entries f shared own =
    record {
      is_static = is_shared f;
      fit = fit_of classes (kind_of entries f);
      place = place_behind shared own (is_shared f);
    }

-- The row is that of a field of a file, where the classes have these names and so many static
-- fields stand before those of the file.
abbrev pub IsFieldRow : List Name → (shared : ℕ) → ClassFile → ℕ → FieldFile → Field → Type 0
IsFieldRow classes shared file place f row =
    row ≡ row_behind classes file.pool.entries f (shared + many_of is_shared file place)
    (many_of is_own file place)
