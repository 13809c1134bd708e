-- Where the classes and members of a program stand, once some of its class files are loaded.
use Rattle.std.specs.Prelude.{ℕ, suc, ◌+◌, nat_lt, Bool, ◌&&◌, ◌||◌, if◌then◌else◌, List}
use Rattle.std.specs.Prelude.{Option, Some, None, length, is_some, slice_get}
use Rattle.std.specs.Option.{unwrap_or}
use Rattle.par_typed.specs.declared.table.Table.{Table}
use Rattle.par_typed.specs.Plain.{Body}
use Rattle.par_typed.specs.Members.{channels_in, field_at, channel_at}
use Rattle.par_class.specs.declared.file.ClassFile.{ClassFile}
use Rattle.par_class.specs.declared.file.FieldFile.{FieldFile}
use Rattle.par_match_laws.specs.par_link.Named.{class_place}
use Rattle.par_match_laws.specs.par_step_laws.Fields.{field_place, lock_place}
use Rattle.par_code_form.specs.Named.{class_word}
use Rattle.par_source_code_laws.specs.par_evaluation_laws.Laid.{Layout}
use Rattle.par_compile_laws.specs.Files.{FIRST_DECLARED}
use Rattle.par_source_code_laws.specs.Methods.{meth_at, is_ordinary, static_type}
use Rattle.par_typed.specs.Members.{class_is_exception}
use Rattle.par_source_code_laws.specs.Methods.{own_type}
use Rattle.par_source_code_laws.specs.Methods.{is_input, is_output}

-- how many locks a machine has a place for
abbrev pub LOCKS : ℕ
LOCKS = 256

-- the place of a field of the file at a place; any where there is none
abbrev pub spot_of : List ClassFile → ℕ → ClassFile → ℕ → Option FieldFile → ℕ
spot_of files n file f None = 0
spot_of files n file f (Some field) = field_place files n file f field

abbrev pub spot_in : List ClassFile → ℕ → ℕ → Option ClassFile → ℕ
spot_in files n f None = 0
spot_in files n f (Some file) = spot_of files n file f (slice_get file.fields f)

module _ (files : List ClassFile) (table : Table) where
  -- the place of the file of a class
  abbrev pub file_place : ℕ → Option ℕ
  file_place c = class_place files (class_word table c)

  abbrev pub is_loaded : ℕ → Bool
  is_loaded c = is_some (file_place c)

  -- the number of a class: the place of its file, and behind the files where it has none, as the
  -- two exceptions that every program has
  abbrev pub number_of : ℕ → ℕ
  number_of c = unwrap_or (file_place c) (length files + c)

  -- the place of a field
  abbrev pub spot : ℕ → ℕ → ℕ
  spot c f = spot_in files (number_of c) f (slice_get files (number_of c))

  -- what is said of a class that is loaded
  abbrev pub if_loaded : {A : Type 0} → ℕ → Option A → Option A
  if_loaded c said = if is_loaded c then said else None

  -- the place of its initializer
  abbrev pub init_place : ℕ → Option ℕ
  init_place c = if is_loaded c then Some 0 else None

  -- The names of a class that is not loaded stand in descriptors alone, so nothing is said of it.
  abbrev pub layout_of : List Body → Layout
  layout_of bodies = record {
    number = number_of;
    static_at = spot;
    field_at = spot;
    lock_at = lock_place files;
    method_at = λ c i. suc (length (channels_in (slice_get table.classes c)) + i);
    init_at = init_place;
    is_made = λ c. is_loaded c && is_ordinary (slice_get table.classes c);
    is_thrown = λ c. (is_loaded c || nat_lt c FIRST_DECLARED)
        && class_is_exception (slice_get table.classes c);
    static = λ c f. if_loaded c (static_type (field_at table c f));
    own = λ c f. if_loaded c (own_type (field_at table c f));
    is_input = λ c k. is_loaded c && is_input (channel_at table c k);
    is_output = λ c k. is_loaded c && is_output (channel_at table c k);
    is_lock = λ l. nat_lt l LOCKS;
    method = λ c i. if_loaded c (meth_at table bodies c i);
  }
