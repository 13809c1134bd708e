-- What is known of linked class files.
use Rattle.std.specs.Prelude.{◌≡◌, ℕ, zero, suc, ◌<◌, ◌≤◌, ◌^◌, List, length, map, Option, Some}
use Rattle.std.specs.Prelude.{None, slice_get}
use Rattle.std.specs.List.{All}
use Rattle.std.specs.Option.{option_map_or, unwrap_or}
use Rattle.par_index.specs.par_base.Names.{IsName}
use Rattle.par_single.specs.par_pool.Entries.{entry_at}
use Rattle.par_single.specs.par_class.declared.file.ClassFile.{ClassFile}
use Rattle.par_single.specs.Members.{own_name}
use Rattle.par_references.specs.declared.entry.Declared.{Declared}
use Rattle.par_references.specs.declared.entry.Named.{Named}
use Rattle.par_references.specs.declared.entry.Named.TheVariants.{Nothing}
use Rattle.par_link.specs.Channels.{AreSpread}
use Rattle.par_references.specs.Conditions.{IsSmall}
use Rattle.par_references.specs.Named.{named_by, names_of}
use Rattle.par_link.specs.Order.{first_broken}

-- what an index of the constant pool of one of the files names
abbrev pub named_in : List ClassFile → Option ClassFile → ℕ → Named
named_in files None index = Nothing
named_in files (Some file) index =
    option_map_or (named_by files file.pool.entries) (entry_at file.pool.entries index) Nothing

abbrev pub named_at : List ClassFile → ℕ → ℕ → Named
named_at files class index = named_in files (slice_get files class) index

-- the same, where it is known what each constant of the pool names
abbrev pub name_at : List Named → ℕ → Named
name_at names zero = Nothing
name_at names (suc place) = unwrap_or (slice_get names place) Nothing

-- there are few files of named classes, and no rule is broken
pub record AreLinked (files : List ClassFile) : Type 0 where
  pub few : length files ≤ 128
  pub small : All IsSmall files
  pub spelled : All (λ file. IsName (own_name file)) files
  pub unbroken : first_broken files ≡ None

-- no rule is broken, what each entry names is known, and so is where each input channel stands
pub record IsLinked (files : List ClassFile) (names : List (List Named))
    (buckets : List (List Declared)) : Type 0 where
  pub few : length files < 2 ^ 16
  pub small : All IsSmall files
  pub spelled : All (λ file. IsName (own_name file)) files
  pub unbroken : first_broken files ≡ None
  pub named : names ≡ map (names_of files) files
  pub spread : AreSpread files buckets
