-- Where the input channels of class files are looked up.
use Rattle.std.specs.Prelude.{◌≡◌, ℕ, ◌<◌, ◌%◌, Bool, false, ◌&&◌, List, [], length, IsTrue, Some}
use Rattle.std.specs.Prelude.{slice_get, slice_index_or}
use Rattle.std.specs.Hash.FoldHasher as folding
use Rattle.std.specs.List.{Contains}
use Rattle.std.specs.Option.{option_map_or}
use Rattle.std.specs.Str.{bytes_eq}
use Rattle.par_single.specs.par_class.declared.file.ClassFile.{ClassFile}
use Rattle.par_single.specs.par_class.declared.file.MethodFile.{MethodFile}
use Rattle.par_single.specs.Descriptors.{Text}
use Rattle.par_single.specs.Members.{text_at, own_name}
use Rattle.par_references.specs.declared.entry.Declared.{Declared}
use Rattle.par_link.specs.Inputs.{is_input, is_input_of}

-- whether the method at a place of a file is an input channel of this class and name
abbrev pub is_channel_in : Text → Text → ℕ → ClassFile → Bool
is_channel_in class channel place file =
    bytes_eq (own_name file) class
    && option_map_or (is_input_of file.pool.entries channel) (slice_get file.methods place) false

-- whether this is the place of an input channel of this class and name
abbrev pub is_channel : List ClassFile → Text → Text → Declared → Bool
is_channel files class channel d =
    option_map_or (is_channel_in class channel d.place) (slice_get files d.class) false

-- the number by which the names of a class and of a channel are looked up
abbrev pub hash_of : Text → Text → ℕ
hash_of class channel =
    folding.finish (folding.write (folding.write folding.initial class) channel)

-- the bucket at a place
abbrev pub bucket_at : List (List Declared) → ℕ → List Declared
bucket_at buckets place = slice_index_or buckets place []

-- the bucket of these names
abbrev pub bucket_of : List (List Declared) → Text → Text → List Declared
bucket_of buckets class channel = bucket_at buckets (hash_of class channel % length buckets)

-- each bucket keeps what it has
pub record Keeps (old new : List (List Declared)) : Type 0 where
  pub many : length new ≡ length old
  pub kept : (place : ℕ) (d : Declared) →
      Contains (bucket_at old place) d → Contains (bucket_at new place) d

-- the first methods of a file, as many as this, stand in the buckets of their names where they are
-- input channels
abbrev pub AreIn : List (List Declared) → ℕ → ClassFile → ℕ → Type 0
AreIn buckets class file many =
    (place : ℕ) (m : MethodFile) → place < many → slice_get file.methods place ≡ Some m →
    IsTrue (is_input file.pool.entries m) →
    Contains (bucket_of buckets (own_name file) (text_at file.pool.entries m.name))
    (record { class = class; place = place })

-- each input channel of the files stands in the bucket of its names
abbrev pub AreSpread : List ClassFile → List (List Declared) → Type 0
AreSpread files buckets =
    (d : Declared) (class channel : Text) → IsTrue (is_channel files class channel d) →
    Contains (bucket_of buckets class channel) d
