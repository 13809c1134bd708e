-- How many arguments the descriptors of a constant pool have, by the indices of their texts.
use Rattle.std.specs.Prelude.{◌≡◌, ℕ, ◌+◌, ◌<◌, ◌^◌, if◌then◌else◌, List, length, map, slice_get}
use Rattle.std.specs.List.{All}
use Rattle.std.specs.Option.{unwrap_or}
use Rattle.par_pool.specs.declared.constant.Constant.{Constant}
use Rattle.par_class.specs.declared.file.MethodFile.{MethodFile}
use Rattle.par_single.specs.Descriptors.{Text}
use Rattle.par_single.specs.Links.{signature_said}
use Rattle.par_single.specs.Members.{is_static}
use Rattle.par_frames.specs.par_link.Placed.{pool_texts}

-- the number of arguments that a text says, none where it is no descriptor of a method
abbrev pub takes_many : Text → ℕ
takes_many text = length (signature_said text).takes

-- a receiver can be counted with them
abbrev pub IsFew : ℕ → Type 0
IsFew many = many + 1 < 2 ^ 63

-- of each text
pub record AreCounts (pool : List Constant) (counts : List ℕ) : Type 0 where
  pub counted : counts ≡ map takes_many (pool_texts pool)
  pub few : All IsFew counts

abbrev pub count_in : List ℕ → ℕ → ℕ
count_in counts index = unwrap_or (slice_get counts index) 0

-- with the receiver
abbrev pub given_in : List ℕ → MethodFile → ℕ
given_in counts m =
    if is_static m.access then count_in counts m.descriptor else count_in counts m.descriptor + 1
