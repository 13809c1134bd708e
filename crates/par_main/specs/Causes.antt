-- What is said of a status where neither the files nor the output tell what they hold.
use Rattle.std.specs.Prelude.{◌≡◌, ℕ, List, None}
use Rattle.std.specs.declared.string.String.{String}
use Rattle.std.specs.declared.alloc.Global.{Global}
use Rattle.par_io.specs.Causes.{FolderCounts, SinkCounts, untouched_folder, untouched_sink}
use Rattle.par_words.specs.declared.words.Which.{Which}
use Rattle.par_tool.specs.Answers.{Scene, Ends}

-- files that tell no content, of which no call was made before
abbrev pub untold : FolderCounts → Scene
untold after = record { files = None; later = None; before = untouched_folder; after = after }

-- A call with this status ends as the words say, for some counts of the files and of the output.
pub record HasCause (which : Which) (words : List (String Global)) (status : ℕ) : Type 0 where
  pub after : FolderCounts
  pub put : SinkCounts
  pub ends : Ends which words (untold after) status None None untouched_sink put

-- How a program ends: by what its words ask for, or because they could not be taken.
pub data IsEnd (which : Which) (status : ℕ) : Type 0 where
  answered : (words : List (String Global)) → HasCause which words status → IsEnd which status
  lacks_memory : status ≡ 7 → IsEnd which status
  lacks_words : status ≡ 16 → IsEnd which status
