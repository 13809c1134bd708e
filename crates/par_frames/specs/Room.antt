-- Which frames an attribute and a pool have room for.
use Rattle.std.specs.Prelude.{ℕ, ◌+◌, ◌*◌, ◌<◌, ◌≤◌, ◌⊎◌, List, [], ◌∷◌, length, map, Contains}
use Rattle.par_frame_forms.specs.par_pool.declared.constant.Constant.{Constant}
use Rattle.par_frame_forms.specs.par_pool.Entries.{IsClassAt}
use Rattle.par_kinds.specs.par_values.Areas.{Name}
use Rattle.par_kinds.specs.declared.frame.PlacedFrame.{PlacedFrame}

-- how many entries a pool has room for beside those of classes
abbrev pub SPARE : ℕ
SPARE = 6

abbrev pub HasClass : List Constant → Name → Type 0
HasClass pool name = (index : ℕ) × IsClassAt pool index name

-- the pool has room for two entries for each different class that it lacks, and for so many more
pub record HasRoom (pool : List Constant) (spare : ℕ) (names : List Name) : Type 0 where
  pub missing : List Name
  pub covered : (name : Name) → Contains names name → Contains missing name ⊎ HasClass pool name
  pub room : length pool + 2 * length missing + spare < 65535

-- offsets ascend, from one on
abbrev pub Ascend : ℕ → List ℕ → Type 0
Ascend from [] = Unit {0}
Ascend from (at ∷ ats) = (from ≤ at) × (at < 65535) × Ascend (at + 1) ats

abbrev pub offsets : List PlacedFrame → List ℕ
offsets fs = map (λ f. f.offset) fs

-- few enough locals and operands
pub record IsShort (f : PlacedFrame) : Type 0 where
  pub locals : length f.frame.locals ≤ 65535
  pub stack : length f.frame.stack ≤ 65535
