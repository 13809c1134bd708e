-- What labelled code is in a class file (Java Virtual Machine Specification, Java SE 7, section
-- 4.7.3).
use Rattle.std.specs.Prelude.{◌≡◌, ℕ, zero, suc, ◌+◌, ◌==◌, ℤ, pos, ◌-ℤ◌, Bool, false}
use Rattle.std.specs.Prelude.{if◌then◌else◌, List, [], ◌∷◌, length, Option, Some, None}
use Rattle.std.specs.List.{flat_map, AllZip, AllByRecursion}
use Rattle.par_values.specs.par_instr.declared.instr.Instr.{Instr}
use Rattle.par_values.specs.par_instr.Spelling.{spelling, IsSpelled}
use Rattle.par_class.specs.par_pool.declared.constant.Constant.{Constant}
use Rattle.par_class.specs.par_pool.Entries.{IsClassAt}
use Rattle.par_class.specs.declared.file.Catch.{Catch}
use Rattle.par_class.specs.declared.file.CodeAttr.{CodeAttr}
use Rattle.par_code_form.specs.declared.labelled.Labelled.{Labelled}
use Rattle.par_code_form.specs.declared.item.Item.{Item}
use Rattle.par_code_form.specs.declared.item.Item.TheVariants.{Label, Jump}
use Rattle.par_code_form.specs.declared.labelled.Handler.{Handler}
use Rattle.par_code_form.specs.Instructions.{instruction}
use Rattle.par_code_form.specs.PoolNames.{full_name, Names}

-- the bytes of an instruction, where there is one
abbrev pub bytes_of : Option Instr → List ℕ
bytes_of None = []
bytes_of (Some i) = spelling i

-- the numbers of an instruction fit their bytes
abbrev pub IsWritable : Option Instr → Type 0
IsWritable None = Unit {0}
IsWritable (Some i) = IsSpelled (spelling i) i

-- how many bytes an item has, whatever the distance that it branches
abbrev pub size : Item → ℕ → ℕ
size item index = length (bytes_of (instruction index (pos 0) item))

-- whether an item is this label
abbrev pub is_label : ℕ → Item → Bool
is_label l (Label k) = k == l
is_label l _ = false

-- how many bytes stand before a label, by the indices of what the items name
abbrev pub offset_of : List Item → List ℕ → ℕ → ℕ
offset_of [] indices l = 0
offset_of (item ∷ items) [] l = 0
offset_of (item ∷ items) (index ∷ indices) l =
    if is_label l item then 0 else size item index + offset_of items indices l

-- how many bytes stand before a place
abbrev pub offset_at : ℕ → List Item → List ℕ → ℕ
offset_at zero items indices = 0
offset_at (suc place) [] indices = 0
offset_at (suc place) (item ∷ items) [] = 0
offset_at (suc place) (item ∷ items) (index ∷ indices) =
    size item index + offset_at place items indices

-- the distance that an item branches, from its own offset
abbrev pub distance : (ℕ → ℕ) → ℕ → Item → ℤ
distance offset at (Jump opcode l) = pos (offset l) -ℤ pos at
distance offset at _ = pos 0

-- the instructions of items from an offset on, where labels stand at these offsets
abbrev pub instructions : (ℕ → ℕ) → ℕ → List Item → List ℕ → List (Option Instr)
instructions offset at [] indices = []
instructions offset at (item ∷ items) [] = []
instructions offset at (item ∷ items) (index ∷ indices) =
    instruction index (distance offset at item) item
    ∷ instructions offset (at + size item index) items indices

-- the handler covers the same range, and catches the same class
pub record IsCatch (pool : List Constant) (offset : ℕ → ℕ) (h : Handler) (c : Catch)
    : Type 0 where
  pub start : c.start ≡ offset h.from
  pub end : c.end ≡ offset h.to
  pub handler : c.handler ≡ offset h.goes
  pub class : IsClassAt pool c.class (full_name h.class)

-- Code without frames: each item has the index of what it names, and the bytes spell the items'
-- instructions one after another.
pub record IsPlaced (pool : List Constant) (code : Labelled) (attr : CodeAttr) : Type 0 where
  pub indices : List ℕ
  pub named : AllZip (Names pool) code.items indices
  pub writable :
      AllByRecursion IsWritable
      (instructions (offset_of code.items indices) 0 code.items indices)
  pub bytes :
      attr.code
      ≡ flat_map bytes_of (instructions (offset_of code.items indices) 0 code.items indices)
  pub catches :
      AllZip (IsCatch pool (offset_of code.items indices)) code.handlers attr.catches
  pub max_stack : attr.max_stack ≡ code.max_stack
  pub max_locals : attr.max_locals ≡ code.max_locals
  pub attributes : attr.attributes ≡ []
