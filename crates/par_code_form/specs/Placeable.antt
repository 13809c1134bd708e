-- Which labelled code can be placed.
use Rattle.std.specs.Prelude.{◌≡◌, ℕ, ◌<◌, ◌≤◌, ◌==◌, Bool, true, false, ◌||◌, if◌then◌else◌}
use Rattle.std.specs.Prelude.{List, length, Some, slice_get, All, sum_by, count_by, IsTrue}
use Rattle.par_values.specs.par_instr.declared.instr.Instr.{Instr}
use Rattle.par_values.specs.par_instr.declared.instr.Instr.TheVariants.{Ldc, LdcW, If, IfIcmp}
use Rattle.par_values.specs.par_instr.declared.instr.Instr.TheVariants.{IfAcmpeq}
use Rattle.par_values.specs.par_instr.declared.instr.Instr.TheVariants.{IfAcmpne, Goto}
use Rattle.par_values.specs.par_instr.declared.instr.Instr.TheVariants.{Getstatic, Putstatic}
use Rattle.par_values.specs.par_instr.declared.instr.Instr.TheVariants.{Getfield, Putfield}
use Rattle.par_values.specs.par_instr.declared.instr.Instr.TheVariants.{Invokevirtual}
use Rattle.par_values.specs.par_instr.declared.instr.Instr.TheVariants.{Invokespecial}
use Rattle.par_values.specs.par_instr.declared.instr.Instr.TheVariants.{Invokestatic, New}
use Rattle.par_values.specs.par_instr.declared.instr.Instr.TheVariants.{Ifnull, Ifnonnull}
use Rattle.par_values.specs.par_instr.Spelling.{spelling, has_spelling, is_constant}
use Rattle.par_class.specs.par_pool.Spelling.{IsText}
use Rattle.par_code_form.specs.declared.labelled.Labelled.{Labelled}
use Rattle.par_code_form.specs.declared.item.Item.{Item}
use Rattle.par_code_form.specs.declared.item.Item.TheVariants.{Label, Op, Const, Jump, Member}
use Rattle.par_code_form.specs.declared.item.Item.TheVariants.{ClassOp, LockOp}
use Rattle.par_code_form.specs.declared.labelled.Handler.{Handler}
use Rattle.par_code_form.specs.Opcodes.{GETSTATIC, PUTSTATIC, NEW}
use Rattle.par_code_form.specs.Instructions.{within, is_branch, is_member, is_instruction}
use Rattle.par_code_form.specs.PoolNames.{full_name}
use Rattle.par_code_form.specs.Placed.{is_label}

-- the most bytes that the code of a method has
abbrev pub MOST_BYTES : ℕ
MOST_BYTES = 32016

-- an instruction that neither branches nor names a constant
abbrev pub stands_alone : Instr → Bool
stands_alone (Ldc n) = false
stands_alone (LdcW n) = false
stands_alone (If test to) = false
stands_alone (IfIcmp test to) = false
stands_alone (IfAcmpeq to) = false
stands_alone (IfAcmpne to) = false
stands_alone (Goto to) = false
stands_alone (Getstatic n) = false
stands_alone (Putstatic n) = false
stands_alone (Getfield n) = false
stands_alone (Putfield n) = false
stands_alone (Invokevirtual n) = false
stands_alone (Invokespecial n) = false
stands_alone (Invokestatic n) = false
stands_alone (New n) = false
stands_alone (Ifnull to) = false
stands_alone (Ifnonnull to) = false
stands_alone _ = true

-- the most bytes that an item can have
abbrev pub most_bytes : Item → ℕ
most_bytes (Label l) = 0
most_bytes (Op i) = length (spelling i)
most_bytes (Const v) = if is_constant v then 1 else if within 128 v then 2 else 3
most_bytes (Jump opcode l) = 3
most_bytes (Member opcode class name descriptor) = 3
most_bytes (ClassOp opcode class) = 3
most_bytes (LockOp opcode lock) = 3

-- the label stands in the items, and once
abbrev pub StandsOnce : List Item → ℕ → Type 0
StandsOnce items l = count_by (is_label l) items ≡ 1

-- how many locks there can be
abbrev pub MOST_LOCKS : ℕ
MOST_LOCKS = 256

-- whether the opcode reads or writes a static field
abbrev pub is_lock_opcode : ℕ → Bool
is_lock_opcode opcode = opcode == GETSTATIC || opcode == PUTSTATIC

-- an item whose opcode is of its kind, and whose texts a pool can have
abbrev pub FitsItem : Item → Type 0
FitsItem (Label l) = Unit {0}
FitsItem (Op i) = IsTrue (has_spelling i) × IsTrue (stands_alone i)
FitsItem (Const v) = Unit {0}
FitsItem (Jump opcode l) = IsTrue (is_branch opcode)
FitsItem (Member opcode class name descriptor) =
    IsTrue (is_member opcode) × IsText (full_name class) × IsText name × IsText descriptor
FitsItem (ClassOp opcode class) = (opcode ≡ NEW) × IsText (full_name class)
FitsItem (LockOp opcode lock) = IsTrue (is_lock_opcode opcode) × lock < MOST_LOCKS

-- a branch goes to a label that stands once in these items
abbrev pub HasTarget : List Item → Item → Type 0
HasTarget items (Jump opcode l) = StandsOnce items l
HasTarget items _ = Unit {0}

-- an instruction stands at this place of the items
pub record IsInstructionAt (items : List Item) (place : ℕ) : Type 0 where
  pub item : Item
  pub stands : slice_get items place ≡ Some item
  pub is : IsTrue (is_instruction item)

-- an instruction stands between two labels
pub record Covers (items : List Item) (from to : ℕ) : Type 0 where
  pub start : ℕ
  pub inside : ℕ
  pub end : ℕ
  pub begins : slice_get items start ≡ Some (Label from)
  pub ends : slice_get items end ≡ Some (Label to)
  pub behind : start < inside
  pub before : inside < end
  pub covered : IsInstructionAt items inside

-- an instruction stands behind a label
pub record Leads (items : List Item) (goes : ℕ) : Type 0 where
  pub at : ℕ
  pub behind : ℕ
  pub begins : slice_get items at ≡ Some (Label goes)
  pub later : at < behind
  pub leads : IsInstructionAt items behind

-- a handler that covers an instruction and begins at one
pub record FitsHandler (items : List Item) (h : Handler) : Type 0 where
  pub text : IsText (full_name h.class)
  pub from_once : StandsOnce items h.from
  pub to_once : StandsOnce items h.to
  pub goes_once : StandsOnce items h.goes
  pub covers : Covers items h.from h.to
  pub leads : Leads items h.goes

-- some item is an instruction
abbrev pub HasInstruction : List Item → Type 0
HasInstruction items = (place : ℕ) × IsInstructionAt items place

-- Each item and each handler fits, each label that is used stands once, and few bytes are enough.
pub record IsPlaceable (code : Labelled) : Type 0 where
  pub items : All FitsItem code.items
  pub targets : All (HasTarget code.items) code.items
  pub handlers : All (FitsHandler code.items) code.handlers
  pub instruction : HasInstruction code.items
  pub short : sum_by most_bytes code.items ≤ MOST_BYTES
