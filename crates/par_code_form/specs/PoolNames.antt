-- What labelled code names in a constant pool (Java Virtual Machine Specification, Java SE 7,
-- section 4.4).
use Rattle.std.specs.Prelude.{◌≡◌, ℕ, ◌+◌, ◌*◌, nat_lt, Bool, false, ◌||◌, if◌then◌else◌}
use Rattle.std.specs.Prelude.{List, cond, length, ◌++◌, ◌⊎◌, Contains, sum_by, codes}
use Rattle.std.specs.Fmt.{decimal}
use Rattle.std.specs.Str.{bytes_eq}
use Rattle.par_class.specs.par_pool.declared.constant.Constant.{Constant}
use Rattle.par_class.specs.par_pool.declared.constant.Constant.TheVariants.{Integer, Field, Method}
use Rattle.par_class.specs.par_pool.Entries.{IsAt, IsClassAt, IsMemberAt, IsFieldAt}
use Rattle.par_class.specs.par_pool.Growth.{IsClassPart, IsMemberPart}
use Rattle.par_values.specs.Areas.{Name}
use Rattle.par_code_form.specs.declared.labelled.Labelled.{Labelled}
use Rattle.par_code_form.specs.declared.item.Item.{Item}
use Rattle.par_code_form.specs.declared.item.Item.TheVariants.{Label, Op, Const, Jump, Member}
use Rattle.par_code_form.specs.declared.item.Item.TheVariants.{ClassOp, LockOp}
use Rattle.par_code_form.specs.declared.labelled.Handler.{Handler}
use Rattle.par_code_form.specs.Opcodes.{INVOKEVIRTUAL}
use Rattle.par_code_form.specs.Instructions.{within}

-- whether a class is one that each program has and may throw
abbrev pub is_builtin : Name → Bool
is_builtin class =
    bytes_eq class (codes "ArithmeticException") || bytes_eq class (codes "NullPointerException")

-- what a class is called in class files
abbrev pub full_name : Name → Name
full_name class = if is_builtin class then codes "java/lang/" ++ class else class

-- The locks are fields of one class, `L0`, `L1` and so on, each of which says whether its lock is
-- open.
abbrev pub LOCKS : Name
LOCKS = codes "paragon/Locks"

abbrev pub LOCK_TYPE : Name
LOCK_TYPE = codes "Z"

abbrev pub lock_field : ℕ → Name
lock_field lock = codes "L" ++ decimal lock

-- what an instruction on a member names: a field, or a method
abbrev pub member_form : ℕ → ℕ → ℕ → Constant
member_form opcode = if nat_lt opcode INVOKEVIRTUAL then Field else Method

-- how many entries an item needs: what it names, and the parts of that
abbrev pub entries : Item → ℕ
entries (Label l) = 0
entries (Op i) = 0
entries (Const v) = if within 32768 v then 0 else 1
entries (Jump opcode l) = 0
entries (Member opcode class name descriptor) = 6
entries (ClassOp opcode class) = 2
entries (LockOp opcode lock) = 6

module _ (pool : List Constant) where
  -- the index is that of what an item names; any where it names nothing
  abbrev pub Names : Item → ℕ → Type 0
  Names (Label l) index = Unit {0}
  Names (Op i) index = Unit {0}
  Names (Const v) index = cond (within 32768 v) (Unit {0}) (IsAt pool index (Integer v))
  Names (Jump opcode l) index = Unit {0}
  Names (Member opcode class name descriptor) index =
      IsMemberAt (member_form opcode) pool index (full_name class) name descriptor
  Names (ClassOp opcode class) index = IsClassAt pool index (full_name class)
  Names (LockOp opcode lock) index = IsFieldAt pool index LOCKS (lock_field lock) LOCK_TYPE

  -- a constant that an item names, or a part of it
  abbrev pub IsPartOf : Item → Constant → Type 0
  IsPartOf (Label l) c = ⊥
  IsPartOf (Op i) c = ⊥
  IsPartOf (Const v) c = (c ≡ Integer v) × (within 32768 v ≡ false)
  IsPartOf (Jump opcode l) c = ⊥
  IsPartOf (Member opcode class name descriptor) c =
      IsMemberPart (member_form opcode) pool (full_name class) name descriptor c
  IsPartOf (ClassOp opcode class) c = IsClassPart pool (full_name class) c
  IsPartOf (LockOp opcode lock) c = IsMemberPart Field pool LOCKS (lock_field lock) LOCK_TYPE c

  -- some of these items names it
  pub record IsNamedIn (items : List Item) (c : Constant) : Type 0 where
    pub item : Item
    pub stands : Contains items item
    pub part : IsPartOf item c

  -- some of these handlers names it: its class, or the text of that
  pub record IsCaughtIn (handlers : List Handler) (c : Constant) : Type 0 where
    pub handler : Handler
    pub stands : Contains handlers handler
    pub part : IsClassPart pool (full_name handler.class) c

  -- The code names it. So no text is there but those of numbers, classes and members that the code
  -- names.
  abbrev pub IsConstantOf : Labelled → Constant → Type 0
  IsConstantOf code c = IsNamedIn code.items c ⊎ IsCaughtIn code.handlers c

-- how many entries the code needs at most, where each item and each handler needs its own
abbrev pub entry_count : Labelled → ℕ
entry_count code = sum_by entries code.items + 2 * length code.handlers
