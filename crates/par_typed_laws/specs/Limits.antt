-- What limits leave of tables.
use Rattle.std.specs.Prelude.{ℕ, ◌+◌, ◌≤◌, length}
use Rattle.std.specs.List.{AllByRecursion, sum_by}
use Rattle.par_program_laws.specs.par_typed.declared.table.MethodInfo.{MethodInfo}
use Rattle.par_program_laws.specs.par_typed.declared.table.ClassInfo.{ClassInfo}
use Rattle.par_program_laws.specs.par_typed.declared.table.Table.{Table}

-- ---- parameters

-- the most parameters that a method has
abbrev pub MOST_PARAMS : ℕ
MOST_PARAMS = 16

abbrev pub TakesFew : MethodInfo → Type 0
TakesFew m = length m.params ≤ MOST_PARAMS

abbrev pub HaveFewParams : ClassInfo → Type 0
HaveFewParams c = AllByRecursion TakesFew c.methods

-- no method of the table has more
abbrev pub HasFewParams : Table → Type 0
HasFewParams table = AllByRecursion HaveFewParams table.classes

-- ---- classes

-- the most fields and channels of a class, the most methods, and the most nodes in all of these
abbrev pub MOST_MEMBERS : ℕ
MOST_MEMBERS = 256

abbrev pub MOST_METHODS : ℕ
MOST_METHODS = 128

abbrev pub MOST_CLASS_NODES : ℕ
MOST_CLASS_NODES = 8000

pub record IsLimitedClass (c : ClassInfo) : Type 0 where
  pub members : length c.fields + length c.channels ≤ MOST_MEMBERS
  pub methods : length c.methods ≤ MOST_METHODS
  pub nodes : sum_by (λ m. m.nodes) c.methods ≤ MOST_CLASS_NODES

-- no class of the table has more
abbrev pub HasFewMembers : Table → Type 0
HasFewMembers table = AllByRecursion IsLimitedClass table.classes

-- the most classes of a program, with the two exceptions that every program has
abbrev pub MOST_CLASSES : ℕ
MOST_CLASSES = 130

abbrev pub HasFewClasses : Table → Type 0
HasFewClasses table = length table.classes ≤ MOST_CLASSES
