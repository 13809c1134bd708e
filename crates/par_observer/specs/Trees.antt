-- What each judgement of a tree says.
use Rattle.std.specs.Prelude.{◌≡◌, ℕ, ◌≤◌, List, [], Contains, length}
use Rattle.std.specs.List.{AllByRecursion}
use Rattle.par_tree.specs.Plain.{Source}
use Rattle.par_typed.specs.declared.program.Typed.{Typed}
use Rattle.par_refusals.specs.declared.refusal.Refusal.{Refusal}
use Rattle.par_refusals.specs.First.{IsFirst}
use Rattle.par_typed.specs.Shown.{bodies}
use Rattle.par_resolved.specs.Resolved.{table_of}
use Rattle.par_table.specs.par_faults.Faults.{all_faults}
use Rattle.par_type_rules.specs.TypedBodies.{typed_program}
use Rattle.par_typed.specs.Plain.{Body}
use Rattle.par_typing.specs.Typed.{IsTyped, written}
use Rattle.par_secure_laws.specs.par_typed_laws.WellTyped.{IsWellTyped}
use Rattle.par_program_laws.specs.Births.{AreFieldsWritten}
use Rattle.par_program_laws.specs.WellDeclared.{HasFewFields, IsWellDeclared}
use Rattle.par_check_laws.specs.Asked.{Check}
use Rattle.par_check_laws.specs.Checks.{checks}
use Rattle.par_check_laws.specs.Verdict.{IsAccepted}
use Rattle.par_program_laws.specs.Lattice.{numbers}
use Rattle.par_program_laws.specs.Facts.{Facts}
use Rattle.par_program_laws.specs.Orderly.{IsOrderlyBody}
use Rattle.par_check_laws.specs.Accepted.{IsAcceptedBy, MOST_BODIES}
use Rattle.par_check.specs.Judged.{IsFirstBroken}
use Rattle.par_observer.specs.declared.error.JudgeError.{JudgeError}
use Rattle.par_observer.specs.declared.error.JudgeError.TheVariants.{Refused, Memory}
use Rattle.par_observer.specs.Passes.{typing_faults, tree_faults}

-- the typed bodies of a tree, over its table
abbrev pub bodies_of : Source → List Body
bodies_of tree = typed_program (written tree) (table_of tree) tree

-- No rule on names or types is broken, no limit is exceeded, each field has a policy, and some
-- closed facts of each body keep all rules on flows.
pub record IsAcceptedTree (tree : Source) : Type 0 where
  pub faultless : tree_faults tree ≡ []
  pub accepted : (b : Body) → Contains (bodies_of tree) b → IsAccepted (table_of tree) b

-- the program is that of the tree
pub record IsProgramOf (tree : Source) (typed : Typed) : Type 0 where
  pub table_is : typed.table ≡ table_of tree
  pub bodies_are : bodies typed.bodies ≡ bodies_of tree

-- What later layers may ask of an accepted program, without its source: it is well typed, its table
-- is well declared, and no policy of a field is left to be inferred.
pub record IsWellFormed (typed : Typed) : Type 0 where
  pub typed_well : IsWellTyped typed.table (bodies typed.bodies)
  pub declared_well : IsWellDeclared typed.table
  pub written : AreFieldsWritten typed.table

-- What the rules on flows ask of a typed program, fields of which may be left to be inferred: it is
-- well typed, its table is well declared, and there are few enough of its parts to number.
pub record IsReady (typed : Typed) : Type 0 where
  pub typed_well : IsWellTyped typed.table (bodies typed.bodies)
  pub declared_well : IsWellDeclared typed.table
  pub few_policies : length typed.table.policies ≤ 256
  pub few_classes : length typed.table.classes ≤ 65536
  pub few_fields : AllByRecursion HasFewFields typed.table.classes
  pub few_bodies : length typed.bodies ≤ MOST_BODIES
  pub orderly : AllByRecursion (IsOrderlyBody typed.table) (bodies typed.bodies)

-- the rules on flows stand at places up to this one
abbrev pub ChecksLie : ℕ → Typed → Type 0
ChecksLie most typed =
    (b : Body) → Contains (bodies typed.bodies) b → (c : Check)
    → Contains (checks typed.table b) c → c.at ≤ most

abbrev pub IsAcceptedTreeAs : Source → Typed → Type 0
IsAcceptedTreeAs tree typed = IsAcceptedTree tree × IsProgramOf tree typed

-- What a tree is refused by: the first broken rule of the earliest pass in which one is broken.
pub data BreaksRule (tree : Source) (f : Refusal) : Type 0 where
  has_fault : IsFirst (tree_faults tree) f → BreaksRule tree f
  has_flow : tree_faults tree ≡ [] → IsFirstBroken (table_of tree) (bodies_of tree) f
      → BreaksRule tree f

-- What a tree without a typed program is refused by: the first broken rule up to types.
abbrev pub BreaksTyping : Source → Refusal → Type 0
BreaksTyping tree f = IsFirst (typing_faults tree) f

-- memory may be wanting at any time
abbrev pub IsTreeUntyped : Source → JudgeError → Type 0
IsTreeUntyped tree (Refused f) = BreaksTyping tree f
IsTreeUntyped tree Memory = Unit {0}

abbrev pub IsTreeRefused : Source → JudgeError → Type 0
IsTreeRefused tree (Refused f) = BreaksRule tree f
IsTreeRefused tree Memory = Unit {0}

-- the tree has a typed program
pub record IsTypedTree (tree : Source) (typed : Typed) : Type 0 where
  pub right : all_faults tree ≡ []
  pub typed_is : IsTyped (table_of tree) tree typed

-- the tree has a typed program and keeps all rules up to those on flows, and each of its fields has
-- a policy
pub record IsCompleteTree (tree : Source) (typed : Typed) : Type 0 where
  pub typed_is : IsTypedTree tree typed
  pub faultless : tree_faults tree ≡ []
  pub formed : IsWellFormed typed

-- there are closed and least facts of its bodies, and they keep all rules on flows
abbrev pub IsKeptBySome : Typed → Type 0
IsKeptBySome typed = (facts : List (Facts numbers)) × IsAcceptedBy typed facts

-- the first broken rule on flows, or want of memory
abbrev pub IsFlowRefused : Typed → JudgeError → Type 0
IsFlowRefused typed (Refused f) = IsFirstBroken typed.table (bodies typed.bodies) f
IsFlowRefused typed Memory = Unit {0}
