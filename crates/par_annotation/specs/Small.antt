-- Methods whose nodes and locals are few enough to number, and whose numbers are ints.
use Rattle.std.specs.Prelude.{◌≡◌, ℕ, ◌+◌, ◌*◌, ◌<◌, ◌^◌, List, Option, Some, None, length}
use Rattle.std.specs.List.{AllByRecursion}
use Rattle.par_tree.specs.Plain.{Method, Class, Declaration, Source, Actors, Lock, Policy, Declared}
use Rattle.par_tree.specs.Nodes.{braces_nodes}
use Rattle.par_scope.specs.Names.{Names}
use Rattle.par_scope.specs.Home.{class_named}
use Rattle.par_scope.specs.Own.{braces_locals}
use Rattle.par_annotation.specs.Ints.{braces_no_ints}

pub record IsSmall (m : Method) : Type 0 where
  pub nodes : 2 * braces_nodes m.body < 2 ^ 32
  pub locals : 1 + length m.params + braces_locals m.body < 2 ^ 16
  pub ints : braces_no_ints m.body ≡ 0

abbrev pub AreSmall : List Method → Type 0
AreSmall methods = AllByRecursion IsSmall methods

-- of a class that has a number
abbrev pub IsSmallClass : Option ℕ → Class → Type 0
IsSmallClass None class = Unit {0}
IsSmallClass (Some number) class = AreSmall class.methods

abbrev pub IsSmallDeclaration : Names → Declaration → Type 0
IsSmallDeclaration names (Actors ids) = Unit {0}
IsSmallDeclaration names (Lock lock) = Unit {0}
IsSmallDeclaration names (Policy policy) = Unit {0}
IsSmallDeclaration names (Declared class) =
    IsSmallClass (class_named names class.id.name) class

abbrev pub IsSmallSource : Names → Source → Type 0
IsSmallSource names source = AllByRecursion (IsSmallDeclaration names) source
