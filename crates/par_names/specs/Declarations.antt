-- What a program declares, in the order of the source.
use Rattle.std.specs.Prelude.{ℕ, Bool, true, ◌&&◌, nat_lt, List, [], ◌∷◌, ◌++◌, flat_map, codes}
use Rattle.std.specs.Prelude.{Option, None}
use Rattle.std.specs.List.{list_any, find}
use Rattle.std.specs.Str.{bytes_eq}
use Rattle.par_tree.specs.declared.ident.Ident.{Ident}
use Rattle.par_tree.specs.declared.decl.LockDecl.{LockDecl}
use Rattle.par_tree.specs.declared.decl.PolicyDecl.{PolicyDecl}
use Rattle.par_tree.specs.Plain.{Class, Declaration, Source, Actors, Lock, Policy}
use Rattle.par_tree.specs.Plain.{Declared}
use Rattle.par_refusals.specs.declared.refusal.Refusal.{Refusal}
use Rattle.par_refusals.specs.First.{when, broken}

-- ---- declarations of each kind

abbrev pub actors_in : Declaration → List Ident
actors_in (Actors ids) = ids
actors_in (Lock lock) = []
actors_in (Policy policy) = []
actors_in (Declared class) = []

abbrev pub locks_in : Declaration → List LockDecl
locks_in (Actors ids) = []
locks_in (Lock lock) = lock ∷ []
locks_in (Policy policy) = []
locks_in (Declared class) = []

abbrev pub policies_in : Declaration → List PolicyDecl
policies_in (Actors ids) = []
policies_in (Lock lock) = []
policies_in (Policy policy) = policy ∷ []
policies_in (Declared class) = []

abbrev pub classes_in : Declaration → List Class
classes_in (Actors ids) = []
classes_in (Lock lock) = []
classes_in (Policy policy) = []
classes_in (Declared class) = class ∷ []

abbrev pub actors : Source → List Ident
actors source = flat_map actors_in source

abbrev pub locks : Source → List LockDecl
locks source = flat_map locks_in source

abbrev pub policies : Source → List PolicyDecl
policies source = flat_map policies_in source

-- a class that every program has: an exception class, declared before the source
abbrev pub builtin : List ℕ → Class
builtin name = record {
  id = record { name = name; at = 0 };
  exception = true;
  birth = None;
  fields = [];
  channels = [];
  methods = [];
}

-- the classes that every program has
abbrev pub builtins : List Class
builtins = builtin (codes "ArithmeticException") ∷ builtin (codes "NullPointerException") ∷ []

abbrev pub declared_classes : Source → List Class
declared_classes source = flat_map classes_in source

-- the classes, those that every program has before the declared ones
abbrev pub classes : Source → List Class
classes source = builtins ++ declared_classes source

-- ---- a name is declared twice

-- another of these stands before it and has its name
abbrev pub has_earlier : List Ident → Ident → Bool
has_earlier ids id =
    list_any (λ other. bytes_eq other.name id.name && nat_lt other.at id.at) ids

-- 102: another of these stands before this one and has its name
abbrev pub double_fault : List Ident → Ident → List Refusal
double_fault ids id = when (has_earlier ids id) (broken 102 id.at)

-- 102: each of these before which another has its name
abbrev pub doubles : List Ident → List Refusal
doubles ids = flat_map (double_fault ids) ids

-- ---- a use resolves to the first declaration of its name

abbrev pub lock_named : List LockDecl → List ℕ → Option LockDecl
lock_named locks name = find (λ lock. bytes_eq name lock.id.name) locks

abbrev pub class_named : List Class → List ℕ → Option Class
class_named classes name = find (λ class. bytes_eq name class.id.name) classes
