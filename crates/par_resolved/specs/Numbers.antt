-- The numbers of what a program declares.
use Rattle.std.specs.Prelude.{ℕ, zero, suc, ◌+◌, ◌*◌, ◌^◌, List, [], ◌∷◌, map, length, unwrap_or}
use Rattle.std.specs.Prelude.{position, Option, None, Some, slice_index_or, flat_map}
use Rattle.std.specs.List.{range_with_len}
use Rattle.std.specs.Str.{bytes_eq}
use Rattle.par_tree.specs.declared.ident.Ident.{Ident}
use Rattle.par_tree.specs.declared.types.TypeTree.{TypeTree}
use Rattle.par_tree.specs.declared.types.TypeTree.TheVariants as type
use Rattle.par_tree.specs.declared.policy.LockTree.{LockTree}
use Rattle.par_tree.specs.declared.decl.LockDecl.{LockDecl}
use Rattle.par_tree.specs.Plain.{Source}
use Rattle.par_typed.specs.declared.ty.Ty.{Ty}
use Rattle.par_typed.specs.declared.ty.Ty.TheVariants as ty
use Rattle.par_names.specs.Declarations.{actors, locks}

-- the place of the first of these names, 0 where it is not there
abbrev pub number : List (List ℕ) → List ℕ → ℕ
number names name = unwrap_or (position (bytes_eq name) names) 0

-- What numbers go by. The ground locks of a declaration have numbers from its first one on.
pub record Numbers : Type 0 where
  pub actors : List (List ℕ)
  pub locks : List (List ℕ)
  pub firsts : List ℕ

-- a family of k actors has (number of actors) to the k ground locks
abbrev pub ground_count : ℕ → LockDecl → ℕ
ground_count actors lock = actors ^ lock.arity

-- the numbers of the first ground locks of these declarations
abbrev pub firsts_from : ℕ → ℕ → List LockDecl → List ℕ
firsts_from actors first [] = []
firsts_from actors first (lock ∷ locks) =
    first ∷ firsts_from actors (first + ground_count actors lock) locks

-- the numbers of these actors and of the locks that are declared so
abbrev pub numbers_of : List Ident → List LockDecl → Numbers
numbers_of actors locks = record {
  actors = map (λ a. a.name) actors;
  locks = map (λ l. l.id.name) locks;
  firsts = firsts_from (length actors) 0 locks;
}

-- actors and declarations of locks in source order
abbrev pub numbers : Source → Numbers
numbers source = numbers_of (actors source) (locks source)

-- ---- uses

abbrev pub actor_number : Numbers → Ident → ℕ
actor_number n actor = number n.actors actor.name

-- the place of a lock in its family: by the first actor and then by the second
abbrev pub place_in_family : ℕ → List ℕ → ℕ
place_in_family actors [] = 0
place_in_family actors (one ∷ []) = one
place_in_family actors (one ∷ other ∷ more) = one * actors + other

abbrev pub lock_number : Numbers → LockTree → ℕ
lock_number n lock =
    slice_index_or n.firsts (number n.locks lock.id.name) 0
    + place_in_family (length n.actors) (map (actor_number n) lock.actors)

-- a type, where the classes have these names
unfoldable pub type_of : List (List ℕ) → TypeTree → Ty
type_of classes (type.Int at) = ty.Int
type_of classes (type.Boolean at) = ty.Boolean
type_of classes (type.Class class) = ty.Class (number classes class.name)

-- a method without a result is `void`
unfoldable pub result_of : List (List ℕ) → Option TypeTree → Ty
result_of classes None = ty.Void
result_of classes (Some t) = type_of classes t

-- ---- the ground locks of a declaration, each by its actors

abbrev pub choices : ℕ → ℕ → List (List ℕ)
choices actors zero = [] ∷ []
choices actors (suc zero) = map (λ one. one ∷ []) (range_with_len 0 actors)
choices actors (suc (suc more)) =
    flat_map (λ one. map (λ other. one ∷ other ∷ []) (range_with_len 0 actors))
    (range_with_len 0 actors)
