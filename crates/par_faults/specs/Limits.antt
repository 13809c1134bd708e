-- The limits that are counted.
use Rattle.std.specs.Prelude.{ℕ, ◌+◌, ◌-◌, ◌^◌, min, not, ◌&&◌, nat_lt, nat_le, List, [], ◌∷◌, ◌++◌}
use Rattle.std.specs.Prelude.{flat_map, map, take, drop, length, sum_by, Option, Some, None}
use Rattle.std.specs.Prelude.{slice_get}
use Rattle.std.specs.List.{prefix_len}
use Rattle.par_tree.specs.declared.decl.LockDecl.{LockDecl}
use Rattle.par_tree.specs.Nodes.{method_nodes}
use Rattle.par_tree.specs.Plain.{Class, Method, Source}
use Rattle.par_names.specs.Declarations.{actors, locks, declared_classes}
use Rattle.par_limits.specs.par_resolved.Numbers.{ground_count}
use Rattle.par_refusals.specs.declared.refusal.Refusal.{Refusal}
use Rattle.par_refusals.specs.First.{when, exceeded, in_passes}
use Rattle.par_faults.specs.declared.limit.Limit.{Limit}
use Rattle.par_faults.specs.declared.limit.TheConstants.{ACTORS, LOCKS, CLASSES, MEMBERS}
use Rattle.par_faults.specs.declared.limit.TheConstants.{METHODS, NODES, CLASS_NODES, PARAMS}
use Rattle.par_faults.specs.declared.limit.TheConstants.{LOCALS}
use Rattle.par_scope.specs.Own.{method_locals}

-- ---- limits on names: the one too many is told

unfoldable pub told : Limit → Option ℕ → List Refusal
told limit None = []
told limit (Some at) = exceeded limit.number (limit.most + 1) at ∷ []

-- the place behind as many as there may be
abbrev pub one_too_many : Limit → List ℕ → List Refusal
one_too_many limit places = told limit (slice_get places limit.most)

-- where the actors are declared
abbrev pub actor_places : Source → List ℕ
actor_places source = map (λ a. a.at) (actors source)

-- where the classes are declared; those that every program has are not
abbrev pub class_places : Source → List ℕ
class_places source = map (λ c. c.id.at) (declared_classes source)

-- how many of these places are before another, up to the first that is not
abbrev pub earlier : List ℕ → ℕ → ℕ
earlier places at = prefix_len (λ place. nat_lt place at) places

-- two lists of places as one, each place of the first behind those of the second before it
unfoldable pub in_order : List ℕ → List ℕ → List ℕ
in_order [] others = others
in_order (at ∷ places) others =
    take (earlier others at) others ++ at ∷ in_order places (drop (earlier others at) others)

-- where the fields and channels of a class are declared, in the order of the source
abbrev pub member_places : Class → List ℕ
member_places class = in_order (map (λ f. f.id.at) class.fields) (map (λ c. c.id.at) class.channels)

-- ---- the limit on locks

-- a count, or the most that a refusal can tell
abbrev pub tellable : ℕ → ℕ
tellable count = min count (2 ^ 32 - 1)

-- the lock with which the sum first exceeds
abbrev pub lock_limit : ℕ → ℕ → LockDecl → List Refusal
lock_limit actors sum lock =
    when (nat_le sum LOCKS.most && not (nat_le (sum + ground_count actors lock) LOCKS.most))
    (exceeded LOCKS.number (tellable (sum + ground_count actors lock)) lock.id.at)

-- the locks behind others, of which there are this many
unfoldable pub locks_limit : ℕ → ℕ → List LockDecl → List Refusal
locks_limit actors sum [] = []
locks_limit actors sum (lock ∷ locks) =
    lock_limit actors sum lock ++ locks_limit actors (sum + ground_count actors lock) locks

-- the locks count only where the actors are within their limit
abbrev pub declared_limits : Source → List Refusal
declared_limits source =
    in_passes (one_too_many ACTORS (actor_places source))
    (locks_limit (length (actors source)) 0 (locks source))

-- ---- limits on classes and methods: the whole count is told

-- more than there may be
abbrev pub over : Limit → ℕ → ℕ → List Refusal
over limit count at = when (not (nat_le count limit.most)) (exceeded limit.number count at)

abbrev pub method_limits : Method → List Refusal
method_limits m =
    over NODES (method_nodes m) m.id.at ++ over PARAMS (length m.params) m.id.at
    ++ over LOCALS (method_locals m) m.id.at

abbrev pub class_limits : Class → List Refusal
class_limits class =
    one_too_many MEMBERS (member_places class)
    ++ one_too_many METHODS (map (λ m. m.id.at) class.methods)
    ++ over CLASS_NODES (sum_by method_nodes class.methods) class.id.at
    ++ flat_map method_limits class.methods

-- ---- all

-- of the classes that are declared, and in them
abbrev pub class_counts : Source → List Refusal
class_counts source =
    one_too_many CLASSES (class_places source) ++ flat_map class_limits (declared_classes source)

abbrev pub count_faults : Source → List Refusal
count_faults source = declared_limits source ++ class_counts source
