-- Sums are no more than so much for each of their parts.
use Rattle.std.proofs.Common.{◌≡◌, ℕ, suc, ◌+◌, ◌*◌, ◌<◌, ◌≤◌, List, [], ◌∷◌, length, drop, get_or}
use Rattle.std.proofs.Common.{ap, arith}
use Rattle.std.specs.List.{AllByRecursion, sum_by}
use Rattle.std.proofs.lemmas.List.Sums.{sum_by-cons, sum_by-drop_more}
use Rattle.par_typed.specs.declared.table.ClassInfo.{ClassInfo}
use Rattle.par_sample.specs.Counted.{IsSmallClass, MOST_METHODS, MOST_NODES, class_nodes}
use Rattle.par_sample.specs.Counted.{method_count, node_count}

most_by : {A : Type 0} (f : A → ℕ) (most : ℕ) (xs : List A) → AllByRecursion (λ x. f x ≤ most) xs
    → sum_by f xs ≤ most * length xs
most_by f most [] each = omega arith
most_by f most (x ∷ xs) each =
    let rest = most_by f most xs each.1 in
    let own = each.0 in
    let parts = sum_by-cons f x xs in
    let times : most * suc (length xs) ≡ most + most * length xs = omega arith in
    omega (arith, rest, own, parts, times)

few : (classes : List ClassInfo) → AllByRecursion IsSmallClass classes
    → AllByRecursion (λ c. length c.methods ≤ MOST_METHODS) classes
few [] small = tt
few (c ∷ cs) small = (let own = small.0 in own.methods, few cs small.1)

light : (classes : List ClassInfo) → AllByRecursion IsSmallClass classes
    → AllByRecursion (λ c. class_nodes c ≤ MOST_NODES) classes
light [] small = tt
light (c ∷ cs) small = (let own = small.0 in own.nodes, light cs small.1)

pub most_methods : (classes : List ClassInfo) → AllByRecursion IsSmallClass classes
    → method_count classes ≤ MOST_METHODS * length classes
most_methods classes small =
    most_by (λ c. length c.methods) MOST_METHODS classes (few classes small)

pub most_nodes : (classes : List ClassInfo) → AllByRecursion IsSmallClass classes
    → node_count classes ≤ MOST_NODES * length classes
most_nodes classes small = most_by class_nodes MOST_NODES classes (light classes small)

-- where the sum so far and that of the rest is the whole, one part more is no more than the whole
pub more-below : {A : Type 0} (f : A → ℕ) (xs : List A) (i so_far : ℕ) (x : A)
    → so_far + sum_by f (drop i xs) ≡ sum_by f xs → i < length xs → x ≡ get_or xs i x
    → so_far + f x ≤ sum_by f xs
more-below f xs i so_far x whole below is =
    let part = sum_by-drop_more f xs i x below in
    let own : f x ≡ f (get_or xs i x) = ap f is in
    omega (arith, part, own, whole)
