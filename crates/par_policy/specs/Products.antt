-- Pairs of clauses that stand for their joins, in groups.
use Rattle.std.specs.Prelude.{◌≡◌, ℕ, Bool, false, ◌&&◌, ◌||◌, List, Vec, IsTrue}
use Rattle.std.specs.List.{list_any}
use Rattle.std.specs.declared.alloc.Global.{Global}
use Rattle.par_policy.specs.declared.clauses.Clause.{Clause}
use Rattle.par_policy.specs.declared.products.Product.{Product}
use Rattle.par_policy.specs.Sees.{allows, sees}

-- both clauses allow the observer
abbrev pub allows_product : ℕ → List ℕ → Product → Bool
allows_product actor locks product =
    allows actor locks product.one.now && allows actor locks product.other.now

abbrev pub sees_products : List Product → ℕ → List ℕ → Bool
sees_products products actor locks = list_any (allows_product actor locks) products

abbrev pub sees_groups : List (Vec Product Global) → ℕ → List ℕ → Bool
sees_groups groups actor locks = list_any (λ g. sees_products g.items actor locks) groups

-- nobody sees one of these
abbrev pub sees_none : List (Vec Product Global) → Type 0
sees_none groups = (actor : ℕ) (locks : List ℕ) → sees_groups groups actor locks ≡ false

-- they are seen by exactly those that see both policies
abbrev pub AreProducts : List (Vec Product Global) → List Clause → List Clause → Type 0
AreProducts groups p q =
    (actor : ℕ) (locks : List ℕ)
    → sees_groups groups actor locks ≡ (sees p actor locks && sees q actor locks)

-- the new groups are seen by exactly those that see the old ones, or that this product allows
abbrev pub GainsOne : List (Vec Product Global) → List (Vec Product Global) → Product → Type 0
GainsOne old new product =
    (actor : ℕ) (locks : List ℕ)
    → sees_groups new actor locks ≡
    (sees_groups old actor locks || allows_product actor locks product)

-- the new groups are seen by exactly those that see the old ones, or that this clause allows and
-- that see the others
abbrev pub GainsEach :
    List (Vec Product Global) → List (Vec Product Global) → Clause → List Clause → Type 0
GainsEach old new clause others =
    (actor : ℕ) (locks : List ℕ)
    → sees_groups new actor locks ≡
    (sees_groups old actor locks || (allows actor locks clause && sees others actor locks))

-- the new clauses are seen by exactly those that see the old ones, or that a product allows
abbrev pub GainsProducts : List Clause → List Clause → List Product → Type 0
GainsProducts old new products =
    (actor : ℕ) (locks : List ℕ)
    → sees new actor locks ≡ (sees old actor locks || sees_products products actor locks)

-- the clauses are seen by exactly those that a product of these groups allows
abbrev pub AreSeen : List Clause → List (Vec Product Global) → Type 0
AreSeen clauses groups =
    (actor : ℕ) (locks : List ℕ) → sees clauses actor locks ≡ sees_groups groups actor locks

-- the new clauses are seen by those alone that see the old ones, or that a product allows
abbrev pub GainsSome : List Clause → List Clause → List Product → Type 0
GainsSome old new products =
    (actor : ℕ) (locks : List ℕ) → IsTrue (sees new actor locks)
    → IsTrue (sees old actor locks || sees_products products actor locks)

-- the clauses are seen by those alone that a product of these groups allows
abbrev pub AreSeenIn : List Clause → List (Vec Product Global) → Type 0
AreSeenIn clauses groups =
    (actor : ℕ) (locks : List ℕ) → IsTrue (sees clauses actor locks)
    → IsTrue (sees_groups groups actor locks)
