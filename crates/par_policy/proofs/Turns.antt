-- Who sees what is kept of clauses, as one more is gone over.
use Rattle.std.proofs.Common.{◌≡◌, ℕ, ◌+◌, ◌<◌, ◌≤◌, Bool, ◌||◌, List, [], ◌∷◌, ◌++◌}
use Rattle.std.proofs.Common.{length, take, get_or, sym, subst, ap, ◌∙◌}
use Rattle.std.specs.List.{list_any}
use Rattle.std.proofs.Math.Bool.{or_assoc}
use Rattle.std.proofs.lemmas.List.{take_all}
use Rattle.std.proofs.lemmas.List.Folds.{list_any_more}
use Rattle.par_policy.specs.declared.clauses.Clause.{Clause}
use Rattle.par_policy.specs.declared.products.Product.{Product}
use Rattle.par_policy.specs.Sees.{allows, sees, sees_at, IsSeenAlike}
use Rattle.par_policy.specs.Lattice.{IsMeet, IsSpecialised, AllowsWith, GainsBoth}
use Rattle.par_policy.specs.Products.{GainsProducts, allows_product, sees_products}
use Rattle.par_policy.proofs.Kept.{sees_push}

-- one element more
any_more : {X : Type 0} (p : X → Bool) (xs : List X) (i : ℕ) (x : X) → i < length xs
    → x ≡ get_or xs i x → list_any p (take (i + 1) xs) ≡ (list_any p (take i xs) || p x)
any_more p xs i x inside is =
    list_any_more p xs i x inside ∙ ap (λ y. list_any p (take i xs) || p y) (sym is)

-- one clause more is specialised
pub special_more : (opened : List ℕ) (cs : List Clause) (i : ℕ) (c rest : Clause)
    (kept new : List Clause) → i < length cs → c ≡ get_or cs i c → AllowsWith rest c opened
    → IsSeenAlike new (kept ++ rest ∷ []) → IsSpecialised kept (take i cs) opened
    → IsSpecialised new (take (i + 1) cs) opened
special_more opened cs i c rest kept new inside is allowed alike so actor locks =
    alike actor locks ∙ sees_push kept rest actor locks
    ∙ ap (λ b. b || allows actor locks rest) (so actor locks)
    ∙ ap (λ b. sees_at (take i cs) opened actor locks || b) (allowed actor locks)
    ∙ sym (any_more (allows actor (locks ++ opened)) cs i c inside is)

-- all are
pub special_all : (opened : List ℕ) (cs p : List Clause) (i : ℕ) (kept : List Clause)
    → length cs ≤ i → cs ≡ p → IsSpecialised kept (take i cs) opened → IsSpecialised kept p opened
special_all opened cs p i kept past are so =
    subst (λ ds. IsSpecialised kept ds opened) (take_all i cs past ∙ are) so

-- one clause more is kept
pub meet_more : (old cs : List Clause) (i : ℕ) (c : Clause) (kept new : List Clause)
    → i < length cs → c ≡ get_or cs i c → IsSeenAlike new (kept ++ c ∷ [])
    → IsMeet kept old (take i cs) → IsMeet new old (take (i + 1) cs)
meet_more old cs i c kept new inside is alike so actor locks =
    alike actor locks ∙ sees_push kept c actor locks
    ∙ ap (λ b. b || allows actor locks c) (so actor locks)
    ∙ or_assoc (sees old actor locks) (sees (take i cs) actor locks) (allows actor locks c)
    ∙ ap (λ b. sees old actor locks || b)
    (sym (any_more (allows actor locks) cs i c inside is))

-- all are
pub meet_all : (old cs : List Clause) (i : ℕ) (kept : List Clause) → length cs ≤ i
    → IsMeet kept old (take i cs) → IsMeet kept old cs
meet_all old cs i kept past so = subst (IsMeet kept old) (take_all i cs past) so

-- one product more is kept
pub product_more : (old : List Clause) (ps : List Product) (i : ℕ) (x : Product)
    (kept new : List Clause) → i < length ps → x ≡ get_or ps i x
    → GainsBoth kept new x.one.now x.other.now → GainsProducts old kept (take i ps)
    → GainsProducts old new (take (i + 1) ps)
product_more old ps i x kept new inside is gains so actor locks =
    gains actor locks
    ∙ ap (λ b. b || allows_product actor locks x) (so actor locks)
    ∙ or_assoc (sees old actor locks) (sees_products (take i ps) actor locks)
    (allows_product actor locks x)
    ∙ ap (λ b. sees old actor locks || b)
    (sym (any_more (allows_product actor locks) ps i x inside is))

-- all are
pub product_all : (old : List Clause) (ps : List Product) (i : ℕ) (kept : List Clause)
    → length ps ≤ i → GainsProducts old kept (take i ps) → GainsProducts old kept ps
product_all old ps i kept past so = subst (GainsProducts old kept) (take_all i ps past) so
