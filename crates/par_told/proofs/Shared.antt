-- Policies that are not inferred are different normal forms.
use Rattle.std.proofs.Common.{◌≡◌, ℕ, zero, suc, ◌+◌, ◌<◌, ◌≤◌, Bool, true, false, cond, ◌&&◌, ◌||◌}
use Rattle.std.proofs.Common.{List, [], ◌∷◌, Some, length, map, get_or, refl, sym, ap, subst}
use Rattle.std.proofs.Common.{◌∙◌, arith}
use Rattle.std.specs.Prelude.{IsTrue, nat_eq, nat_lt, slice_get, filter, flat_map}
use Rattle.std.specs.List.{AllByRecursion, list_any, range_with_len}
use Rattle.std.proofs.lemmas.Bool.{or_left, or_right, ltb-true, false≢true}
use Rattle.std.proofs.lemmas.Bool.Decides.{nat_tests}
use Rattle.std.proofs.lemmas.List.{map-append}
use Rattle.std.proofs.lemmas.List.Folds.{list_any-append}
use Rattle.std.proofs.lemmas.List.Elements.{filter-append}
use Rattle.std.proofs.lemmas.Option.{slice_get-get_or}
use Rattle.par_policy.specs.declared.clauses.Clause.{Clause}
use Rattle.par_policy.specs.Normal.{IsNormal}
use Rattle.par_policy.specs.Order.{IsBelow}
use Rattle.par_policy.proofs.Antisymmetry.{same_normal_forms}
use Rattle.par_typed.specs.declared.table.FieldInfo.{FieldInfo}
use Rattle.par_typed.specs.declared.table.ClassInfo.{ClassInfo}
use Rattle.par_typed.specs.declared.table.Table.{Table}
use Rattle.par_program_laws.specs.Inferred.{inferred, inferred_among, inferred_in}
use Rattle.par_program_laws.specs.Policies.{inferred_numbers, ArePoliciesShared}

-- ---- the numbers of inferred fields, as a list

among_listed : (fs : List FieldInfo) (n : ℕ)
    → inferred_among fs n
    ≡ list_any (λ p. nat_eq p n) (map (λ f. f.policy) (filter (λ f. f.inferred) fs))
among_listed [] n = refl
among_listed (f ∷ fs) n = in_case f.inferred (among_listed fs n) where
  in_case : (b : Bool)
      → inferred_among fs n
      ≡ list_any (λ p. nat_eq p n) (map (λ f. f.policy) (filter (λ f. f.inferred) fs))
      → ((b && nat_eq f.policy n) || inferred_among fs n)
      ≡ list_any (λ p. nat_eq p n) (map (λ f. f.policy)
      (cond b (f ∷ filter (λ f. f.inferred) fs) (filter (λ f. f.inferred) fs)))
  in_case true h = ap (λ x. nat_eq f.policy n || x) h
  in_case false h = h

in_listed : (cs : List ClassInfo) (n : ℕ)
    → inferred_in cs n
    ≡ list_any (λ p. nat_eq p n)
    (map (λ f. f.policy) (filter (λ f. f.inferred) (flat_map (λ c. c.fields) cs)))
in_listed [] n = refl
in_listed (c ∷ cs) n =
    let own = filter (λ f. f.inferred) c.fields in
    let rest = filter (λ f. f.inferred) (flat_map (λ d. d.fields) cs) in
    ap (λ x. x || inferred_in cs n) (among_listed c.fields n)
    ∙ ap (λ x. list_any (λ p. nat_eq p n) (map (λ f. f.policy) own) || x) (in_listed cs n)
    ∙ sym (list_any-append (λ p. nat_eq p n) (map (λ f. f.policy) own) (map (λ f. f.policy) rest))
    ∙ ap (list_any (λ p. nat_eq p n))
    (sym (map-append (λ f. f.policy) own rest)
    ∙ ap (map (λ f. f.policy))
    (sym (filter-append (λ f. f.inferred) c.fields (flat_map (λ d. d.fields) cs))))

range_has : (a k n : ℕ) → a ≤ n → n < a + k
    → IsTrue (list_any (λ p. nat_eq p n) (range_with_len a k))
range_has a zero n low high = absurd (omega (arith, low, high))
range_has a (suc k) n low high = in_case (nat_eq a n) refl (range_has (a + 1) k n) where
  in_case : (b : Bool) → nat_eq a n ≡ b
      → (a + 1 ≤ n → n < a + 1 + k
      → IsTrue (list_any (λ p. nat_eq p n) (range_with_len (a + 1) k)))
      → IsTrue (list_any (λ p. nat_eq p n) (range_with_len a (suc k)))
  in_case true e rest =
      or_left (nat_eq a n) (list_any (λ p. nat_eq p n) (range_with_len (a + 1) k)) e
  in_case false e rest =
      or_right (nat_eq a n) (list_any (λ p. nat_eq p n) (range_with_len (a + 1) k))
      (rest (grind (arith, nat_tests)) (omega (arith, high)))

-- ---- a table

all_at : {A : Type 0} (P : A → Type 0) (xs : List A) (i : ℕ) (x : A) → AllByRecursion P xs
    → slice_get xs i ≡ Some x → P x
all_at P [] i x h e = absurd (cc e)
all_at P (y ∷ xs) zero x h e = let same : y ≡ x = cc e in subst P same h.0
all_at P (y ∷ xs) (suc i) x h e = all_at P xs i x h.1 e

pub not_below : (m n : ℕ) → nat_lt m n ≡ false → n ≤ m
not_below m n e = grind (arith, nat_tests)

module _ (table : Table) (is : ArePoliciesShared table) where
  abbrev ps : List (List Clause)
  ps = table.policies

  abbrev policy : ℕ → List Clause
  policy n = get_or ps n []

  -- a number that is not inferred is shared
  shared_so : (n : ℕ) → n < length ps → inferred table n ≡ false → n < is.shared
  shared_so n inside none = in_case (nat_lt n is.shared) refl where
    in_case : (b : Bool) → nat_lt n is.shared ≡ b → n < is.shared
    in_case true e = ltb-true n is.shared e
    in_case false e =
        let low = not_below n is.shared e in
        let count = is.count in
        let listed : IsTrue (list_any (λ p. nat_eq p n) (inferred_numbers table)) =
        subst (λ ns. IsTrue (list_any (λ p. nat_eq p n) ns)) (sym is.behind)
        (range_has is.shared (length (inferred_numbers table)) n low
        (omega (arith, inside, count))) in
        absurd (false≢true (sym none ∙ in_listed table.classes n ∙ listed))

  at_policy : (n : ℕ) → n < length ps → slice_get ps n ≡ Some (policy n)
  at_policy n inside = slice_get-get_or ps n [] inside

  normal_at : (n : ℕ) → n < length ps → IsNormal (policy n)
  normal_at n inside = all_at IsNormal ps n (policy n) is.normal (at_policy n inside)

  -- two that are below each other are one
  pub one_number : (m n : ℕ) → m < length ps → n < length ps → inferred table m ≡ false
      → inferred table n ≡ false → IsBelow (policy m) (policy n) → IsBelow (policy n) (policy m)
      → m ≡ n
  one_number m n im in_n km kn below above =
      in_order (nat_lt m n) (nat_lt n m) refl refl where
        alike : slice_get ps m ≡ slice_get ps n
        alike =
            at_policy m im
            ∙ ap Some (same_normal_forms (policy m) (policy n) (normal_at m im) (normal_at n in_n)
            below above)
            ∙ sym (at_policy n in_n)

        in_order : (b c : Bool) → nat_lt m n ≡ b → nat_lt n m ≡ c → m ≡ n
        in_order true c e k =
            absurd (is.differ m n (ltb-true m n e) (shared_so n in_n kn) alike)
        in_order false true e k =
            absurd (is.differ n m (ltb-true n m k) (shared_so m im km) (sym alike))
        in_order false false e k =
            let low = not_below m n e in
            let high = not_below n m k in
            omega (arith, low, high)
