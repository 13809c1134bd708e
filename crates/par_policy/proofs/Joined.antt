-- Steps of the loops over sets of numbers.
use Rattle.std.proofs.Common.{◌≡◌, ℕ, ◌+◌, ◌<◌, ◌≤◌, ◌↔◌, true, false, List, [], ◌∷◌, ◌++◌, length}
use Rattle.std.proofs.Common.{take, get_or, Contains, All, refl, sym, subst, inl, inr, ⊎_elim}
use Rattle.std.specs.Prelude.{IsTrue}
use Rattle.std.proofs.lemmas.Bool.{false≢true}
use Rattle.std.proofs.lemmas.List.{take_more, take_all}
use Rattle.std.proofs.lemmas.List.Elements.{All-get_or, All-contains, Contains-get_or}
use Rattle.std.proofs.lemmas.List.Elements.{Contains-append_left, Contains-push}
use Rattle.std.proofs.lemmas.List.Elements.{Contains-push_cases}
use Rattle.par_policy.specs.declared.clauses.Clause.{Clause}
use Rattle.par_policy.specs.Numbers.{Gains, GainsAll}
use Rattle.par_policy.specs.Order.{IsBelowAt, IsJoinBelowAt, policies_of}
use Rattle.par_policy.proofs.Below.{join_below-from_each, each_below-from_join}

-- a set that has all of a list's front gains its next number
pub gains_more : (old both next more : List ℕ) (i : ℕ) → i < length more
    → GainsAll old both (take i more) → Gains both next (get_or more i 0)
    → GainsAll old next (take (i + 1) more)
gains_more old both next more i inside before step n =
    let x = get_or more i 0 in
    let e : take (i + 1) more ≡ take i more ++ x ∷ [] = take_more more i 0 inside in (
      λ h.
          ⊎_elim
          (λ in_both.
          ⊎_elim (λ in_old. inl in_old)
          (λ in_front. inr (subst (λ l. Contains l n) (sym e)
          (Contains-append_left (take i more) (x ∷ []) n in_front)))
          ((before n).0 in_both))
          (λ same. inr (subst (λ l. Contains l n) (sym e)
          (subst (Contains (take i more ++ x ∷ [])) (sym same) (Contains-push (take i more) x))))
          ((step n).0 h),
      λ h.
          (step n).1
          (⊎_elim (λ in_old. inl ((before n).1 (inl in_old)))
          (λ in_more.
          ⊎_elim (λ in_front. inl ((before n).1 (inr in_front))) (λ same. inr (sym same))
          (Contains-push_cases (take i more) x n (subst (λ l. Contains l n) e in_more))) h),
    )

pub gains_whole : (old both more other : List ℕ) (i : ℕ) → length more ≤ i → more ≡ other
    → GainsAll old both (take i more) → GainsAll old both other
gains_whole old both more other i past e h =
    subst (GainsAll old both) e (subst (GainsAll old both) (take_all i more past) h)

-- one policy that is not below q
pub join_not_below : (table : List (List Clause)) (ns : List ℕ) (opened : List ℕ) (q : List Clause)
    (i : ℕ) → i < length ns
    → (IsBelowAt (get_or table (get_or ns i 0) []) opened q → ⊥)
    → IsTrue false ↔ IsJoinBelowAt (policies_of table ns) opened q
join_not_below table ns opened q i inside not = (
  λ no. absurd (false≢true no),
  λ h.
      absurd
      (not (All-get_or (λ n. IsBelowAt (get_or table n []) opened q) ns i 0 inside
      (each_below-from_join (λ n. get_or table n []) ns opened q h))),
)

pub join_below : (table : List (List Clause)) (ns : List ℕ) (opened : List ℕ) (q : List Clause)
    → All (λ n. IsBelowAt (get_or table n []) opened q) ns
    → IsTrue true ↔ IsJoinBelowAt (policies_of table ns) opened q
join_below table ns opened q h =
    (λ _. join_below-from_each (λ n. get_or table n []) ns opened q h, λ _. refl)

-- what holds of a set and of what it gains holds of the new set, as that numbers are in range
pub All-gains : (P : ℕ → Type 0) (old new : List ℕ) (number : ℕ) → Gains old new number → All P old
    → P number → All P new
All-gains P old new number gains all one k d inside =
    let x = get_or new k d in
    ⊎_elim (λ in_old. All-contains P old x all in_old) (λ same. subst P (sym same) one)
    ((gains x).0 (Contains-get_or new k d inside))
