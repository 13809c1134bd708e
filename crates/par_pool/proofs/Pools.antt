-- A constant pool is read exactly.
use Rattle.std.proofs.Common.{◌≡◌, ℕ, zero, suc, ◌+◌, ◌-◌, ◌^◌, ◌<◌, ◌≤◌, Bool, true, cond, ltb}
use Rattle.std.proofs.Common.{eqb, List, [], ◌∷◌, length, Option, Some, None, Ok, Err, refl, sym}
use Rattle.std.proofs.Common.{ap, subst, ◌∙◌, inl, inr, arith}
use Rattle.std.specs.Prelude.{IsTrue, not}
use Rattle.std.specs.List.{flat_map, list_all, AllByRecursion, position_or_len}
use Rattle.std.proofs.lemmas.Bool.{cases_Bool, and_parts, and_from, ltb-false, le-ltb, eqb-true}
use Rattle.std.proofs.lemmas.Bool.{eqb-false}
use Rattle.std.proofs.lemmas.Option.{none-some}
use Rattle.par_pool.specs.declared.constant.Constant.{Constant}
use Rattle.par_pool.specs.declared.error.ClassError.{ClassError}
use Rattle.par_pool.specs.declared.error.ClassError.TheVariants.{Pool}
use Rattle.par_pool.specs.Reading.{keyed, items, u2_at}
use Rattle.par_pool.specs.Spelling.{constant, pool, refers, Fits, IsPool}
use Rattle.par_pool.specs.Constants.{constant_at, first_astray, checked, counted, pool_at}
use Rattle.par_pool.proofs.Exact.{Takes, Exact, bind_ok, ok_is, exact_u2, exact_keyed}
use Rattle.par_pool.proofs.Items.{exact_items}
use Rattle.par_pool.proofs.Spelled.{exact_same, exact_constant}

some-none : (n : ℕ) → Some n ≡ None → ⊥
some-none n e = none-some n (sym e)

one-or_more : (n : ℕ) → (n ≡ 0 → ⊥) → 1 ≤ n
one-or_more zero h = absurd (h refl)
one-or_more (suc n) h = omega arith

module _ {X : Type 0} (p : X → Bool) where
  none-all : (xs : List X) → length xs ≤ position_or_len (λ x. not (p x)) xs → list_all p xs ≡ true
  none-all [] h = refl
  none-all (x ∷ xs) h =
      elim (cases_Bool (p x)) [
        | inl e ↦ and_from _ _ e (none-all xs (omega (arith, rw e at h)))
        | inr e ↦ absurd (omega (arith, rw e at h))
      ]

  all-none : (xs : List X) → list_all p xs ≡ true → length xs ≤ position_or_len (λ x. not (p x)) xs
  all-none [] h = omega arith
  all-none (x ∷ xs) h =
      let parts = and_parts (p x) (list_all p xs) h in
      let rest : length xs ≤ position_or_len (λ x. not (p x)) xs = all-none xs parts.1 in
      rw parts.0 (omega (arith, rest))

  none-is : (n : ℕ) (xs : List X) → cond (ltb n (length xs)) (Some n) None ≡ None → length xs ≤ n
  none-is n xs e =
      elim (cases_Bool (ltb n (length xs))) [
        | inl t ↦ absurd (some-none n (sym (ap (λ b. cond b (Some n) None) t) ∙ e))
        | inr f ↦ ltb-false n (length xs) f
      ]

-- no constant is astray exactly where each index is of its kind
none-astray : (entries : List Constant) → first_astray entries ≡ None
    → IsTrue (list_all (refers entries) entries)
none-astray entries e =
    none-all (refers entries) entries
    (none-is (refers entries) (position_or_len (λ c. not (refers entries c)) entries) entries e)

astray-none : (entries : List Constant) → IsTrue (list_all (refers entries) entries)
    → first_astray entries ≡ None
astray-none entries h =
    ap (λ b. cond b (Some (position_or_len (λ c. not (refers entries c)) entries)) None)
    (le-ltb _ _ (all-none (refers entries) entries h))

-- the constants that stand behind their number
abbrev IsCounted : ℕ → List Constant → Type 0
IsCounted n entries = (length entries + 1 ≡ n) × AllByRecursion Fits entries

exact-counted : (short : ClassError) (n : ℕ)
    → Exact (IsCounted n) (λ entries. flat_map constant entries) (counted short n)
exact-counted short n =
    let P : Bool → Type 0 =
    λ b. Exact (IsCounted n) (λ entries. flat_map constant entries)
    (λ bytes. cond b (Err (Pool 0)) (items (constant_at short) (n - 1) 1 bytes)) in
    elim (cases_Bool (eqb n 0)) [
      | inl e ↦ subst P (sym e)
          (record {
            takes = λ bytes x fits h. absurd cc;
            again = λ x rest h. absurd (omega (arith, h.0, eqb-true n 0 e));
          })
      | inr e ↦ subst P (sym e)
          (exact_same (IsCounted n) (λ entries. flat_map constant entries)
          (λ entries h. (omega (arith, h.0, one-or_more n (eqb-false n 0 e)), h.1))
          (λ entries h. ((omega (arith, h.0), h.1), refl))
          (exact_items (exact_constant short) (n - 1) 1))
    ]

exact-entries : (short : ClassError)
    → Exact (λ entries. (length entries + 1 < 2 ^ 16) × AllByRecursion Fits entries) pool
    (keyed (u2_at short) (counted short))
unfolding pool
exact-entries short =
    exact_keyed {G = λ entries. AllByRecursion Fits entries}
    {q = λ entries. flat_map constant entries} (λ entries. length entries + 1) (exact_u2 short)
    (λ n h. exact-counted short n)

checked-ok : (entries : List Constant) (rest : List ℕ) (o : Option ℕ) (x : List Constant × List ℕ)
    → checked entries rest o ≡ Ok x → (o ≡ None) × ((entries, rest) ≡ x)
checked-ok entries rest None x e = (refl, ok_is (entries, rest) x e)
checked-ok entries rest (Some place) x e = absurd cc

pub exact_pool : (short : ClassError) → Exact IsPool pool (pool_at short)
unfolding pool_at
exact_pool short = record {
  takes = λ bytes x fits e.
      let a =
      bind_ok (keyed (u2_at short) (counted short) bytes)
      (λ read. checked read.0 read.1 (first_astray read.0)) x e in
      let t = (exact-entries short).takes bytes a.0 fits a.1 in
      let k = checked-ok a.0.0 a.0.1 (first_astray a.0.0) x a.2 in
      let P : List Constant × List ℕ → Type 0 = λ y. Takes bytes (pool y.0) y.1 × IsPool y.0 in
      subst P k.1 (t.0, record { few = t.1.0; fits = t.1.1; refer = none-astray a.0.0 k.0 });
  again = λ entries rest h.
      rw (
        (exact-entries short).again entries rest (h.few, h.fits),
        astray-none entries h.refer,
      ) refl;
}
