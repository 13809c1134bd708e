-- Which numbers are told, test by test.
use Rattle.std.proofs.Common.{◌≡◌, ℕ, ◌+◌, ◌<◌, Bool, true, false, not, ◌&&◌, List, refl, sym, ap}
use Rattle.std.proofs.Common.{subst, add-one}
use Rattle.par_policy.specs.declared.clauses.Clause.{Clause}
use Rattle.par_bits.specs.Sets.{Set}
use Rattle.par_infer.specs.Bounds.{any_below}
use Rattle.par_infer.specs.Printed.{above}
use Rattle.par_infer.proofs.Replaced.{any_in}
use Rattle.par_told.specs.Told.{is_below, having, none_above, told}

any_more : (k : ℕ) (p : Set) → not (any_below k p) ≡ true → p k ≡ false
    → not (any_below (k + 1) p) ≡ true
any_more k p none free =
    subst (λ j. not (any_below j p) ≡ true) (sym (add-one k)) (rw free none)

and_no : (a : Bool) → (a && false) ≡ false
and_no true = refl
and_no false = refl

module _ (ps : List (List Clause)) (s : Set) (n : ℕ) where
  pub none_first : none_above ps s n 0 ≡ true
  unfolding none_above
  none_first = refl

  -- the next number is not above either
  pub none_more : (k : ℕ) → none_above ps s n k ≡ true
      → above (is_below ps) (having ps s) n k ≡ false → none_above ps s n (k + 1) ≡ true
  unfolding none_above
  none_more k none free = any_more k (above (is_below ps) (having ps s) n) none free

  beaten : (m k : ℕ) → m < k → above (is_below ps) (having ps s) n m ≡ true
      → none_above ps s n k ≡ false
  unfolding none_above
  beaten m k lt h = ap not (any_in k (above (is_below ps) (having ps s) n) m lt h)

  pub told_none : having ps s n ≡ false → told ps s n ≡ false
  unfolding told
  told_none e = rw e refl

  -- a number that another is above is not told
  pub told_beaten : (m : ℕ) → m < 256 → above (is_below ps) (having ps s) n m ≡ true
      → told ps s n ≡ false
  unfolding told
  told_beaten m lt h = rw (beaten m 256 lt h) (and_no (having ps s n))

  pub told_so : having ps s n ≡ true → none_above ps s n 256 ≡ true → told ps s n ≡ true
  unfolding told
  told_so one none = rw (one, none) refl
