-- Sets of locks within others.
use Rattle.std.proofs.Common.{◌≡◌, ℕ, ◌↔◌, Bool, true, false, ◌||◌, List, [], ◌∷◌, refl, sym, ap}
use Rattle.std.proofs.Common.{subst, ◌∙◌}
use Rattle.std.specs.Prelude.{IsTrue, nat_eq}
use Rattle.std.specs.List.{list_all}
use Rattle.std.proofs.lemmas.Bool.{and_parts, and_from, eqb-true, eq-eqb}
use Rattle.par_policy.specs.Numbers as numbers
use Rattle.par_bits.specs.Sets.{Set, none, adding, IsWithin}

pub within_nothing : (s : Set) → IsWithin none s
within_nothing s n h = cc

-- one lock
pub within_one : (s : Set) (n : ℕ) → IsTrue (s n) ↔ IsWithin (adding none n) s
within_one s n = (
  λ h m e. subst (λ k. IsTrue (s k)) (sym (eqb-true m n e)) h,
  λ h. h n (eq-eqb n n refl),
)

either : (b c : Bool) (C : Type 0) → (IsTrue b → C) → (IsTrue c → C) → IsTrue (b || c) → C
either true c C f g h = f refl
either false c C f g h = g h

left : (b c : Bool) → IsTrue b → IsTrue (b || c)
left true c h = refl
left false c h = cc

right : (b c : Bool) → IsTrue c → IsTrue (b || c)
right true c h = refl
right false c h = h

-- the locks of a list
pub within_list : (s : Set) (locks : List ℕ) → IsTrue (list_all (λ n. s n) locks)
    ↔ IsWithin (numbers.has locks) s
within_list s [] = (λ h n e. absurd (no n e), λ h. refl) where
  no : (n : ℕ) → IsTrue (numbers.has [] n) → ⊥
  no n e = cc
within_list s (l ∷ ls) = (
  λ h n e.
      let parts = and_parts (s l) (list_all (λ k. s k) ls) h in
      either (nat_eq l n) (numbers.has ls n) (IsTrue (s n))
      (λ x. subst (λ k. IsTrue (s k)) (eqb-true l n x) parts.0) ((within_list s ls).0 parts.1 n)
      e,
  λ h.
      and_from (s l) (list_all (λ k. s k) ls)
      (h l (left (nat_eq l l) (numbers.has ls l) (eq-eqb l l refl)))
      ((within_list s ls).1 (λ n e. h n (right (nat_eq l n) (numbers.has ls n) e))),
)

-- a test of all locks of a list
pub tested_by : (s t : Set) (b : Bool) (xs ys : List ℕ) → s ≡ numbers.has xs → ys ≡ xs
    → b ≡ list_all (λ n. t n) ys → IsTrue b ↔ IsWithin s t
tested_by s t b xs ys is same tests =
    let iff = within_list t xs in
    let all : b ≡ list_all (λ n. t n) xs = tests ∙ ap (list_all (λ n. t n)) same in (
      λ h. subst (λ r. IsWithin r t) (sym is) (iff.0 (sym all ∙ h)),
      λ h. all ∙ iff.1 (subst (λ r. IsWithin r t) is h),
    )

pub ruleset within = (within_nothing, within_one, within_list)
