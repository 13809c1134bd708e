-- Sets of small numbers as bits.
use Rattle.std.proofs.Common.{◌≡◌, ℕ, Bool, ◌↔◌, Option, Some, List, Contains, sym, subst}
use Rattle.std.specs.Prelude.{IsTrue}
use Rattle.std.proofs.lemmas.List.Elements.{All-contains}
use Rattle.par_bits.specs.Sets as bits
use Rattle.par_policy.specs.Numbers.{has, within}
use Rattle.par_policy.specs.Marks.{AreMarks}
use Rattle.par_policy.proofs.Members.{Contains-from_has, has-from_Contains, All-from_within}
use Rattle.par_policy.proofs.Members.{within-from_All, All-from_members}
use Rattle.par_policy.proofs.Seen.{same_tests}

-- the bits are those of the numbers
abbrev pub Mark : ℕ → List ℕ → Type 0
Mark b numbers = (n : ℕ) → bits.has b n ≡ has numbers n

-- where a set of locks keeps them, they are those of what it is seen as
pub marks_at : (marks : Option ℕ) (xs ys : List ℕ) (b : ℕ) → AreMarks marks xs → marks ≡ Some b
    → xs ≡ ys → Mark b ys
marks_at marks xs ys b are is same = subst (Mark b) same (subst (λ m. AreMarks m xs) is are)

-- sets are within each other where their bits are
pub marks_within : (b c : ℕ) (xs ys : List ℕ) (test : Bool) → Mark b xs → Mark c ys
    → IsTrue test ↔ bits.IsWithin (bits.has b) (bits.has c) → test ≡ within xs ys
marks_within b c xs ys test one other tells =
    same_tests test (within xs ys)
    (λ h. within-from_All xs ys (All-from_members (Contains ys) xs (λ n in_xs.
    Contains-from_has ys n (subst IsTrue (other n)
    (tells.0 h n (subst IsTrue (sym (one n)) (has-from_Contains xs n in_xs)))))))
    (λ h. tells.1 (λ n in_one.
    subst IsTrue (sym (other n)) (has-from_Contains ys n
    (All-contains (Contains ys) xs n (All-from_within xs ys h)
    (Contains-from_has xs n (subst IsTrue (one n) in_one))))))
