-- What a near clause adds to a clause, by bits.
use Rattle.std.proofs.Common.{◌≡◌, ℕ, Bool, true, false, not, ◌||◌, ◌↔◌, List, ◌++◌, Contains}
use Rattle.std.proofs.Common.{refl, sym, subst}
use Rattle.std.specs.Prelude.{IsTrue, nat_eq}
use Rattle.std.proofs.lemmas.Bool.{and_parts, and_from, false≢true}
use Rattle.std.proofs.lemmas.List.Elements.{All-contains}
use Rattle.std.proofs.lemmas.List.Folds.{list_any-append}
use Rattle.par_typed.specs.par_policy.declared.clauses.Clause.{Clause}
use Rattle.par_typed.specs.par_policy.par_bits.Sets as bits
use Rattle.par_typed.specs.par_policy.Numbers.{has, within}
use Rattle.par_typed.proofs.par_policy.Marks.{Mark}
use Rattle.par_typed.proofs.par_policy.Members.{Contains-from_has, has-from_Contains}
use Rattle.par_typed.proofs.par_policy.Members.{All-from_within, within-from_All}
use Rattle.par_typed.proofs.par_policy.Members.{All-from_members}
use Rattle.par_typed.proofs.par_policy.Seen.{same_tests}
use Rattle.par_resolved.specs.Nearest.{IsAdded}

either : (xs ys : List ℕ) (n : ℕ) → has (xs ++ ys) n ≡ (has xs n || has ys n)
either xs ys n = list_any-append (λ held. nat_eq held n) xs ys

other_one : (a b : Bool) → IsTrue (not a) → IsTrue (a || b) → IsTrue b
other_one true b h k = absurd (false≢true h)
other_one false b h k = k

one_of_two : (a b : Bool) → (IsTrue (not a) → IsTrue b) → IsTrue (a || b)
one_of_two true b h = refl
one_of_two false b h = h refl

-- what the near one adds is of the other one where its bits are
module _ (near c d : Clause) where
  both : List ℕ
  both = c.locks ++ d.locks

  pub added_within : (added marks : ℕ) (test : Bool) → IsAdded near c added → Mark marks d.locks
      → IsTrue test ↔ bits.IsWithin (bits.has added) (bits.has marks)
      → test ≡ within near.locks (c.locks ++ d.locks)
  unfolding both
  added_within added marks test is_added is_other tells =
      same_tests test (within near.locks both)
      (λ h. within-from_All near.locks both (All-from_members (Contains both) near.locks
      (λ n among. Contains-from_has both n (subst IsTrue (sym (either c.locks d.locks n))
      (one_of_two (has c.locks n) (has d.locks n) (λ lacks.
      subst IsTrue (is_other n) (tells.0 h n (subst IsTrue (sym (is_added n))
      (and_from (has near.locks n) (not (has c.locks n)) (has-from_Contains near.locks n among)
      lacks)))))))))
      (λ h. tells.1 (λ n more.
      let parts = and_parts (has near.locks n) (not (has c.locks n))
      (subst IsTrue (is_added n) more) in
      subst IsTrue (sym (is_other n)) (other_one (has c.locks n) (has d.locks n) parts.1
      (subst IsTrue (either c.locks d.locks n) (has-from_Contains both n
      (All-contains (Contains both) near.locks n (All-from_within near.locks both h)
      (Contains-from_has near.locks n parts.0)))))))
