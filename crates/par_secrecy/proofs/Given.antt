-- What a channel is given stands on its first line.
use Rattle.std.proofs.Common.{◌≡◌, ℕ, suc, Bool, true, false, cond, if◌then◌else◌, nat_lt, List, []}
use Rattle.std.proofs.Common.{◌∷◌, length, Option, Some, None, refl, sym, ap, ◌∙◌, arith}
use Rattle.std.proofs.lemmas.Bool.{lt-ltb}
use Rattle.std.proofs.lemmas.Bool.Decides.{nat_tests}
use Rattle.std.specs.List.{position, position_or_len}
use Rattle.std.specs.Option.{option_map}
use Rattle.par_values.specs.declared.inputs.ChannelInput.{ChannelInput}
use Rattle.par_secrecy.specs.Subject.{Name, given, is_of, numbers_at}

-- ---- the first place

shifted : (n m : ℕ) → nat_lt (suc n) (suc m) ≡ nat_lt n m
shifted n m = grind (arith, nat_tests)

module _ {A : Type 0} (test : A → Bool) (x : A) (xs : List A) where
  pub first_passes : test x ≡ true → position test (x ∷ xs) ≡ Some 0
  first_passes passes =
      let place : position_or_len test (x ∷ xs) ≡ 0 = rw passes refl in
      ap (λ (n : ℕ). cond (nat_lt n (length (x ∷ xs))) (Some n) None) place
      ∙ ap (λ (b : Bool). cond b (Some 0) None) (lt-ltb 0 (length (x ∷ xs)) (omega arith))

  pub first_fails : test x ≡ false → position test (x ∷ xs) ≡ option_map suc (position test xs)
  first_fails fails =
      let place : position_or_len test (x ∷ xs) ≡ suc (position_or_len test xs) =
      rw fails (omega arith) in
      ap (λ (n : ℕ). cond (nat_lt n (length (x ∷ xs))) (Some n) None) place
      ∙ ap (λ (b : Bool). cond b (Some (suc (position_or_len test xs))) None)
      (shifted (position_or_len test xs) (length xs))
      ∙ in_case (nat_lt (position_or_len test xs) (length xs))
    where
      in_case : (b : Bool) → cond b (Some (suc (position_or_len test xs))) None
          ≡ option_map suc (cond b (Some (position_or_len test xs)) None)
      in_case true = refl
      in_case false = refl

-- ---- the line of a channel

at_place : (place : Option ℕ) (line : ChannelInput) (lines : List ChannelInput)
    → numbers_at (option_map suc place) (line ∷ lines) ≡ numbers_at place lines
at_place None line lines = refl
at_place (Some place) line lines = refl

-- by any test that tells the lines of a channel
module _ (class name : Name) (test : ChannelInput → Bool)
    (same : (line : ChannelInput) → test line ≡ is_of class name line) where
  pub given_first : (lines : List ChannelInput)
      → given lines class name ≡ numbers_at (position test lines) lines
  given_first [] = refl
  given_first (line ∷ lines) = in_case (test line) (given_first lines) refl
    where
      by_test : (b : Bool) → test line ≡ b
          → given (line ∷ lines) class name ≡ (if b then line.numbers else given lines class name)
      by_test b is =
          ap (λ (b : Bool). if b then line.numbers else given lines class name)
          (sym (same line) ∙ is)

      in_case : (b : Bool) → given lines class name ≡ numbers_at (position test lines) lines
          → test line ≡ b
          → given (line ∷ lines) class name
          ≡ numbers_at (position test (line ∷ lines)) (line ∷ lines)
      in_case true later is =
          by_test true is
          ∙ ap (λ (place : Option ℕ). numbers_at place (line ∷ lines))
          (sym (first_passes test line lines is))
      in_case false later is =
          by_test false is ∙ later
          ∙ sym (at_place (position test lines) line lines)
          ∙ ap (λ (place : Option ℕ). numbers_at place (line ∷ lines))
          (sym (first_fails test line lines is))
