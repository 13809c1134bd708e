-- The fields of the class of locks have the names that linking looks for.
use Rattle.std.proofs.Common.{◌≡◌, ℕ, zero, suc, ◌<◌, Bool, true, false, ◌&&◌, nat_lt, Option, Some}
use Rattle.std.proofs.Common.{None, refl, ap, ◌∙◌, arith}
use Rattle.std.proofs.lemmas.Bool.{and_parts, ltb-true, ltb-false}
use Rattle.std.specs.Fmt.{digits}
use Rattle.par_loader.specs.par_link.entry.Builtin.TheVariants.{Locks}
use Rattle.par_loader.specs.par_link.Builtins.{lock_number, builtin_field, lock_or_nothing}
use Rattle.par_loader.specs.par_link.Rules.{is_nothing}
use Rattle.par_compile_laws.specs.par_code_form.PoolNames.{LOCKS, LOCK_TYPE, lock_field}

-- whether the field of a lock is one that there is
abbrev is_numbered : Option ℕ → Bool
is_numbered None = false
is_numbered (Some n) = true

abbrev has_number : ℕ → Bool
has_number lock = is_numbered (lock_number (lock_field lock))

-- it passes for each number below this one
abbrev all_below : ℕ → Bool
all_below zero = true
all_below (suc n) = has_number n && all_below n

below : (n k : ℕ) → all_below n ≡ true → k < n → has_number k ≡ true
below zero k all within = absurd (omega (arith, within))
below (suc n) k all within = by_case (nat_lt k n) refl (below n k both.1) where
  both : (has_number n ≡ true) × (all_below n ≡ true)
  both = and_parts (has_number n) (all_below n) all

  by_case : (b : Bool) → nat_lt k n ≡ b → (k < n → has_number k ≡ true) → has_number k ≡ true
  by_case true is earlier = earlier (ltb-true k n is)
  by_case false is earlier =
      let same : k ≡ n = omega (arith, within, ltb-false k n is) in ap has_number same ∙ both.0

all-locks : all_below 256 ≡ true
unfolding lock_number digits
all-locks = refl

numbered-there : (o : Option ℕ) → is_numbered o ≡ true → is_nothing (lock_or_nothing o) ≡ false
numbered-there None some = absurd (cc some)
numbered-there (Some n) some = refl

-- each of the 256 locks has a field
pub lock-there : (lock : ℕ) → lock < 256
    → is_nothing (builtin_field Locks
    (record { class = LOCKS; name = lock_field lock; descriptor = LOCK_TYPE }))
    ≡ false
unfolding builtin_field
lock-there lock within =
    numbered-there (lock_number (lock_field lock)) (below 256 lock all-locks within)
