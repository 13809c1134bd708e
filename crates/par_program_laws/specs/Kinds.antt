-- How an expression or a statement completes.
use Rattle.std.specs.Prelude.{ℕ, Bool, true, false, ◌||◌, nat_eq, List}
use Rattle.par_typed.specs.par_policy.Numbers.{has}

pub data Kind : Type 0 where
  Normal : Kind
  Return : Kind
  Break : Kind
  Continue : Kind
  -- an exception of the class
  Throw : (class : ℕ) → Kind

abbrev pub same : Kind → Kind → Bool
same Normal Normal = true
same Return Return = true
same Break Break = true
same Continue Continue = true
same (Throw c) (Throw d) = nat_eq c d
same _ _ = false

-- what goes on at the next part
abbrev pub normal : Kind → Bool
normal k = same k Normal

-- what goes on in the loop, or behind it
abbrev pub of_loop : Kind → Bool
of_loop k = (same k Normal || same k Break) || same k Continue

-- what goes on behind a `try` or in a catch of one of these classes
abbrev pub of_try : List ℕ → Kind → Bool
of_try classes (Throw c) = has classes c
of_try classes k = normal k

-- ArithmeticException and NullPointerException
abbrev pub ARITHMETIC : ℕ
ARITHMETIC = 0

abbrev pub NULL_POINTER : ℕ
NULL_POINTER = 1

-- what takes exits of a part for itself: the next part, the loop around, or catches of these
-- classes
pub data Absorber : Type 0 where
  Next : Absorber
  Loop : Absorber
  Catches : (classes : List ℕ) → Absorber

abbrev pub absorbed : Absorber → Kind → Bool
absorbed Next = normal
absorbed Loop = of_loop
absorbed (Catches classes) = of_try classes
