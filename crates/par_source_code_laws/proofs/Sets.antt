-- The locals that are set, where two lists tell of them.
use Rattle.std.proofs.Common.{◌≡◌, ℕ, zero, suc, ◌+◌, ◌<◌, Bool, true, false, ◌||◌, List}
use Rattle.std.proofs.Common.{◌∷◌, refl, arith, ◌⊎◌, inl, inr}
use Rattle.std.specs.Prelude.{nat_eq, IsTrue}
use Rattle.std.specs.List.{range_with_len}
use Rattle.std.proofs.lemmas.Bool.{eqb-true}
use Rattle.std.proofs.lemmas.Bool.Decides.{eqb_tells}
use Rattle.par_policy.specs.Numbers.{has}
use Rattle.par_typed.specs.Plain.{TSta, Block, If, While, Try, Return, Break, Continue, Throw, Open}
use Rattle.par_typed.specs.Plain.{Close, SetLocal, SetStatic, SetField, Eval, When}
use Rattle.par_typed.specs.declared.table.Table.{Table}
use Rattle.par_typed_laws.specs.par_program_laws.Locals.{IsSet, behind}
use Rattle.par_erase.specs.Asked.{Locks}
use Rattle.par_erase.specs.Erased.{erased_sta, set_if}
use Rattle.par_evaluation_laws.specs.Laid as laid
use Rattle.par_evaluation_laws.specs.Programs.{first_set}

-- the second list has all that the first has
abbrev pub Within : List ℕ → List ℕ → Type 0
Within set more = (x : ℕ) → IsSet set x → IsSet more x

or_less : (p q r : Bool) → (IsTrue q → IsTrue r) → IsTrue (p || q) → IsTrue (p || r)
or_less true q r f h = h
or_less false q r f h = f h

one_more : (x : ℕ) (set more : List ℕ) → Within set more → Within (x ∷ set) (x ∷ more)
one_more x set more within y h =
    or_less (nat_eq x y) (has set y) (has more y) (within y) h

behind_lock : (b : Bool) (lock : ℕ) (opens : Bool) (set more : List ℕ) → Within set more
    → Within set (laid.behind more (set_if b lock opens))
behind_lock true lock true set more within = within
behind_lock true lock false set more within = within
behind_lock false lock opens set more within = within

module _ (t : Table) (asked : Locks) (set more : List ℕ) (within : Within set more) where
  pub behind_within : (s : TSta)
      → Within (behind set s) (laid.behind more (erased_sta t asked s))
  unfolding behind erased_sta
  behind_within (Block ss at p) = within
  behind_within (If e s o at p) = within
  behind_within (While e s at p) = within
  behind_within (Try s cs at p) = within
  behind_within (Return o at p) = within
  behind_within (Break at p) = within
  behind_within (Continue at p) = within
  behind_within (Throw c at p) = within
  behind_within (Open l at p) = behind_lock (asked l) l true set more within
  behind_within (Close l at p) = behind_lock (asked l) l false set more within
  behind_within (SetLocal x q e at p) = one_more x set more within
  behind_within (SetStatic c f e at p) = within
  behind_within (SetField o c f e at p) = within
  behind_within (Eval e at p) = within
  behind_within (When l s o at p) = within

-- ---- those that a call sets

one_or : (p q : Bool) → IsTrue (p || q) → (p ≡ true) ⊎ IsTrue q
one_or true q h = inl refl
one_or false q h = inr h

or_one : (p q : Bool) → (p ≡ false → IsTrue q) → IsTrue (p || q)
or_one true q f = refl
or_one false q f = f refl

in_range : (from n x : ℕ) → IsTrue (has (range_with_len from n) x) → x < from + n
in_range from zero x h = absurd (cc)
in_range from (suc n) x h =
    elim (one_or (nat_eq from x) (has (range_with_len (from + 1) n) x) h) [
      | inl is ↦ omega (arith, eqb-true from x is)
      | inr later ↦ omega (arith, in_range (from + 1) n x later)
    ]

below : (n x : ℕ) → x < suc n → nat_eq n x ≡ false → x < n
below n x h other = elim (eqb_tells n x) [
  | inl is ↦ absurd (cc (is.0, other))
  | inr apart ↦ omega (arith, apart.1)
]

first : (n x : ℕ) → x < n → IsTrue (has (first_set n) x)
first zero x h = absurd (omega arith)
first (suc n) x h =
    or_one (nat_eq n x) (has (first_set n) x) (λ other. first n x (below n x h other))

pub call_within : (n : ℕ) → Within (range_with_len 0 n) (first_set n)
call_within n x h = first n x (omega (arith, in_range 0 n x h))
