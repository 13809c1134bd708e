-- The lower bounds of inferred fields, as sets of policy numbers.
use Rattle.std.specs.Prelude.{◌≡◌, ℕ, zero, suc, Bool, false, not, ◌||◌, ◌&&◌, nat_eq}
use Rattle.std.specs.Prelude.{Option, Some, None, List, [], ◌∷◌, map, IsTrue}
use Rattle.par_bits.specs.Sets.{Set, none, adding, union}
use Rattle.par_typed.specs.declared.table.Table.{Table}
use Rattle.par_typed.specs.declared.table.ClassInfo.{ClassInfo}
use Rattle.par_typed.specs.declared.table.FieldInfo.{FieldInfo}
use Rattle.par_typed.specs.Plain.{Body}
use Rattle.par_program_laws.specs.Lattice.{numbers}
use Rattle.par_program_laws.specs.Ways.{Way}
use Rattle.par_program_laws.specs.Facts.{Facts}
use Rattle.par_program_laws.specs.Rules.{way}
use Rattle.par_check.specs.par_check_laws.Asked.{Condition, Open, Released, Worth, Joined}
use Rattle.par_check.specs.par_check_laws.Asked.{Context}
use Rattle.par_check.specs.par_check_laws.Asked.{Effect, Among}
use Rattle.par_check.specs.par_check_laws.Asked.{Never, Check}
use Rattle.par_check.specs.par_check_laws.Checks.{checks}
use Rattle.par_infer.specs.Keeps.{limit}

-- ---- bounds

-- the policies of what is compared
abbrev pub compared : Facts numbers → Way numbers → Condition → Set
compared f w (Released v p) = (f v).value
compared f w (Worth v p) = (f v).value
compared f w (Joined v p) = union (f v).value w.context
compared f w (Context p) = w.context
compared f w (Effect e p) = adding none e
compared f w (Open locks) = none
compared f w (Among locks those) = none
compared f w Never = none

abbrev pub is_at : Option ℕ → ℕ → Bool
is_at None i = false
is_at (Some p) i = nat_eq p i

abbrev pub compared_at : Facts numbers → Option (Way numbers) → Condition → Set
compared_at f None c = none
compared_at f (Some w) c = compared f w c

-- what a rule asks the policy of the number to be above
abbrev pub asked_above : Facts numbers → Check → ℕ → Set
asked_above f c i n =
    is_at (limit c.condition) i
    && compared_at f
    (way numbers (f c.spot.point).entry (map f c.spot.parts) c.spot.from) c.condition n

abbrev pub all_above : Facts numbers → List Check → ℕ → Set
all_above f [] i n = false
all_above f (c ∷ cs) i n = asked_above f c i n || all_above f cs i n

-- the birth policy of a class is below those of the inferred fields of its objects
abbrev pub born_above : ℕ → List FieldInfo → ℕ → Set
born_above birth [] i n = false
born_above birth (f ∷ fs) i n =
    ((f.inferred && not f.is_static) && (nat_eq f.policy i && nat_eq birth n))
    || born_above birth fs i n

abbrev pub births_above : List ClassInfo → ℕ → Set
births_above [] i n = false
births_above (c ∷ cs) i n = born_above c.birth c.fields i n || births_above cs i n

-- in the bodies, each with its facts
abbrev pub bodies_above : Table → List Body → List (Facts numbers) → ℕ → Set
bodies_above table [] fs i n = false
bodies_above table (b ∷ bs) [] i n = false
bodies_above table (b ∷ bs) (f ∷ fs) i n =
    all_above f (checks table b) i n || bodies_above table bs fs i n

-- all that the policy of an inferred field is above, inferred numbers among them
abbrev pub bounds : Table → List Body → List (Facts numbers) → ℕ → Set
bounds table bs fs i n = births_above table.classes i n || bodies_above table bs fs i n

-- ---- sets with inferred numbers replaced

-- each number of the set is in the other, and that of an inferred field's set where it is inferred
abbrev pub IsCovered : Set → (ℕ → Set) → Set → Set → Type 0
IsCovered is σ s t =
    (n : ℕ) → IsTrue (s n)
    → (is n ≡ false → IsTrue (t n)) × (IsTrue (is n) → (m : ℕ) → IsTrue (σ n m) → IsTrue (t m))

-- the sets meet the bounds
abbrev pub Cover : Set → (ℕ → Set) → (ℕ → Set) → Type 0
Cover is b σ = (i : ℕ) → IsTrue (is i) → IsCovered is σ (b i) (σ i)

abbrev pub any_below : ℕ → Set → Bool
any_below zero p = false
any_below (suc k) p = p k || any_below k p

-- an inferred number is replaced by the set of its field
abbrev pub replaced : Set → (ℕ → Set) → Set → Set
replaced is σ s n =
    (s n && not (is n)) || any_below 256 (λ i. (s i && is i) && σ i n)
