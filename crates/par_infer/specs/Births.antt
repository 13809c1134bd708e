-- What births ask of one field.
use Rattle.std.specs.Prelude.{ℕ, true, not, ◌&&◌, nat_eq}
use Rattle.par_bits.specs.Sets.{Set}
use Rattle.par_typed.specs.declared.table.FieldInfo.{FieldInfo}

abbrev pub every : Set
every n = true

-- an inferred field of objects is to be above the birth policy
abbrev pub born_once : ℕ → FieldInfo → ℕ → Set
born_once birth f i n =
    (f.inferred && not f.is_static) && (nat_eq f.policy i && nat_eq birth n)
