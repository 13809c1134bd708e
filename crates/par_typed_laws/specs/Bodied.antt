-- Each method of a table has one body.
use Rattle.std.specs.Prelude.{◌≡◌, ℕ, ◌+◌, List, [], ◌∷◌, ◌++◌, map, length}
use Rattle.std.specs.List.{range_with_len}
use Rattle.par_program_laws.specs.par_typed.declared.table.ClassInfo.{ClassInfo}
use Rattle.par_program_laws.specs.par_typed.declared.table.Table.{Table}
use Rattle.par_program_laws.specs.par_typed.Plain.{Body}

-- a method by the number of its class and its own number there
abbrev pub Spot : Type 0
Spot = ℕ × ℕ

abbrev pub spot_of : Body → Spot
spot_of b = (b.class, b.method)

-- the methods of these classes, of which the first has this number, in their order
abbrev pub methods_from : ℕ → List ClassInfo → List Spot
methods_from class [] = []
methods_from class (c ∷ cs) =
    map (λ method. (class, method)) (range_with_len 0 (length c.methods))
    ++ methods_from (class + 1) cs

-- the bodies are those of the methods of the table, one of each, in their order
abbrev pub AreBodiesOf : Table → List Body → Type 0
AreBodiesOf table bodies = map spot_of bodies ≡ methods_from 0 table.classes
