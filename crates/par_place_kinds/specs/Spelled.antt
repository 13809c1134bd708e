-- Kinds as bytes: a byte tells what a kind is and how long its name is, and the names stand one
-- behind another.
use Rattle.std.specs.Prelude.{ℕ, zero, suc, ◌+◌, ◌-◌, true, false, List, [], ◌∷◌, ◌++◌, length}
use Rattle.std.specs.Prelude.{take, drop}
use Rattle.par_values.specs.Areas.{Name}
use Rattle.par_kinds.specs.declared.frame.VKind.{VKind}
use Rattle.par_kinds.specs.declared.frame.VKind.TheVariants.{Top, Int, Null, Object}
use Rattle.par_kinds.specs.declared.frame.VKind.TheVariants.{Base}

abbrev pub shape_of : VKind → ℕ
shape_of Top = 0
shape_of Int = 1
shape_of Null = 2
shape_of (Base true) = 3
shape_of (Base false) = 4
shape_of (Object name) = 5 + length name

abbrev pub name_of : VKind → Name
name_of (Object name) = name
name_of k = []

abbrev pub names_of : List VKind → List ℕ
names_of [] = []
names_of (k ∷ ks) = name_of k ++ names_of ks

-- the kind of this shape, whose name the names begin with
abbrev pub kind_spelled : ℕ → List ℕ → VKind
kind_spelled zero names = Top
kind_spelled (suc zero) names = Int
kind_spelled (suc (suc zero)) names = Null
kind_spelled (suc (suc (suc zero))) names = Base true
kind_spelled (suc (suc (suc (suc zero)))) names = Base false
kind_spelled (suc (suc (suc (suc (suc many))))) names = Object (take many names)

abbrev pub spelled : List ℕ → List ℕ → List VKind
spelled [] names = []
spelled (s ∷ shapes) names = kind_spelled s names ∷ spelled shapes (drop (s - 5) names)
