-- The methods where a program may begin.
use Rattle.std.specs.Prelude.{Bool, true, List, codes}
use Rattle.std.specs.List.{filter}
use Rattle.std.specs.Str.{bytes_eq}
use Rattle.par_tree.specs.Plain.{Method}
use Rattle.par_refusals.specs.declared.refusal.Refusal.{Refusal}
use Rattle.par_refusals.specs.First.{when, broken}

abbrev pub is_main : Method → Bool
is_main m = bytes_eq m.id.name (codes "main")

abbrev pub mains_in : List Method → List Method
mains_in methods = filter is_main methods

-- 105: a main behind the first
abbrev pub second_main : Method → List Refusal
second_main m = when true (broken 105 m.id.at)
