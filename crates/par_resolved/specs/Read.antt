-- Declared policies that were read.
use Rattle.std.specs.Prelude.{◌≡◌, List, All, Option, Some}
use Rattle.par_names.specs.par_index.declared.names.NameIndex.{NameIndex}
use Rattle.par_names.specs.par_index.Texts.{texts}
use Rattle.par_typed.specs.par_policy.declared.clauses.Clause.{Clause}
use Rattle.par_tree.specs.declared.policy.PolicyExpr.{PolicyExpr}
use Rattle.par_resolved.specs.declared.numbers.Numbers as code
use Rattle.par_resolved.specs.declared.read.Read.{Read}
use Rattle.par_resolved.specs.SeenNumbers.{seen}
use Rattle.par_resolved.specs.Policies.{Known, value_of}

-- what is known by these numbers, names and values
abbrev pub known_by : code.Numbers → NameIndex → List (Option (List Clause)) → Known
known_by n names values = record {
  numbers = seen n;
  names = texts names.names.items;
  values = values;
}

-- each expression comes to its policy
abbrev pub AreRead : Known → List Read → Type 0
AreRead k read = All (λ r. value_of k r.expr.now ≡ Some r.policy) read

-- what was read still is, and what the expression comes to is read too
abbrev pub StillRead : List Read → List Read → PolicyExpr → Option (List Clause) → Type 0
StillRead old new e value = (k : Known) → AreRead k old → value ≡ value_of k e → AreRead k new
