-- How many nodes the bodies of a source have, and how many parameters its methods.
use Rattle.std.specs.Prelude.{ℕ, ◌+◌, List, length, sum_by}
use Rattle.par_tree.specs.Nodes.{method_nodes}
use Rattle.par_tree.specs.Plain.{Declaration, Actors, Lock, Policy, Declared, Method, Source}

-- the nodes of a method's body, and its parameters
abbrev pub method_size : Method → ℕ
method_size method = method_nodes method + length method.params

abbrev pub methods_size : List Method → ℕ
methods_size methods = sum_by method_size methods

abbrev pub declaration_size : Declaration → ℕ
declaration_size (Declared class) = methods_size class.methods
declaration_size (Actors ids) = 0
declaration_size (Lock lock) = 0
declaration_size (Policy policy) = 0

-- the nodes of all bodies together, with all parameters
abbrev pub source_size : Source → ℕ
source_size declarations = sum_by declaration_size declarations
