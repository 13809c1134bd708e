-- What a program has in it.
use Rattle.std.specs.Prelude.{ℕ, ◌≤◌, List, drop, length}
use Rattle.std.specs.List.{sum_by}
use Rattle.par_typed.specs.declared.table.ClassInfo.{ClassInfo}
use Rattle.par_typed.specs.declared.table.Table.{Table}
use Rattle.par_sample.specs.declared.summary.Summary.{Summary}

-- the classes that every program has come first
abbrev pub BUILT_IN_CLASSES : ℕ
BUILT_IN_CLASSES = 2

abbrev pub declared : Table → List ClassInfo
declared table = drop BUILT_IN_CLASSES table.classes

abbrev pub method_count : List ClassInfo → ℕ
method_count classes = sum_by (λ c. length c.methods) classes

abbrev pub class_nodes : ClassInfo → ℕ
class_nodes c = sum_by (λ m. m.nodes) c.methods

abbrev pub node_count : List ClassInfo → ℕ
node_count classes = sum_by class_nodes classes

-- what is told of a program that is made of this number and gives so many class files
abbrev pub summary_of : (number : ℕ) → Table → (files : ℕ) → Summary
summary_of number table files = record {
  number = number;
  classes = length (declared table);
  methods = method_count (declared table);
  nodes = node_count (declared table);
  files = files;
}

-- ---- what can be counted

abbrev pub MOST_CLASSES : ℕ
MOST_CLASSES = 130

abbrev pub MOST_METHODS : ℕ
MOST_METHODS = 128

abbrev pub MOST_NODES : ℕ
MOST_NODES = 8000

-- a class has few methods, and few nodes in all of them
pub record IsSmallClass (c : ClassInfo) : Type 0 where
  pub methods : length c.methods ≤ MOST_METHODS
  pub nodes : class_nodes c ≤ MOST_NODES
