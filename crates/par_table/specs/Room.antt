-- What fits the numbers of a table.
use Rattle.std.specs.Prelude.{ℕ, ◌+◌, ◌<◌, ◌≤◌, ◌^◌, List, length, count_by, sum_by}
use Rattle.par_index.specs.declared.names.NameIndex.{NameIndex}
use Rattle.par_index.specs.Texts.{texts}
use Rattle.par_policy.specs.declared.clauses.Clause.{Clause}
use Rattle.par_tree.specs.Plain.{Class, Source}
use Rattle.par_tree.specs.Nodes.{method_nodes}
use Rattle.par_names.specs.Declarations.{classes}
use Rattle.par_resolved.specs.declared.limits.TheConstants.{MOST_POLICIES}
use Rattle.par_resolved.specs.Few.{HasFew}
use Rattle.par_resolved.specs.Policies.{known}
use Rattle.par_resolved.specs.Numbered.{numbered}

-- the fields of a class whose policies are inferred
abbrev pub inferred_count : Class → ℕ
inferred_count class = count_by (λ f. f.inferred) class.fields

-- the nodes of all methods of a class
abbrev pub class_nodes : Class → ℕ
class_nodes class = sum_by method_nodes class.methods

-- so few names of classes and policies that each has a number
pub record AreFew (classes : NameIndex) (policies : List (List Clause)) : Type 0 where
  pub few_classes : length (texts classes.names.items) ≤ 2 ^ 15
  pub few_policies : length policies ≤ MOST_POLICIES

-- classes whose inferred fields have numbers from this one on, and whose nodes can be counted
pub record HaveRoom (next : ℕ) (classes : List Class) : Type 0 where
  pub few_classes : length classes ≤ 2 ^ 15
  pub few_fields : next + sum_by inferred_count classes ≤ MOST_POLICIES
  pub few_nodes : sum_by class_nodes classes < 2 ^ 32

-- a program whose parts have numbers in a table
pub record FitsTable (source : Source) : Type 0 where
  pub few : HasFew source
  pub few_policies : length (numbered (known source) source) ≤ MOST_POLICIES
  pub few_classes : length (classes source) ≤ 2 ^ 15
  pub few_nodes : sum_by class_nodes (classes source) < 2 ^ 32
