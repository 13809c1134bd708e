-- No check of the bodies of a source stands behind the last place of its tree.
use Rattle.std.specs.Prelude.{ℕ, ◌≤◌, Contains}
use Rattle.par_tree.specs.Plain.{Source}
use Rattle.par_typed.specs.Plain.{Body}
use Rattle.par_span_laws.specs.Within.{IsWithin}
use Rattle.par_resolved.specs.Resolved.{table_of}
use Rattle.par_type_rules.specs.TypedStmts.{Written}
use Rattle.par_type_rules.specs.TypedBodies.{typed_program}
use Rattle.par_check_laws.specs.Asked.{Check}
use Rattle.par_check_laws.specs.Checks.{checks}

-- whatever numbers the written locks and policies have
abbrev pub ChecksLieWithin : Type 0
ChecksLieWithin =
    (m : ℕ) (w : Written) (tree : Source) → IsWithin m tree
    → (b : Body) → Contains (typed_program w (table_of tree) tree) b
    → (c : Check) → Contains (checks (table_of tree) b) c → c.at ≤ m
