-- Which values of a derivation stand for what is read.
use Rattle.std.specs.Prelude.{Bool, List, [], ◌∷◌, Option}
use Rattle.par_tree.specs.declared.ident.Ident.{Ident}
use Rattle.par_tree.specs.declared.policy.ClauseTree.{ClauseTree}
use Rattle.par_tree.specs.declared.policy.LockTree.{LockTree}
use Rattle.par_tree.specs.declared.policy.PolicyExpr.{PolicyExpr}
use Rattle.par_tree.specs.declared.types.TypeTree.{TypeTree}
use Rattle.par_tree.specs.Values.{Values, idents, lock, needs, clause, clauses, term}
use Rattle.par_tree.specs.Values.{whole, may_whole, typed, flag}
use Rattle.par_policy_reader.specs.declared.policy.Placed.{Placed}

abbrev pub the_idents : List Ident → Values
the_idents ids = idents ids ∷ []

abbrev pub a_lock : LockTree → Values
a_lock l = lock l ∷ []

-- the locks that a clause needs
abbrev pub the_locks : List LockTree → Values
the_locks ls = needs ls ∷ []

abbrev pub a_clause : ClauseTree → Values
a_clause c = clause c ∷ []

abbrev pub the_clauses : List ClauseTree → Values
the_clauses cs = clauses cs ∷ []

abbrev pub a_term : Placed → Values
a_term t = term t.term t.at ∷ []

abbrev pub a_policy : PolicyExpr → Values
a_policy p = whole p ∷ []

abbrev pub may_be_policy : Option PolicyExpr → Values
may_be_policy o = may_whole o ∷ []

abbrev pub a_type : TypeTree → Values
a_type t = typed t ∷ []

abbrev pub a_flag : Bool → Values
a_flag b = flag b ∷ []
