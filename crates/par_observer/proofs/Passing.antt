-- The first broken rule of all passes over a tree, from those of each pass.
use Rattle.std.proofs.Common.{◌≡◌, List, [], ◌∷◌, Option, Some, None, refl, sym, subst}
use Rattle.par_tree.specs.Plain.{Source}
use Rattle.par_refusals.specs.declared.refusal.Refusal.{Refusal}
use Rattle.par_refusals.specs.First.{IsFirst, IsAnswer, first_of, in_passes}
use Rattle.par_refusals.proofs.First.{answered, first_stops, answer_passes_on}
use Rattle.par_resolved.specs.Resolved.{table_of}
use Rattle.par_table.specs.par_faults.Faults.{all_faults}
use Rattle.par_type_rules.specs.Program.{type_faults}
use Rattle.par_type_rules.specs.Inferred.{all_inferred}
use Rattle.par_observer.specs.Passes.{typing_faults, typed_faults, tree_faults}

-- a rule on names or a limit comes first
pub names_stop : (source : Source) (f : Refusal) → IsFirst (all_faults source) f
    → IsFirst (typing_faults source) f
names_stop source f first =
    first_stops (all_faults source) (type_faults (table_of source) source) f first

-- then a rule on types
pub types_stop : (source : Source) (f : Refusal) → all_faults source ≡ []
    → IsFirst (type_faults (table_of source) source) f → IsFirst (typing_faults source) f
types_stop source f right first =
    answer_passes_on (all_faults source) (type_faults (table_of source) source) (Some f) right first

-- both come before fields without a policy
three : (fs gs hs : List Refusal)
    → in_passes (in_passes fs gs) hs ≡ in_passes fs (in_passes gs hs)
unfolding in_passes
three [] gs hs = refl
three (f ∷ fs) gs hs = refl

pub typing_stops : (source : Source) (f : Refusal) → IsFirst (typing_faults source) f
    → IsFirst (tree_faults source) f
typing_stops source f first =
    subst (λ (fs : List Refusal). IsFirst fs f)
    (three (all_faults source) (type_faults (table_of source) source) (all_inferred source))
    (first_stops (typing_faults source) (all_inferred source) f first)

-- then a field without a policy
pub inferred_answer : (source : Source) (o : Option Refusal) → all_faults source ≡ []
    → type_faults (table_of source) source ≡ [] → o ≡ first_of None (all_inferred source)
    → IsAnswer (tree_faults source) o
inferred_answer source o right typed found =
    let last : IsAnswer (all_inferred source) o =
    subst (IsAnswer (all_inferred source)) (sym found) (answered (all_inferred source)) in
    answer_passes_on (all_faults source) (typed_faults source) o right
    (answer_passes_on (type_faults (table_of source) source) (all_inferred source) o typed last)
