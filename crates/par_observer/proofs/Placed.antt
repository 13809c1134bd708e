-- What is broken in a tree is broken at places of the tree, or at its beginning.
use Rattle.std.proofs.Common.{◌≤◌, subst}
use Rattle.par_refusals.specs.declared.refusal.Refusal.{Refusal}
use Rattle.par_typed.specs.declared.table.Table.{Table}
use Rattle.par_program_laws.specs.Declares.{declares}
use Rattle.par_check_laws.specs.Verdict.{Fails}
use Rattle.par_check.specs.Judged.{IsFirstBroken}
use Rattle.par_typing.specs.Typed.{written}
use Rattle.par_observer.specs.Trees.{bodies_of}
use Rattle.par_observer.proofs.SpanLaw.{checks_lie}
use Rattle.par_observer.proofs.Highest.{lowest_told, told_are_closed}
use Rattle.std.proofs.Common.{ℕ, List, [], ◌∷◌}
use Rattle.std.specs.List.{AllByRecursion}
use Rattle.par_tree.specs.declared.decl.FieldDecl.{FieldDecl}
use Rattle.par_tree.specs.Plain as plain
use Rattle.par_tree.specs.Plain.{Source, Declaration}
use Rattle.par_resolved.specs.Resolved.{table_of}
use Rattle.par_span_laws.specs.Within.{IsWithin, FieldIn, DeclarationIn}
use Rattle.par_span_laws.specs.Broken.{AreBrokenWithin}
use Rattle.par_span_laws.proofs.Broken.{join, there, passes_within}
use Rattle.par_table.specs.par_faults.Faults.{all_faults}
use Rattle.par_table.proofs.par_faults.FaultPlaces.{all_within}
use Rattle.par_type_rules.specs.Program.{type_faults}
use Rattle.par_type_rules.specs.Inferred.{fields_inferred, declaration_inferred, all_inferred}
use Rattle.par_type_rules.proofs.Places.{types_broken_within}
use Rattle.par_observer.specs.Passes.{typed_faults, tree_faults}

fields_in : (m : ℕ) (fs : List FieldDecl) → AllByRecursion (FieldIn m) fs
    → AreBrokenWithin m (fields_inferred fs)
unfolding fields_inferred
fields_in m [] h = tt
fields_in m (f ∷ fs) h = join m _ _ (there m _ _ h.0.0) (fields_in m fs h.1)

declaration_in : (m : ℕ) (d : Declaration) → DeclarationIn m d
    → AreBrokenWithin m (declaration_inferred d)
unfolding declaration_inferred
declaration_in m (plain.Actors ids) h = tt
declaration_in m (plain.Lock l) h = tt
declaration_in m (plain.Policy p) h = tt
declaration_in m (plain.Declared c) h = fields_in m c.fields h.fields

inferred_in : (m : ℕ) (ds : Source) → IsWithin m ds → AreBrokenWithin m (all_inferred ds)
unfolding all_inferred
inferred_in m [] h = tt
inferred_in m (d ∷ ds) h = join m _ _ (declaration_in m d h.0) (inferred_in m ds h.1)

pub tree_within : (m : ℕ) (source : Source) → IsWithin m source
    → AreBrokenWithin m (tree_faults source)
tree_within m source h =
    passes_within m (all_faults source) (typed_faults source) (all_within m source h)
    (passes_within m (type_faults (table_of source) source) (all_inferred source)
    (types_broken_within m (table_of source) source h)
    (inferred_in m source h))

-- a rule on flows that all closed facts break is one that some facts break, at a place of a check
pub flow_within : (m : ℕ) (tree : Source) (f : Refusal) → IsWithin m tree
    → IsFirstBroken (table_of tree) (bodies_of tree) f → f.at ≤ m
flow_within m tree f within first =
    let table : Table = table_of tree in
    let fails : Fails table first.body f.rule f.at (lowest_told table.policies) =
    first.breaks (lowest_told table.policies)
    (told_are_closed table.policies (declares table) first.body) in
    subst (λ (at : ℕ). at ≤ m) fails.at_is
    (checks_lie m (written tree) tree within first.body first.there fails.check fails.asked)
