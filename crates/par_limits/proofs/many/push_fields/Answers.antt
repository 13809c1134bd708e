use Rattle.std.proofs.Common.{ℕ, List, ◌++◌, refl, ap, ◌∙◌}
use Rattle.std.specs.Borrow.{Bor}
use Rattle.std.specs.List.{flat_map}
use Rattle.par_tree.specs.declared.decl.ClassDecl.{ClassDecl}
use Rattle.par_tree.specs.Plain.{Class}
use Rattle.par_parts.specs.Gathered.{classes_of}
use Rattle.par_resolved.proofs.names.Gone.{one_fewer, none_left}
use Rattle.par_limits.specs.Places.{inferred_places}
use Rattle.par_limits.proofs.many.push_fields.Goals as goal

abbrev inferred : List (Bor ClassDecl) → List ℕ
inferred cs = flat_map (λ (c : Class). inferred_places c.fields) (classes_of cs)

pub loop-class-preserved : goal.loop-class-preserved
loop-class-preserved c =
    let found = c.loop-class.places.items in
    one_fewer inferred c.args.classes.now c.loop-class.class-index c.class-item.result
    found c.push_inferred.new.places.items _ (inferred_places c.class-item.result.now.fields)
    c.loop-class-test.true c.class-item.is
    (c.in_ok-push_inferred.ensures ∙ ap (λ fs. found ++ inferred_places fs) c.as_slice.ensures)
    refl c.loop-class.invariant

pub returns : goal.returns
returns c =
    none_left inferred c.args.classes.now c.loop-class.class-index c.loop-class.places.items _
    c.loop-class-test.false refl c.loop-class.invariant
