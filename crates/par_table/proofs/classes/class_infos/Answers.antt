use Rattle.std.proofs.Common.{◌+◌, [], ◌∷◌, ◌++◌, ap, refl, ◌∙◌, arith}
use Rattle.std.specs.List.{count_by}
use Rattle.std.proofs.lemmas.List.{length-map}
use Rattle.std.specs.Borrow.{Bor}
use Rattle.par_tree.specs.declared.decl.ClassDecl.{ClassDecl}
use Rattle.par_tree.specs.Shown.{class_of}
use Rattle.par_table.specs.Room.{inferred_count, class_nodes}
use Rattle.par_table.specs.Seen.{resolved_seen}
use Rattle.par_table.proofs.Loops.{class_made, class_sum}
use Rattle.par_table.proofs.classes.class_infos.Goals as goal

pub class_info-requires : goal.class_info-requires
class_info-requires c =
    let decls = c.args.decls.now in
    let i = c.loop-decl.decl-index in
    let d = c.decl-item.result in
    record {
      few_fields =
          omega (
            arith,
            class_sum inferred_count decls i d c.loop-decl-test.true c.decl-item.is,
            c.loop-decl.invariant.few_fields,
          );
      few_nodes =
          omega (
            arith,
            class_sum class_nodes decls i d c.loop-decl-test.true c.decl-item.is,
            c.loop-decl.invariant.few_nodes,
          );
    }

pub number_behind_all-next-requires : goal.number_behind_all-next-requires
number_behind_all-next-requires c =
    let same = ap (count_by (λ f. f.inferred)) c.as_slice.ensures in
    omega (
      arith,
      same,
      class_sum inferred_count c.args.decls.now c.loop-decl.decl-index c.decl-item.result
          c.loop-decl-test.true c.decl-item.is,
      c.loop-decl.invariant.few_fields,
    )

pub overflow_add-class : goal.overflow_add-class
overflow_add-class c =
    omega (
      arith,
      c.requires.few_classes,
      c.loop-decl.invariant.counted,
      c.loop-decl-test.true,
      length-map c.args.decls.now (λ (d : Bor ClassDecl). class_of d.now),
    )

pub loop-decl-preserved : goal.loop-decl-preserved
loop-decl-preserved c =
    let decls = c.args.decls.now in
    let i = c.loop-decl.decl-index in
    let d = c.decl-item.result in
    let fields = class_sum inferred_count decls i d c.loop-decl-test.true c.decl-item.is in
    let more =
    c.in_ok-push.ensures.ok ∙ ap (λ x. c.loop-decl.made ++ x ∷ []) c.in_ok-class_info.ensures in
    let on = c.number_behind_all-next.ensures
    ∙ ap (λ fs. c.loop-decl.next + count_by (λ f. f.inferred) fs) c.as_slice.ensures in
    record {
      made =
          class_made (resolved_seen c.args.resolved.now) c.loop-decl.class _ c.loop-decl.next _
          decls i d c.loop-decl.made _ _
          c.loop-decl-test.true c.decl-item.is more refl on c.loop-decl.invariant.made;
      counted = ap (λ k. k + 1) c.loop-decl.invariant.counted;
      few_fields = omega (arith, fields, on, c.loop-decl.invariant.few_fields);
      few_nodes =
          omega (
            arith,
            class_sum class_nodes decls i d c.loop-decl-test.true c.decl-item.is,
            c.loop-decl.invariant.few_nodes,
          );
    }
