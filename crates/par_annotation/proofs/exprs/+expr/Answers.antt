use Rattle.std.proofs.Common.{◌≡◌, rules, arith, sym, subst, ◌∙◌}
use Rattle.std.specs.Prelude.{IfOk}
use Rattle.par_tree.specs.declared.expr.ExprKind.TheViews.{the_lemmas}
use Rattle.par_tree.specs.Shown.{shown, all_shown}
use Rattle.par_typed.specs.Shown as typed
use Rattle.par_scope.specs.Home.{seen}
use Rattle.par_annotation.specs.Ints.{args_no_ints}
use Rattle.par_annotation.specs.Seen.{frame_seen, marked}
use Rattle.par_completes.proofs.Left.{shown_more, shown_end}
use Rattle.par_annotation.proofs.ExprForms.{some_nodes, first_none}
use Rattle.par_annotation.proofs.ExprForms.{first_more}
use Rattle.par_annotation.proofs.ExprForms.{args_none, args_some, call_ints}
use Rattle.par_annotation.proofs.ExprFamilies.{part_nodes, part_ints, negation_forms}
use Rattle.par_annotation.proofs.ExprFamilies.{int_forms, truth_forms, null_forms, this_forms}
use Rattle.par_annotation.proofs.ExprFamilies.{new_forms, named_forms, of_field_forms}
use Rattle.par_annotation.proofs.ExprFamilies.{called_forms, negated_forms, inverted_forms}
use Rattle.par_annotation.proofs.ExprFamilies.{binary_forms, field_forms, inversion_forms}
use Rattle.par_annotation.proofs.ExprFamilies.{receiver_forms, call_forms}
use Rattle.par_annotation.proofs.ExprFamilies.{args_forms, call_made}
use Rattle.par_annotation.proofs.exprs.+expr.Goals as goal

pub type_expr-take_point-point-requires : goal.type_expr-take_point-point-requires
type_expr-take_point-point-requires t c =
    let some = some_nodes (shown c.args.expr.now) in grind arith

pub type_expr-type_field-requires : goal.type_expr-type_field-requires
type_expr-type_field-requires t c = (
  search (rules, the_lemmas),
  (
    grind (arith, part_nodes),
    (grind (arith, part_nodes), grind (arith, part_ints)),
  ),
)

pub type_expr-type_receiver-requires : goal.type_expr-type_receiver-requires
type_expr-type_receiver-requires t c =
    (search (rules, the_lemmas), (grind (arith, part_nodes), grind (arith, part_ints)))

pub type_expr-type_called-requires : goal.type_expr-type_called-requires
type_expr-type_called-requires t c =
    let ints = call_ints c.args.expr.now _ _ _ c.in-Call.is c.requires.ints in (
      search (rules, the_lemmas),
      (
        grind (arith, part_nodes),
        (
          grind (arith, part_nodes),
          subst (λ es. args_no_ints (all_shown es) ≡ 0) (sym c.as_slice-args.ensures) ints,
        ),
      ),
    )

pub type_expr-type_negation-requires : goal.type_expr-type_negation-requires
type_expr-type_negation-requires t c = (
  search (rules, the_lemmas),
  (
    grind (arith, part_nodes),
    (grind (arith, part_nodes), grind (arith, part_ints)),
  ),
)

pub type_expr-type_inversion-requires : goal.type_expr-type_inversion-requires
type_expr-type_inversion-requires t c = (
  search (rules, the_lemmas),
  (
    grind (arith, part_nodes),
    (grind (arith, part_nodes), grind (arith, part_ints)),
  ),
)

pub type_expr-type_expr-requires : goal.type_expr-type_expr-requires
type_expr-type_expr-requires t c =
    (search (rules, the_lemmas), (grind (arith, part_nodes), grind (arith, part_ints)))

pub type_expr-type_expr-requires-in-Binary : goal.type_expr-type_expr-requires-in-Binary
type_expr-type_expr-requires-in-Binary t c =
    (search (rules, the_lemmas), (grind (arith, part_nodes), grind (arith, part_ints)))

pub type_expr-returns-in_ok-on-in-Call-clause-made
    : goal.type_expr-returns-in_ok-on-in-Call-clause-made
type_expr-returns-in_ok-on-in-Call-clause-made t c =
    subst (λ x. IfOk c.type_called.result (λ m. typed.shown m.expr ≡ x))
    (call_made (seen c.args.home.now) (frame_seen c.args.frame.now) _ _ _ c.args.expr.now
    _ _ _ _ _ _ c.in-Call.is c.as_slice-args.ensures c.take_point-point.ensures.taken
    c.take_point-point.ensures.counted c.in_ok-on-in-Call.ensures.called
    c.in_ok-on-in-Call.ensures.made)
    c.type_called.ensures.made

pub type_expr-overflow_cast-number : goal.type_expr-overflow_cast-number
type_expr-overflow_cast-number t c = grind (arith, int_forms)

pub type_expr-type_name-requires-clause-room : goal.type_expr-type_name-requires-clause-room
type_expr-type_name-requires-clause-room t c = grind (arith, named_forms)

pub type_expr-returns-in-Int : goal.type_expr-returns-in-Int
type_expr-returns-in-Int t c = record {
  made = grind (arith, int_forms);
  typed = grind (arith, int_forms);
  counted = grind (arith, int_forms);
  small = grind (arith, int_forms);
}

pub type_expr-returns-in-True : goal.type_expr-returns-in-True
type_expr-returns-in-True t c = record {
  made = grind (arith, truth_forms);
  typed = grind (arith, truth_forms);
  counted = grind (arith, truth_forms);
  small = grind (arith, truth_forms);
}

pub type_expr-returns-in-False : goal.type_expr-returns-in-False
type_expr-returns-in-False t c = record {
  made = grind (arith, truth_forms);
  typed = grind (arith, truth_forms);
  counted = grind (arith, truth_forms);
  small = grind (arith, truth_forms);
}

pub type_expr-returns-in-Null : goal.type_expr-returns-in-Null
type_expr-returns-in-Null t c = record {
  made = grind (arith, null_forms);
  typed = grind (arith, null_forms);
  counted = grind (arith, null_forms);
  small = grind (arith, null_forms);
}

pub type_expr-returns-in-This : goal.type_expr-returns-in-This
type_expr-returns-in-This t c = record {
  made = grind (arith, this_forms);
  typed = grind (arith, this_forms);
  counted = grind (arith, this_forms);
  small = grind (arith, this_forms);
}

pub type_expr-returns-in-New : goal.type_expr-returns-in-New
type_expr-returns-in-New t c = record {
  made = grind (arith, new_forms);
  typed = grind (arith, new_forms);
  counted = grind (arith, new_forms);
  small = grind (arith, new_forms);
}

pub type_expr-returns-in-Name : goal.type_expr-returns-in-Name
type_expr-returns-in-Name t c = record {
  made = grind (arith, named_forms);
  typed = grind (arith, named_forms);
  counted = grind (arith, named_forms);
  small = grind (arith, named_forms);
}

pub type_expr-returns-in-Field : goal.type_expr-returns-in-Field
type_expr-returns-in-Field t c = record {
  made = grind (arith, of_field_forms);
  typed = grind (arith, of_field_forms);
  counted = grind (arith, of_field_forms);
  small = grind (arith, of_field_forms);
}

pub type_expr-returns-in-Neg : goal.type_expr-returns-in-Neg
type_expr-returns-in-Neg t c = record {
  made = grind (arith, negated_forms);
  typed = grind (arith, negated_forms);
  counted = grind (arith, negated_forms);
  small = grind (arith, negated_forms);
}

pub type_expr-returns-in-Not : goal.type_expr-returns-in-Not
type_expr-returns-in-Not t c = record {
  made = grind (arith, inverted_forms);
  typed = grind (arith, inverted_forms);
  counted = grind (arith, inverted_forms);
  small = grind (arith, inverted_forms);
}

pub type_expr-returns-in_ok-other-in-Binary : goal.type_expr-returns-in_ok-other-in-Binary
type_expr-returns-in_ok-other-in-Binary t c = record {
  made = grind (arith, binary_forms);
  typed = grind (arith, binary_forms);
  counted = grind (arith, binary_forms);
  small = grind (arith, binary_forms);
}

pub type_expr-returns-in_ok-on-in-Call-clause-typed
    : goal.type_expr-returns-in_ok-on-in-Call-clause-typed
type_expr-returns-in_ok-on-in-Call-clause-typed t c = grind (arith, called_forms)

pub type_expr-returns-in_ok-on-in-Call-clause-counted
    : goal.type_expr-returns-in_ok-on-in-Call-clause-counted
type_expr-returns-in_ok-on-in-Call-clause-counted t c = grind (arith, called_forms)

pub type_expr-returns-in_ok-on-in-Call-clause-small
    : goal.type_expr-returns-in_ok-on-in-Call-clause-small
type_expr-returns-in_ok-on-in-Call-clause-small t c = grind (arith, called_forms)

pub type_field-returns : goal.type_field-returns
type_field-returns t c = record {
  made = grind (arith, field_forms);
  typed = grind (arith, field_forms);
  counted = grind (arith, field_forms);
  small = grind (arith, field_forms);
}

pub type_negation-returns-in-Some : goal.type_negation-returns-in-Some
type_negation-returns-in-Some t c = record {
  made = grind (arith, negation_forms);
  typed = grind (arith, negation_forms);
  counted = grind (arith, negation_forms);
  small = grind (arith, negation_forms);
}

pub type_negation-returns-in_ok-of-in-None-2 : goal.type_negation-returns-in_ok-of-in-None-2
type_negation-returns-in_ok-of-in-None-2 t c = record {
  made = grind (arith, negation_forms);
  typed = grind (arith, negation_forms);
  counted = grind (arith, negation_forms);
  small = grind (arith, negation_forms);
}

pub type_inversion-returns : goal.type_inversion-returns
type_inversion-returns t c = record {
  made = grind (arith, inversion_forms);
  typed = grind (arith, inversion_forms);
  counted = grind (arith, inversion_forms);
  small = grind (arith, inversion_forms);
}

pub type_receiver-returns-in-None : goal.type_receiver-returns-in-None
type_receiver-returns-in-None t c = record {
  made = grind (arith, receiver_forms);
  called = grind (arith, receiver_forms);
  counted = grind (arith, receiver_forms);
  small = grind (arith, receiver_forms);
}

pub type_receiver-returns-in_ok-found-in-Some : goal.type_receiver-returns-in_ok-found-in-Some
type_receiver-returns-in_ok-found-in-Some t c = record {
  made = grind (arith, receiver_forms);
  called = grind (arith, receiver_forms);
  counted = grind (arith, receiver_forms);
  small = grind (arith, receiver_forms);
}

pub type_call-returns-in-Unknown : goal.type_call-returns-in-Unknown
type_call-returns-in-Unknown t c = record {
  made = grind (arith, call_forms);
  counted = grind (arith, call_forms);
  small = grind (arith, call_forms);
}

pub type_call-returns-in-Channel : goal.type_call-returns-in-Channel
type_call-returns-in-Channel t c = record {
  made = grind (arith, call_forms);
  counted = grind (arith, call_forms);
  small = grind (arith, call_forms);
}

pub type_call-returns-in_ok-args-in-Method : goal.type_call-returns-in_ok-args-in-Method
type_call-returns-in_ok-args-in-Method t c = record {
  made = grind (arith, call_forms);
  counted = grind (arith, call_forms);
  small = grind (arith, call_forms);
}

pub type_through-returns-in-None : goal.type_through-returns-in-None
type_through-returns-in-None t c = record {
  made = grind (arith, call_forms);
  counted = grind (arith, call_forms);
  small = grind (arith, call_forms);
}

pub type_through-returns-then-channel : goal.type_through-returns-then-channel
type_through-returns-then-channel t c = record {
  made = grind (arith, call_forms);
  counted = grind (arith, call_forms);
  small = grind (arith, call_forms);
}

pub type_through-returns-in_ok-value-in-Some-2 : goal.type_through-returns-in_ok-value-in-Some-2
type_through-returns-in_ok-value-in-Some-2 t c = record {
  made = grind (arith, call_forms);
  counted = grind (arith, call_forms);
  small = grind (arith, call_forms);
}

pub type_args-returns-clause-counted : goal.type_args-returns-clause-counted
type_args-returns-clause-counted t c = grind (arith, args_forms)

pub type_first-returns-in-empty-clause-counted : goal.type_first-returns-in-empty-clause-counted
type_first-returns-in-empty-clause-counted t c = grind (arith, args_forms)

pub type_first-returns-in_ok-found-in-len1-up-clause-counted
    : goal.type_first-returns-in_ok-found-in-len1-up-clause-counted
type_first-returns-in_ok-found-in-len1-up-clause-counted t c = grind (arith, args_forms)

pub type_negation-type_expr-requires : goal.type_negation-type_expr-requires
type_negation-type_expr-requires t c =
    (search (rules, the_lemmas), (grind arith, grind (arith, negation_forms)))

pub type_args-type_expr-requires : goal.type_args-type_expr-requires
type_args-type_expr-requires t c =
    let more =
    shown_more c.args.args.now c.loop-arg.arg-index c.arg-item.result c.loop-arg-test.true
    c.arg-item.is in
    let small = c.loop-arg.invariant.small in
    let ints = c.loop-arg.invariant.ints in
    (search (rules, the_lemmas), (grind (arith, args_forms), grind (arith, args_forms)))

pub type_args-loop-arg-preserved : goal.type_args-loop-arg-preserved
type_args-loop-arg-preserved t c =
    let more =
    shown_more c.args.args.now c.loop-arg.arg-index c.arg-item.result c.loop-arg-test.true
    c.arg-item.is in
    record {
      made = grind (arith, args_forms);
      counted = grind (arith, args_forms);
      small = grind (arith, args_forms);
      ints = grind (arith, args_forms);
    }

pub type_args-returns-clause-made : goal.type_args-returns-clause-made
type_args-returns-clause-made t c =
    let none = shown_end c.args.args.now c.loop-arg.arg-index c.loop-arg-test.false in
    grind (arith, args_forms)

pub type_args-returns-clause-small : goal.type_args-returns-clause-small
type_args-returns-clause-small t c =
    let none = shown_end c.args.args.now c.loop-arg.arg-index c.loop-arg-test.false in
    grind (arith, args_forms)

pub type_first-type_expr-requires : goal.type_first-type_expr-requires
type_first-type_expr-requires t c =
    let some =
    args_some c.args.args.now c.one-item.result c.in-len1-up.len_at_least c.one-item.is in
    (search (rules, the_lemmas), (grind (arith, args_forms), grind (arith, args_forms)))

pub type_first-returns-in-empty-clause-made : goal.type_first-returns-in-empty-clause-made
type_first-returns-in-empty-clause-made t c =
    let none = args_none c.args.args.now c.in-empty.len_below in
    let is =
    first_none (seen c.args.home.now) (frame_seen c.args.frame.now) c.args.next.now _
    (marked c.args.spot) none in
    grind (arith, args_forms)

pub type_first-returns-in_ok-found-in-len1-up-clause-made
    : goal.type_first-returns-in_ok-found-in-len1-up-clause-made
type_first-returns-in_ok-found-in-len1-up-clause-made t c =
    let some =
    args_some c.args.args.now c.one-item.result c.in-len1-up.len_at_least c.one-item.is in
    c.in_ok-found-in-len1-up.ensures.made
    ∙ sym (first_more (seen c.args.home.now) (frame_seen c.args.frame.now) c.args.next.now _
    (shown c.one-item.result) _ (marked c.args.spot) some)

pub type_first-returns-in_ok-found-in-len1-up-clause-small
    : goal.type_first-returns-in_ok-found-in-len1-up-clause-small
type_first-returns-in_ok-found-in-len1-up-clause-small t c =
    let some =
    args_some c.args.args.now c.one-item.result c.in-len1-up.len_at_least c.one-item.is in
    grind (arith, args_forms)
