use Rattle.std.proofs.Common.{◌≡◌, ◌+◌, rules, length, arith, ap, refl, sym, subst}
use Rattle.par_tree.specs.declared.stmt.StmtKind.TheViews.{the_lemmas}
use Rattle.par_tree.specs.Shown.{does, braces, all_do}
use Rattle.par_completes.proofs.Left.{does_more, does_end, catch_more, catch_end}
use Rattle.par_scope.specs.Home.{seen}
use Rattle.par_scope.specs.Own.{locals_in, all_locals}
use Rattle.par_annotation.specs.Keeps.{Keeps}
use Rattle.par_annotation.specs.Seen.{frame_seen}
use Rattle.par_annotation.specs.Numbers.{written_by}
use Rattle.par_annotation.proofs.StmtForms.{some_stmt_nodes}
use Rattle.par_annotation.proofs.StmtForms.{some_braces_nodes}
use Rattle.par_annotation.proofs.StmtFamilies.{if_forms, while_forms, try_forms, when_forms}
use Rattle.par_annotation.proofs.StmtFamilies.{part_ints, else_forms, told_block, told_return}
use Rattle.par_annotation.proofs.StmtFamilies.{told_break, told_continue, told_throw, told_open}
use Rattle.par_annotation.proofs.StmtFamilies.{told_close, told_local, told_assign, told_call}
use Rattle.par_annotation.proofs.StmtFamilies.{may_block_forms, block_forms, row_forms}
use Rattle.par_annotation.proofs.StmtFamilies.{catches_forms, handler_forms}
use Rattle.par_annotation.proofs.Kept.{behind_keeps, begin_keeps, left}
use Rattle.par_annotation.proofs.stmts.+stmt.Goals as goal

pub type_stmt-type_block-requires : goal.type_stmt-type_block-requires
type_stmt-type_block-requires t c = (
  search (rules, the_lemmas),
  (grind (arith, told_block), (grind (arith, told_block), grind (arith, told_block))),
)

pub type_if-type_expr-requires-clause-ints : goal.type_if-type_expr-requires-clause-ints
type_if-type_expr-requires-clause-ints t c = grind (arith, part_ints)

pub type_while-type_expr-requires-clause-ints : goal.type_while-type_expr-requires-clause-ints
type_while-type_expr-requires-clause-ints t c = grind (arith, part_ints)

pub type_if-type_block-requires : goal.type_if-type_block-requires
type_if-type_block-requires t c = (
  search (rules, the_lemmas),
  (grind (arith, if_forms), (grind (arith, if_forms), grind (arith, part_ints))),
)

pub type_if-type_else-requires : goal.type_if-type_else-requires
type_if-type_else-requires t c = (
  search (rules, the_lemmas),
  (grind (arith, if_forms), (grind (arith, if_forms), grind (arith, part_ints))),
)

pub type_while-type_block-requires : goal.type_while-type_block-requires
type_while-type_block-requires t c = (
  search (rules, the_lemmas),
  (grind (arith, while_forms), (grind (arith, while_forms), grind (arith, part_ints))),
)

pub type_try-type_block-requires : goal.type_try-type_block-requires
type_try-type_block-requires t c = (
  search (rules, the_lemmas),
  (grind (arith, try_forms), (grind (arith, try_forms), grind (arith, part_ints))),
)

pub type_try-type_catches-requires : goal.type_try-type_catches-requires
type_try-type_catches-requires t c = (
  search (rules, the_lemmas),
  (grind (arith, try_forms), (grind (arith, try_forms), grind (arith, part_ints))),
)

pub type_when-type_block-requires : goal.type_when-type_block-requires
type_when-type_block-requires t c = (
  search (rules, the_lemmas),
  (grind (arith, when_forms), (grind (arith, when_forms), grind (arith, part_ints))),
)

pub type_when-type_may_block-requires : goal.type_when-type_may_block-requires
type_when-type_may_block-requires t c = (
  search (rules, the_lemmas),
  (grind (arith, when_forms), (grind (arith, when_forms), grind (arith, part_ints))),
)

pub type_if-take_point-point-requires : goal.type_if-take_point-point-requires
type_if-take_point-point-requires t c =
    let some = some_stmt_nodes (does c.args.stmt.now) in grind arith

pub type_while-take_point-point-requires : goal.type_while-take_point-point-requires
type_while-take_point-point-requires t c =
    let some = some_stmt_nodes (does c.args.stmt.now) in grind arith

pub type_try-take_point-point-requires : goal.type_try-take_point-point-requires
type_try-take_point-point-requires t c =
    let some = some_stmt_nodes (does c.args.stmt.now) in grind arith

pub type_when-take_point-point-requires : goal.type_when-take_point-point-requires
type_when-take_point-point-requires t c =
    let some = some_stmt_nodes (does c.args.stmt.now) in grind arith

pub type_else-type_stmt-requires : goal.type_else-type_stmt-requires
type_else-type_stmt-requires t c = (
  search (rules, the_lemmas),
  (grind (arith, else_forms), (grind (arith, else_forms), grind (arith, else_forms))),
)

pub type_may_block-type_block-requires : goal.type_may_block-type_block-requires
type_may_block-type_block-requires t c = (
  search (rules, the_lemmas),
  (
    grind (arith, may_block_forms),
    (grind (arith, may_block_forms), grind (arith, may_block_forms)),
  ),
)

pub type_block-type_stmts-requires : goal.type_block-type_stmts-requires
type_block-type_stmts-requires t c = (
  search (rules, the_lemmas),
  (grind (arith, block_forms), (grind (arith, block_forms), grind (arith, block_forms))),
)

pub type_handler-type_block-requires : goal.type_handler-type_block-requires
type_handler-type_block-requires t c = (
  search (rules, the_lemmas),
  (grind (arith, handler_forms), (grind (arith, handler_forms), grind (arith, handler_forms))),
)

pub type_stmt-returns-in-If : goal.type_stmt-returns-in-If
type_stmt-returns-in-If t c = record {
  made = c.type_if.ensures.made;
  behind = c.type_if.ensures.behind;
  counted = c.type_if.ensures.counted;
  small = c.type_if.ensures.small;
}

pub type_stmt-returns-in-While : goal.type_stmt-returns-in-While
type_stmt-returns-in-While t c = record {
  made = c.type_while.ensures.made;
  behind = c.type_while.ensures.behind;
  counted = c.type_while.ensures.counted;
  small = c.type_while.ensures.small;
}

pub type_stmt-returns-in-Try : goal.type_stmt-returns-in-Try
type_stmt-returns-in-Try t c = record {
  made = c.type_try.ensures.made;
  behind = c.type_try.ensures.behind;
  counted = c.type_try.ensures.counted;
  small = c.type_try.ensures.small;
}

pub type_stmt-returns-in-When : goal.type_stmt-returns-in-When
type_stmt-returns-in-When t c = record {
  made = c.type_when.ensures.made;
  behind = c.type_when.ensures.behind;
  counted = c.type_when.ensures.counted;
  small = c.type_when.ensures.small;
}

pub type_stmt-returns-in-Block : goal.type_stmt-returns-in-Block
type_stmt-returns-in-Block t c = record {
  made = grind (arith, told_block);
  behind = grind (arith, told_block);
  counted = grind (arith, told_block);
  small = grind (arith, told_block);
}

pub type_stmt-returns-in-Return : goal.type_stmt-returns-in-Return
type_stmt-returns-in-Return t c = record {
  made = grind (arith, told_return);
  behind = grind (arith, told_return);
  counted = grind (arith, told_return);
  small = grind (arith, told_return);
}

pub type_stmt-returns-in-Break : goal.type_stmt-returns-in-Break
type_stmt-returns-in-Break t c = record {
  made = grind (arith, told_break);
  behind = grind (arith, told_break);
  counted = grind (arith, told_break);
  small = grind (arith, told_break);
}

pub type_stmt-returns-in-Continue : goal.type_stmt-returns-in-Continue
type_stmt-returns-in-Continue t c = record {
  made = grind (arith, told_continue);
  behind = grind (arith, told_continue);
  counted = grind (arith, told_continue);
  small = grind (arith, told_continue);
}

pub type_stmt-returns-in-Throw : goal.type_stmt-returns-in-Throw
type_stmt-returns-in-Throw t c = record {
  made = grind (arith, told_throw);
  behind = grind (arith, told_throw);
  counted = grind (arith, told_throw);
  small = grind (arith, told_throw);
}

pub type_stmt-returns-in-OpenLock : goal.type_stmt-returns-in-OpenLock
type_stmt-returns-in-OpenLock t c = record {
  made = grind (arith, told_open);
  behind = grind (arith, told_open);
  counted = grind (arith, told_open);
  small = grind (arith, told_open);
}

pub type_stmt-returns-in-CloseLock : goal.type_stmt-returns-in-CloseLock
type_stmt-returns-in-CloseLock t c = record {
  made = grind (arith, told_close);
  behind = grind (arith, told_close);
  counted = grind (arith, told_close);
  small = grind (arith, told_close);
}

pub type_stmt-returns-in-Local : goal.type_stmt-returns-in-Local
type_stmt-returns-in-Local t c = record {
  made = grind (arith, told_local);
  behind = grind (arith, told_local);
  counted = grind (arith, told_local);
  small = grind (arith, told_local);
}

pub type_stmt-returns-in-Assign : goal.type_stmt-returns-in-Assign
type_stmt-returns-in-Assign t c = record {
  made = grind (arith, told_assign);
  behind = grind (arith, told_assign);
  counted = grind (arith, told_assign);
  small = grind (arith, told_assign);
}

pub type_stmt-returns-in-Call : goal.type_stmt-returns-in-Call
type_stmt-returns-in-Call t c = record {
  made = grind (arith, told_call);
  behind = grind (arith, told_call);
  counted = grind (arith, told_call);
  small = grind (arith, told_call);
}

pub type_stmt-type_return-requires-clause-room : goal.type_stmt-type_return-requires-clause-room
type_stmt-type_return-requires-clause-room t c = grind (arith, told_return)

pub type_stmt-type_return-requires-clause-ints : goal.type_stmt-type_return-requires-clause-ints
type_stmt-type_return-requires-clause-ints t c = grind (arith, told_return)

pub type_stmt-single-requires : goal.type_stmt-single-requires
type_stmt-single-requires t c = grind (arith, told_break)

pub type_stmt-single-requires-in-Continue : goal.type_stmt-single-requires-in-Continue
type_stmt-single-requires-in-Continue t c = grind (arith, told_continue)

pub type_stmt-single-requires-in-Throw : goal.type_stmt-single-requires-in-Throw
type_stmt-single-requires-in-Throw t c = grind (arith, told_throw)

pub type_stmt-single-requires-in-OpenLock : goal.type_stmt-single-requires-in-OpenLock
type_stmt-single-requires-in-OpenLock t c = grind (arith, told_open)

pub type_stmt-single-requires-in-CloseLock : goal.type_stmt-single-requires-in-CloseLock
type_stmt-single-requires-in-CloseLock t c = grind (arith, told_close)

pub type_stmt-type_local-requires-clause-room : goal.type_stmt-type_local-requires-clause-room
type_stmt-type_local-requires-clause-room t c = grind (arith, told_local)

pub type_stmt-type_local-requires-clause-locals : goal.type_stmt-type_local-requires-clause-locals
type_stmt-type_local-requires-clause-locals t c = grind (arith, told_local)

pub type_stmt-type_local-requires-clause-ints : goal.type_stmt-type_local-requires-clause-ints
type_stmt-type_local-requires-clause-ints t c = grind (arith, told_local)

pub type_stmt-type_assign-requires-clause-room : goal.type_stmt-type_assign-requires-clause-room
type_stmt-type_assign-requires-clause-room t c = grind (arith, told_assign)

pub type_stmt-type_assign-requires-clause-ints : goal.type_stmt-type_assign-requires-clause-ints
type_stmt-type_assign-requires-clause-ints t c = grind (arith, told_assign)

pub type_stmt-type_eval-requires-clause-room : goal.type_stmt-type_eval-requires-clause-room
type_stmt-type_eval-requires-clause-room t c = grind (arith, told_call)

pub type_stmt-type_eval-requires-clause-ints : goal.type_stmt-type_eval-requires-clause-ints
type_stmt-type_eval-requires-clause-ints t c = grind (arith, told_call)

pub type_if-returns : goal.type_if-returns
type_if-returns t c = record {
  made = grind (arith, if_forms);
  behind = grind (arith, if_forms);
  counted = grind (arith, if_forms);
  small = grind (arith, if_forms);
}

pub type_while-returns : goal.type_while-returns
type_while-returns t c = record {
  made = grind (arith, while_forms);
  behind = grind (arith, while_forms);
  counted = grind (arith, while_forms);
  small = grind (arith, while_forms);
}

pub type_try-returns : goal.type_try-returns
type_try-returns t c = record {
  made = grind (arith, try_forms);
  behind = grind (arith, try_forms);
  counted = grind (arith, try_forms);
  small = grind (arith, try_forms);
}

pub type_when-returns : goal.type_when-returns
type_when-returns t c = record {
  made = grind (arith, when_forms);
  behind = grind (arith, when_forms);
  counted = grind (arith, when_forms);
  small = grind (arith, when_forms);
}

pub type_if-type_expr-requires-clause-room : goal.type_if-type_expr-requires-clause-room
type_if-type_expr-requires-clause-room t c = grind (arith, if_forms)

pub type_while-type_expr-requires-clause-room : goal.type_while-type_expr-requires-clause-room
type_while-type_expr-requires-clause-room t c = grind (arith, while_forms)

pub type_else-returns-in-None : goal.type_else-returns-in-None
type_else-returns-in-None t c = record {
  made = grind (arith, else_forms);
  behind = grind (arith, else_forms);
  counted = grind (arith, else_forms);
  small = grind (arith, else_forms);
}

pub type_else-returns-in_ok-made-in-Some-2-clause-made
    : goal.type_else-returns-in_ok-made-in-Some-2-clause-made
type_else-returns-in_ok-made-in-Some-2-clause-made t c = grind (arith, else_forms)

pub type_else-returns-in_ok-made-in-Some-2-clause-counted
    : goal.type_else-returns-in_ok-made-in-Some-2-clause-counted
type_else-returns-in_ok-made-in-Some-2-clause-counted t c = grind (arith, else_forms)

pub type_else-returns-in_ok-made-in-Some-2-clause-small
    : goal.type_else-returns-in_ok-made-in-Some-2-clause-small
type_else-returns-in_ok-made-in-Some-2-clause-small t c = grind (arith, else_forms)

pub type_may_block-returns-in-None : goal.type_may_block-returns-in-None
type_may_block-returns-in-None t c = record {
  made = grind (arith, may_block_forms);
  behind = grind (arith, may_block_forms);
  counted = grind (arith, may_block_forms);
  small = grind (arith, may_block_forms);
}

pub type_may_block-returns-in_ok-made-in-Some-2 : goal.type_may_block-returns-in_ok-made-in-Some-2
type_may_block-returns-in_ok-made-in-Some-2 t c = record {
  made = grind (arith, may_block_forms);
  behind = grind (arith, may_block_forms);
  counted = grind (arith, may_block_forms);
  small = grind (arith, may_block_forms);
}

pub type_block-returns-clause-made : goal.type_block-returns-clause-made
type_block-returns-clause-made t c = grind (arith, block_forms)

pub type_block-returns-clause-counted : goal.type_block-returns-clause-counted
type_block-returns-clause-counted t c = grind (arith, block_forms)

pub type_block-returns-clause-small : goal.type_block-returns-clause-small
type_block-returns-clause-small t c = grind (arith, block_forms)

pub type_handler-returns : goal.type_handler-returns
type_handler-returns t c = record {
  made = grind (arith, handler_forms);
  behind = grind (arith, handler_forms);
  counted = grind (arith, handler_forms);
  small = grind (arith, handler_forms);
}

pub type_stmts-returns-clause-counted : goal.type_stmts-returns-clause-counted
type_stmts-returns-clause-counted t c = grind (arith, row_forms)

pub type_catches-returns-clause-counted : goal.type_catches-returns-clause-counted
type_catches-returns-clause-counted t c = grind (arith, catches_forms)

pub type_catches-loop-catch-init : goal.type_catches-loop-catch-init
type_catches-loop-catch-init t c = record {
  made = grind (arith, catches_forms);
  counted = grind (arith, catches_forms);
  small = grind (arith, catches_forms);
  ints = grind (arith, catches_forms);
  behind = grind (arith, catches_forms);
}

pub type_block-overflow_add-next : goal.type_block-overflow_add-next
type_block-overflow_add-next t c =
    let some = some_braces_nodes (braces c.args.block.now) in grind (arith, block_forms)

pub type_else-returns-in_ok-made-in-Some-2-clause-behind
    : goal.type_else-returns-in_ok-made-in-Some-2-clause-behind
type_else-returns-in_ok-made-in-Some-2-clause-behind t c =
    let old = frame_seen c.args.frame.now in
    let s = does c.deref.result.now in
    let now = frame_seen c.type_stmt.new.frame in
    let kept : Keeps old (0 + locals_in s) now =
    subst (Keeps old (0 + locals_in s)) (sym c.in_ok-made-in-Some.ensures.behind)
    (behind_keeps (written_by c.args.numbering.now) (seen c.args.home.now) s old old 0
    (begin_keeps old)) in
    let many : c.len-outside.result ≡ length c.args.frame.now.vars.items = search rules in
    let gone =
    left old now (0 + locals_in s) c.len-locals.result c.len-outside.result c.truncate.new.self
    c.args.frame.now.vars.items c.type_stmt.new.frame.vars.items c.truncate-in-Some.new.self.items
    kept refl refl c.len-locals.ensures.names c.len-locals.ensures.slots many
    c.truncate.ensures.names c.truncate.ensures.slots c.truncate-in-Some.ensures.items in
    grind (arith, else_forms)

pub type_block-returns-clause-behind : goal.type_block-returns-clause-behind
type_block-returns-clause-behind t c =
    let old = frame_seen c.args.frame.now in
    let now = frame_seen c.type_stmts.new.frame in
    let n = all_locals (all_do c.as_slice-stmts.result.now) in
    let many : c.len-vars.result ≡ length c.args.frame.now.vars.items = search rules in
    let gone =
    left old now n c.len-outside.result c.len-vars.result c.truncate.new.self
    c.args.frame.now.vars.items c.type_stmts.new.frame.vars.items c.truncate-2.new.self.items
    c.in_ok-stmts.ensures.kept refl refl c.len-outside.ensures.names c.len-outside.ensures.slots
    many c.truncate.ensures.names c.truncate.ensures.slots c.truncate-2.ensures.items in
    grind (arith, block_forms)

pub type_stmts-loop-stmt-init : goal.type_stmts-loop-stmt-init
type_stmts-loop-stmt-init t c = record {
  made = grind (arith, row_forms);
  counted = grind (arith, row_forms);
  small = grind (arith, row_forms);
  ints = grind (arith, row_forms);
  kept = (0, omega arith, begin_keeps (frame_seen c.args.frame.now));
}

pub type_stmts-type_stmt-requires : goal.type_stmts-type_stmt-requires
type_stmts-type_stmt-requires t c =
    let more =
    does_more c.args.stmts.now c.loop-stmt.stmt-index c.stmt-item.result c.loop-stmt-test.true
    c.stmt-item.is in
    let sum = c.loop-stmt.invariant.kept.1 in
    let next = c.loop-stmt.invariant.kept.2.next in
    let small = c.loop-stmt.invariant.small in
    let ints = c.loop-stmt.invariant.ints in (
      search (rules, the_lemmas),
      (grind (arith, row_forms), (grind (arith, row_forms), grind (arith, row_forms))),
    )

pub type_stmts-loop-stmt-preserved : goal.type_stmts-loop-stmt-preserved
type_stmts-loop-stmt-preserved t c =
    let more =
    does_more c.args.stmts.now c.loop-stmt.stmt-index c.stmt-item.result c.loop-stmt-test.true
    c.stmt-item.is in
    let sum = c.loop-stmt.invariant.kept.1 in
    let old = frame_seen c.args.frame.now in
    let n = c.loop-stmt.invariant.kept.0 in
    let s = does c.stmt-item.result in
    record {
      made = grind (arith, row_forms);
      counted = grind (arith, row_forms);
      small = grind (arith, row_forms);
      ints = grind (arith, row_forms);
      kept = (
        n + locals_in s,
        grind (arith, row_forms),
        subst (Keeps old (n + locals_in s)) (sym c.in_ok-made.ensures.behind)
            (behind_keeps (written_by c.args.numbering.now) (seen c.args.home.now) s old
            (frame_seen c.loop-stmt.frame) n c.loop-stmt.invariant.kept.2),
      );
    }

pub type_stmts-returns-clause-made : goal.type_stmts-returns-clause-made
type_stmts-returns-clause-made t c =
    let none = does_end c.args.stmts.now c.loop-stmt.stmt-index c.loop-stmt-test.false in
    grind (arith, row_forms)

pub type_stmts-returns-clause-small : goal.type_stmts-returns-clause-small
type_stmts-returns-clause-small t c =
    let none = does_end c.args.stmts.now c.loop-stmt.stmt-index c.loop-stmt-test.false in
    grind (arith, row_forms)

pub type_stmts-returns-clause-kept : goal.type_stmts-returns-clause-kept
type_stmts-returns-clause-kept t c =
    let none = does_end c.args.stmts.now c.loop-stmt.stmt-index c.loop-stmt-test.false in
    let sum = c.loop-stmt.invariant.kept.1 in
    let all : c.loop-stmt.invariant.kept.0 ≡ all_locals (all_do c.args.stmts.now) =
    grind (arith, row_forms) in
    subst (λ m. Keeps (frame_seen c.args.frame.now) m (frame_seen c.loop-stmt.frame)) all
    c.loop-stmt.invariant.kept.2

pub type_catches-type_handler-requires : goal.type_catches-type_handler-requires
type_catches-type_handler-requires t c =
    let more =
    catch_more c.args.catches.now c.loop-catch.catch-index c.catch-item.result
    c.loop-catch-test.true c.catch-item.is in
    let small = c.loop-catch.invariant.small in
    let ints = c.loop-catch.invariant.ints in
    let next = ap (λ f. f.next) c.loop-catch.invariant.behind in (
      search (rules, the_lemmas),
      (grind (arith, catches_forms), (grind (arith, catches_forms), grind (arith, catches_forms))),
    )

pub type_catches-loop-catch-preserved : goal.type_catches-loop-catch-preserved
type_catches-loop-catch-preserved t c =
    let more =
    catch_more c.args.catches.now c.loop-catch.catch-index c.catch-item.result
    c.loop-catch-test.true c.catch-item.is in
    record {
      made = grind (arith, catches_forms);
      counted = grind (arith, catches_forms);
      small = grind (arith, catches_forms);
      ints = grind (arith, catches_forms);
      behind = grind (arith, catches_forms);
    }

pub type_catches-returns-clause-made : goal.type_catches-returns-clause-made
type_catches-returns-clause-made t c =
    let none = catch_end c.args.catches.now c.loop-catch.catch-index c.loop-catch-test.false in
    grind (arith, catches_forms)

pub type_catches-returns-clause-small : goal.type_catches-returns-clause-small
type_catches-returns-clause-small t c =
    let none = catch_end c.args.catches.now c.loop-catch.catch-index c.loop-catch-test.false in
    grind (arith, catches_forms)

pub type_catches-returns-clause-behind : goal.type_catches-returns-clause-behind
type_catches-returns-clause-behind t c =
    let none = catch_end c.args.catches.now c.loop-catch.catch-index c.loop-catch-test.false in
    grind (arith, catches_forms)
