use Rattle.std.proofs.Common.{rules, arith, refl, ap, ◌∙◌, drop, length}
use Rattle.std.proofs.lemmas.Result.{IfOk-weaker}
use Rattle.par_program_laws.specs.Declares.{declares}
use Rattle.par_program_laws.specs.Kinds.{Next}
use Rattle.par_program_laws.specs.Rules.{Entry, Part}
use Rattle.par_nodes.specs.Seen.{seen_rules, seen_node, seen_origin, seen_start}
use Rattle.par_typed.specs.declared.stmt.TStmtKind.TheViews.{the_lemmas}
use Rattle.par_typed.specs.Shown.{all_do, does}
use Rattle.par_program_laws.specs.Body.{sta, stas, tested}
use Rattle.par_nodes.proofs.Forms.{forms}
use Rattle.par_nodes.proofs.Branches.{stas_none, stas_next, catches_none, catches_next}
use Rattle.par_nodes.proofs.Statements.{block_made, if_made, while_made, looped, try_made}
use Rattle.par_nodes.proofs.Statements.{return_made}
use Rattle.par_nodes.proofs.Statements.{break_made, continue_made, throw_made, open_made}
use Rattle.par_nodes.proofs.Statements.{close_made, set_local_made, set_static_made}
use Rattle.par_nodes.proofs.Statements.{set_field_made, eval_made, when_made}
use Rattle.par_nodes.proofs.stmt.+sta.Goals as goal

pub stas-loop-place-init : goal.stas-loop-place-init
stas-loop-place-init t c =
    let d = declares c.args.table.now in
    let ss = c.args.stmts.now in
    stas_none d (seen_start c.start_at.result) ss (seen_rules c.ends-rules.result.rules)
    c.ends-rules.ensures
    ∙ ap (λ f. stas d f (all_do (drop (length ss) ss))) c.start_at.ensures

pub catches-loop-place-init : goal.catches-loop-place-init
catches-loop-place-init t c =
    catches_none (declares c.args.table.now) (seen_node c.args.block.now.node.value)
    c.args.catches.now _ (seen_rules c.ends-rules.result.rules) c.ends-rules.ensures

pub stas-loop-place-preserved : goal.stas-loop-place-preserved
stas-loop-place-preserved t c =
    stas_next (declares c.args.table.now) Entry c.args.stmts.now c.loop-place.place
    c.index-stmts-place.result
    (seen_rules c.in_ok-rules.rules.rules) (seen_rules c.loop-place.rules.rules)
    (seen_start c.start_at-in-loop-place.result) (search rules) (search rules) (search rules)
    c.in_ok-rules.ensures c.start_at-in-loop-place.ensures c.loop-place.invariant

pub catches-loop-place-preserved : goal.catches-loop-place-preserved
catches-loop-place-preserved t c =
    catches_next (declares c.args.table.now) (seen_node c.args.block.now.node.value)
    c.args.catches.now c.loop-place.place c.index-catches-place.result
    (seen_rules c.in_ok-rules.rules.rules) (seen_rules c.loop-place.rules.rules)
    (seen_rules c.in_ok-entered.entered.rules)
    (seen_start c.catch_start.result) (search rules) (search rules) (search rules)
    c.in_ok-rules.ensures c.in_ok-entered.ensures c.catch_start.ensures c.loop-place.invariant

pub else_rules-returns-in-None : goal.else_rules-returns-in-None
else_rules-returns-in-None t c = grind (arith, forms)

pub else_rules-returns-in_ok-rest-in-Some : goal.else_rules-returns-in_ok-rest-in-Some
else_rules-returns-in_ok-rest-in-Some t c = grind (arith, forms)

pub rules_of-returns-in-Block : goal.rules_of-returns-in-Block
rules_of-returns-in-Block t c =
    let s = c.args.stmt.now in
    IfOk-weaker c.stas.result _ _
    (λ r. block_made (declares c.args.table.now) s.kind s.at s.point c.in-Block.stmts
    c.as_slice.result.now (seen_rules r.rules) c.in-Block.is c.as_slice.ensures)
    c.stas.ensures

pub rules_of-returns-in_ok-rest-in-If : goal.rules_of-returns-in_ok-rest-in-If
rules_of-returns-in_ok-rest-in-If t c =
    let s = c.args.stmt.now in
    let d = declares c.args.table.now in
    let block = c.deref.result.now in
    let rest = seen_rules c.in_ok-rest-in-If.rest.rules in
    IfOk-weaker c.chooses.result _ _
    (λ r. if_made d s.kind s.at s.point c.in-If.test c.in-If.block c.in-If.other block
    (seen_rules r.rules) (Part tested Next (sta d (does block)) rest) rest c.in-If.is
    c.in_ok-rest-in-If.ensures c.deref.ensures refl)
    c.chooses.ensures

pub rules_of-returns-in-While : goal.rules_of-returns-in-While
rules_of-returns-in-While t c =
    let s = c.args.stmt.now in
    let d = declares c.args.table.now in
    let block = c.deref-in-While.result.now in
    IfOk-weaker c.loops.result _ _
    (λ r. while_made d s.kind s.at s.point c.in-While.test c.in-While.block block
    (seen_rules r.rules) (looped d (does block)) c.in-While.is c.deref-in-While.ensures refl)
    c.loops.ensures

pub rules_of-tries-requires : goal.rules_of-tries-requires
rules_of-tries-requires t c = (search (rules, the_lemmas), c.in_ok-classes-in-Try.ensures)

pub rules_of-returns-in_ok-node-in-Try : goal.rules_of-returns-in_ok-node-in-Try
rules_of-returns-in_ok-node-in-Try t c =
    let s = c.args.stmt.now in
    IfOk-weaker c.tries.result _ _
    (λ r. try_made (declares c.args.table.now) s.kind s.at s.point c.in-Try.block
    c.in-Try.clauses c.as_slice-clauses.result.now c.deref-in-Try.result.now (seen_rules r.rules)
    (seen_node c.in_ok-node-in-Try.node.node.value) c.in-Try.is c.deref-in-Try.ensures
    c.in_ok-node-in-Try.ensures c.as_slice-clauses.ensures)
    c.tries.ensures

pub rules_of-returns-in-Return : goal.rules_of-returns-in-Return
rules_of-returns-in-Return t c =
    let s = c.args.stmt.now in
    IfOk-weaker c.returns.result _ _
    (λ r. return_made (declares c.args.table.now) s.kind s.at s.point c.in-Return.value
    (seen_rules r.rules) c.in-Return.is)
    c.returns.ensures

pub rules_of-returns-in-Break : goal.rules_of-returns-in-Break
rules_of-returns-in-Break t c =
    let s = c.args.stmt.now in
    break_made (declares c.args.table.now) s.kind s.at s.point
    (seen_rules c.completes.result.rules) c.in-Break.is c.completes.ensures

pub rules_of-returns-in-Continue : goal.rules_of-returns-in-Continue
rules_of-returns-in-Continue t c =
    let s = c.args.stmt.now in
    continue_made (declares c.args.table.now) s.kind s.at s.point
    (seen_rules c.completes-in-Continue.result.rules) c.in-Continue.is
    c.completes-in-Continue.ensures

pub rules_of-returns-in-Throw : goal.rules_of-returns-in-Throw
rules_of-returns-in-Throw t c =
    let s = c.args.stmt.now in
    throw_made (declares c.args.table.now) s.kind s.at s.point c.in-Throw.class
    (seen_rules c.completes-in-Throw.result.rules) c.in-Throw.is c.completes-in-Throw.ensures

pub rules_of-returns-in-OpenLock : goal.rules_of-returns-in-OpenLock
rules_of-returns-in-OpenLock t c =
    let s = c.args.stmt.now in
    open_made (declares c.args.table.now) s.kind s.at s.point c.in-OpenLock.lock
    (seen_rules c.opens.result.rules) c.in-OpenLock.is c.opens.ensures

pub rules_of-returns-in-CloseLock : goal.rules_of-returns-in-CloseLock
rules_of-returns-in-CloseLock t c =
    let s = c.args.stmt.now in
    close_made (declares c.args.table.now) s.kind s.at s.point c.in-CloseLock.lock
    (seen_rules c.shuts.result.rules) c.in-CloseLock.is c.shuts.ensures

pub rules_of-returns-in-SetLocal : goal.rules_of-returns-in-SetLocal
rules_of-returns-in-SetLocal t c =
    let s = c.args.stmt.now in
    IfOk-weaker c.assigns.result _ _
    (λ r. set_local_made (declares c.args.table.now) s.kind s.at s.point c.in-SetLocal.local _
    c.in-SetLocal.value (seen_rules r.rules) c.in-SetLocal.is)
    c.assigns.ensures

pub rules_of-returns-in-SetStatic : goal.rules_of-returns-in-SetStatic
rules_of-returns-in-SetStatic t c =
    let s = c.args.stmt.now in
    IfOk-weaker c.evaluates.result _ _
    (λ r. set_static_made (declares c.args.table.now) s.kind s.at s.point _ _
    c.in-SetStatic.value (seen_rules r.rules) c.in-SetStatic.is)
    c.evaluates.ensures

pub rules_of-returns-in-SetField : goal.rules_of-returns-in-SetField
rules_of-returns-in-SetField t c =
    let s = c.args.stmt.now in
    IfOk-weaker c.writes.result _ _
    (λ r. set_field_made (declares c.args.table.now) s.kind s.at s.point c.in-SetField.of _ _
    c.in-SetField.value (seen_rules r.rules) c.in-SetField.is)
    c.writes.ensures

pub rules_of-returns-in-Eval : goal.rules_of-returns-in-Eval
rules_of-returns-in-Eval t c =
    let s = c.args.stmt.now in
    IfOk-weaker c.evaluates-in-Eval.result _ _
    (λ r. eval_made (declares c.args.table.now) s.kind s.at s.point c.in-Eval.value
    (seen_rules r.rules) c.in-Eval.is)
    c.evaluates-in-Eval.ensures

pub rules_of-returns-in_ok-rest-in-When : goal.rules_of-returns-in_ok-rest-in-When
rules_of-returns-in_ok-rest-in-When t c =
    let s = c.args.stmt.now in
    let d = declares c.args.table.now in
    let block = c.deref-in-When.result.now in
    let from = seen_origin c.held.result in
    let rest = seen_rules c.in_ok-rest-in-When.rest.rules in
    IfOk-weaker c.opened.result _ _
    (λ r. when_made d s.kind s.at s.point c.in-When.lock c.lock-policy.result c.in-When.block
    c.in-When.other block (seen_origin c.asked.result) from (seen_rules r.rules)
    (Part from Next (sta d (does block)) rest) rest c.in-When.is c.lock-policy.ensures
    c.asked.ensures c.in_ok-rest-in-When.ensures c.held.ensures c.deref-in-When.ensures refl)
    c.opened.ensures
