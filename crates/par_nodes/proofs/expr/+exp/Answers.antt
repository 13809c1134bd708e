use Rattle.std.proofs.Common.{rules, refl, sym}
use Rattle.std.proofs.lemmas.Result.{IfOk-weaker}
use Rattle.par_typed.specs.Shown.{all_shown, mark_of, receiver, shown}
use Rattle.par_program_laws.specs.Declares.{declares}
use Rattle.par_program_laws.specs.Rules.{Done, goes_on}
use Rattle.par_program_laws.specs.Body.{past, second}
use Rattle.par_nodes.specs.Seen.{seen_rules, seen_start}
use Rattle.par_nodes.specs.Starts.{call_does, call_start}
use Rattle.par_nodes.proofs.Rows.{args_next, args_none}
use Rattle.par_nodes.proofs.Expressions.{int_made, bool_made, nullary_made, new_made}
use Rattle.par_nodes.proofs.Expressions.{local_made, static_made, input_made, field_made}
use Rattle.par_nodes.proofs.Expressions.{output_made, call_made, unary_made, binary_made}
use Rattle.par_nodes.proofs.Expressions.{selected, valued, combined}
use Rattle.par_nodes.proofs.expr.+exp.Goals as goal

pub args-loop-place-init : goal.args-loop-place-init
args-loop-place-init t c =
    sym (args_none (declares c.args.table.now) _ c.args.args.now (seen_rules c.args.more.rules))

pub args-loop-place-preserved : goal.args-loop-place-preserved
args-loop-place-preserved t c =
    args_next (declares c.args.table.now) (seen_start c.args.from) c.args.args.now
    c.loop-place.place c.index-args-place.result (seen_rules c.args.more.rules)
    (seen_rules c.in_ok-rules.rules.rules) (seen_rules c.loop-place.rules.rules)
    (seen_start c.start_at.result) (search rules) (search rules) (search rules)
    c.in_ok-rules.ensures c.start_at.ensures c.loop-place.invariant

pub rules_of-returns-in-Int : goal.rules_of-returns-in-Int
rules_of-returns-in-Int t c =
    let e = c.args.e.now in
    int_made (declares c.args.table.now) e.kind (mark_of e) _ (seen_rules c.ends.result.rules)
    c.in-Int.is c.ends.ensures

pub rules_of-returns-in-Bool : goal.rules_of-returns-in-Bool
rules_of-returns-in-Bool t c =
    let e = c.args.e.now in
    bool_made (declares c.args.table.now) e.kind (mark_of e) _
    (seen_rules c.ends-in-Bool.result.rules) c.in-Bool.is c.ends-in-Bool.ensures

pub rules_of-returns-in-Null : goal.rules_of-returns-in-Null
rules_of-returns-in-Null t c =
    let e = c.args.e.now in
    nullary_made (declares c.args.table.now) e.kind (mark_of e)
    (seen_rules c.ends-in-Null.result.rules) c.in-Null.is c.ends-in-Null.ensures

pub rules_of-returns-in-New : goal.rules_of-returns-in-New
rules_of-returns-in-New t c =
    let e = c.args.e.now in
    new_made (declares c.args.table.now) e.kind (mark_of e) c.in-New.class
    c.birth.result (seen_rules c.given.result.rules) c.in-New.is c.birth.ensures c.given.ensures

pub rules_of-returns-in-Local : goal.rules_of-returns-in-Local
rules_of-returns-in-Local t c =
    let e = c.args.e.now in
    local_made (declares c.args.table.now) e.kind (mark_of e) c.in-Local.local
    (seen_rules c.gives.result.rules) c.in-Local.is c.gives.ensures

pub rules_of-returns-in-Static : goal.rules_of-returns-in-Static
rules_of-returns-in-Static t c =
    let e = c.args.e.now in
    static_made (declares c.args.table.now) e.kind (mark_of e) c.in-Static.class
    c.in-Static.field c.field.result (seen_rules c.given-in-Static.result.rules) c.in-Static.is
    c.field.ensures c.given-in-Static.ensures

pub rules_of-returns-in-Input : goal.rules_of-returns-in-Input
rules_of-returns-in-Input t c =
    let e = c.args.e.now in
    input_made (declares c.args.table.now) e.kind (mark_of e) c.in-Input.class
    c.in-Input.channel c.channel.result (seen_rules c.given-in-Input.result.rules) c.in-Input.is
    c.channel.ensures c.given-in-Input.ensures

pub rules_of-returns-in-Field : goal.rules_of-returns-in-Field
rules_of-returns-in-Field t c =
    let e = c.args.e.now in
    let of = c.deref.result.now in
    IfOk-weaker c.selects.result _ _
    (λ r. field_made (declares c.args.table.now) e.kind (mark_of e) c.in-Field.of
    c.in-Field.class c.in-Field.field c.field-in-Field.result of of (seen_rules r.rules)
    (selected (shown of) c.field-in-Field.result) c.in-Field.is c.field-in-Field.ensures
    c.deref.ensures refl c.deref.ensures)
    c.selects.ensures

pub rules_of-returns-in-Output : goal.rules_of-returns-in-Output
rules_of-returns-in-Output t c =
    let e = c.args.e.now in
    IfOk-weaker c.puts.result _ _
    (λ r. output_made (declares c.args.table.now) e.kind (mark_of e) _ _
    c.in-Output.value c.deref-in-Output.result.now (seen_rules r.rules)
    (goes_on past Done) c.in-Output.is refl c.deref-in-Output.ensures)
    c.puts.ensures

pub rules_of-returns-in_ok-all-in-Call : goal.rules_of-returns-in_ok-all-in-Call
rules_of-returns-in_ok-all-in-Call t c =
    let e = c.args.e.now in
    let d = declares c.args.table.now in
    let of = c.in-Call.of in
    let es = c.as_slice.result.now in
    let does = call_does d (d.method c.in-Call.class c.in-Call.method) (receiver of)
    (all_shown es) in
    IfOk-weaker c.behind.result _ _
    (λ r. call_made d e.kind (mark_of e) c.in-Call.class
    c.in-Call.method of c.in-Call.arguments es (seen_rules r.rules)
    (seen_rules c.in_ok-all-in-Call.all.rules) does (call_start (receiver of))
    c.in-Call.is c.as_slice.ensures refl refl c.in_ok-all-in-Call.ensures)
    c.behind.ensures

pub rules_of-returns-in-Neg : goal.rules_of-returns-in-Neg
rules_of-returns-in-Neg t c =
    let e = c.args.e.now in
    IfOk-weaker c.operates.result _ _
    (λ r. unary_made (declares c.args.table.now) e.kind (mark_of e) c.in-Neg.of
    c.deref-in-Neg.result.now (seen_rules r.rules) valued c.in-Neg.is refl
    c.deref-in-Neg.ensures)
    c.operates.ensures

pub rules_of-returns-in_ok-last-in-Binary : goal.rules_of-returns-in_ok-last-in-Binary
rules_of-returns-in_ok-last-in-Binary t c =
    let e = c.args.e.now in
    let op = c.in-Binary.op in
    let right = c.deref-in-Binary.result.now in
    IfOk-weaker c.operand.result _ _
    (λ r. binary_made (declares c.args.table.now) e.kind (mark_of e) op
    c.in-Binary.left c.in-Binary.right c.deref-in-Binary-2.result.now right right (second op)
    (seen_rules r.rules) (seen_rules c.in_ok-last-in-Binary.last.rules)
    (combined op (shown right)) c.in-Binary.is c.deref-in-Binary.ensures refl refl
    c.deref-in-Binary.ensures c.in_ok-last-in-Binary.ensures c.deref-in-Binary-2.ensures)
    c.operand.ensures
