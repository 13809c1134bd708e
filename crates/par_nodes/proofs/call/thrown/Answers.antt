use Rattle.std.proofs.Common.{rules, ◌-◌, get_or, Some, ap, sym, ◌∙◌}
use Rattle.par_program_laws.specs.Declares.{declares, method_of, throws_of}
use Rattle.par_program_laws.specs.Body.{thrown}
use Rattle.par_nodes.specs.Seen.{seen_rules, seen_start, tested}
use Rattle.par_nodes.proofs.Rows.{drop_zero, thrown_at}
use Rattle.par_typed.specs.declared.table.ThrowInfo.{ThrowInfo}
use Rattle.par_program_laws.specs.Kinds.{Throw}
use Rattle.par_program_laws.specs.Rules.{Leaves, Shut, Raised}
use Rattle.par_nodes.proofs.call.thrown.Goals as goal

pub loop-place-preserved : goal.loop-place-preserved
loop-place-preserved c =
    let m = method_of (Some c.args.method.now) in
    let from = tested c.args.stand.receiver (seen_start c.args.stand.start) in
    let ts = c.as_slice-throws.result.now in let p = c.loop-place.place in
    let t : ThrowInfo = record { class = 0; policy = 0 } in
    c.in_ok-rules.ensures
    ∙ ap (Leaves (Shut m.closes (Raised (get_or ts (p - 1) t).policy from))
    (Throw (get_or ts (p - 1) t).class)) c.loop-place.invariant
    ∙ sym (thrown_at (declares c.args.table.now) m from ts p t (seen_rules c.args.more.rules)
    (search rules) (search rules))

pub returns : goal.returns
returns c =
    c.loop-place.invariant
    ∙ ap (λ l. thrown (declares c.args.table.now) (method_of (Some c.args.method.now))
    (tested c.args.stand.receiver (seen_start c.args.stand.start)) (throws_of l)
    (seen_rules c.args.more.rules))
    (drop_zero c.as_slice-throws.result.now c.loop-place.place (search rules)
    ∙ c.as_slice-throws.ensures)
