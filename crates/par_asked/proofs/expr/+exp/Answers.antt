use Rattle.std.proofs.Common.{arith}
use Rattle.par_asked.proofs.Left.{args_left, no_args_left}
use Rattle.std.specs.Option.{option_copied}
use Rattle.par_typed.specs.Shown.{mark_of}
use Rattle.par_nodes.specs.par_program_laws.Declares.{method_of}
use Rattle.par_asked.specs.Seen.{seen_checks, own, table}
use Rattle.par_asked.proofs.Forms.{exps, call_made}
use Rattle.std.proofs.lemmas.Result.{on_ok_weaker}
use Rattle.par_asked.proofs.expr.+exp.Goals as goal

pub args-loop-argument-preserved : goal.args-loop-argument-preserved
args-loop-argument-preserved t c =
    let more = args_left c.args.args.now c.loop-argument.argument-index c.argument-item.result
    c.loop-argument-test.true c.argument-item.is in
    grind (arith, exps)

pub args-returns : goal.args-returns
args-returns t c =
    let none = no_args_left c.args.args.now c.loop-argument.argument-index
    c.loop-argument-test.false in grind (arith, exps)

pub exp-returns-in_ok-args-in-Call : goal.exp-returns-in_ok-args-in-Call
exp-returns-in_ok-args-in-Call t c =
    on_ok_weaker c.ask_call.result
    (call_made (table c.args.home.now) (own c.args.home.now) c.args.e.now.kind
    (mark_of c.args.e.now) c.in-Call.class c.in-Call.method c.in-Call.of c.in-Call.arguments
    c.as_slice-arguments.result.now (method_of (option_copied c.method-method.result))
    (seen_checks c.args.checks.now) (seen_checks c.may_exp.new.checks)
    (seen_checks c.args-in-Call.new.checks) (seen_checks c.ask_call.new.checks)
    c.in-Call.is c.as_slice-arguments.ensures c.method-method.ensures
    c.in_ok-may_exp-in-Call.ensures c.in_ok-args-in-Call.ensures)
    c.ask_call.ensures
