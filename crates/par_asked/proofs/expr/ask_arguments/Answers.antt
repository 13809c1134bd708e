use Rattle.std.proofs.Common.{◌++◌, drop, sym, ap, ◌∙◌}
use Rattle.std.proofs.lemmas.List.{append-nil}
use Rattle.par_nodes.specs.par_program_laws.Declares.{params_of}
use Rattle.par_check_laws.specs.Checks.{arguments}
use Rattle.par_asked.specs.Seen.{seen_checks, own, table}
use Rattle.par_asked.proofs.Forms.{no_arguments}
use Rattle.par_asked.proofs.Left.{no_args_left}
use Rattle.par_asked.proofs.expr.ask_arguments.Goals as goal

pub returns : goal.returns
returns c =
    let t = table c.args.home.now in let m = own c.args.home.now in
    let ps = params_of (drop c.loop-place.place c.args.params.now) in
    sym (append-nil (seen_checks c.loop-place.checks))
    ∙ ap (λ cs. seen_checks c.loop-place.checks ++ cs)
    (sym (ap (arguments t m ps) (no_args_left c.args.args.now c.loop-place.place
    c.loop-place-test.false) ∙ no_arguments t m ps))
    ∙ c.loop-place.invariant
