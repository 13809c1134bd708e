use Rattle.std.proofs.Common.{ℕ, ap, ◌∙◌}
use Rattle.par_run_laws.specs.Source.{source}
use Rattle.par_tool.proofs.traces.run_on.Goals as goal

pub returns-in-Ok-clause-ran : goal.returns-in-Ok-clause-ran
returns-in-Ok-clause-ran g c = (
  c.in_ok-inputs.inputs,
  c.in_ok-inputs.ensures.given,
  c.in-Ok.ensures
      ∙ ap (λ (n : ℕ). source c.args.typed.now c.in_ok-inputs.inputs n) c.from.ensures,
)
