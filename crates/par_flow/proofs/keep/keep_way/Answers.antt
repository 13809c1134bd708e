use Rattle.std.proofs.Common.{length, subst, ap, ◌∙◌}
use Rattle.par_envs.specs.Numbered.{envs, Names}
use Rattle.par_envs.proofs.Found.{different}
use Rattle.par_flow.proofs.Ways.{shows_named}
use Rattle.par_flow.proofs.Used.{number_adds, number_long}
use Rattle.par_flow.proofs.keep.keep_way.Goals as goal

pub returns-clause-way : goal.returns-clause-way
returns-clause-way c =
    let es = envs c.number.new.self.entries.items in
    shows_named es _ c.args.way.now c.context.ensures c.locks.ensures
    (subst (Names es c.in_ok-env.env) c.compared_env.ensures c.in_ok-env.ensures.names)

pub returns-clause-adds : goal.returns-clause-adds
returns-clause-adds c =
    number_adds (envs c.args.numbered.now.entries.items) (envs c.number.new.self.entries.items) _ _
    (different c.number.new.self.entries.items c.in_ok-env.ensures.found) c.in_ok-env.ensures.names
    c.in_ok-env.ensures.adds

pub returns-clause-long : goal.returns-clause-long
returns-clause-long c = λ n wide h.
    number_long (envs c.args.numbered.now.entries.items) (envs c.number.new.self.entries.items)
    c.compared_env.result.now n (ap length c.compared_env.ensures ∙ wide) c.in_ok-env.ensures.adds h
