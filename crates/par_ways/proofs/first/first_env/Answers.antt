use Rattle.std.proofs.Common.{rules, arith, Some, ◌≡◌, length}
use Rattle.par_program_laws.specs.Lattice.{numbers}
use Rattle.par_program_laws.specs.Declares.{method_of, params_of}
use Rattle.par_program_laws.specs.Closed.{locals as entering}
use Rattle.par_ways.proofs.Firsts.{env_push, env_whole, entering_past}
use Rattle.par_ways.proofs.first.first_env.Goals as goal

pub loop-local-preserved : goal.loop-local-preserved
loop-local-preserved c =
    let m = c.args.method.now in
    env_push c.loop-local.env c.push.new.self _ c.loop-local.local
    (entering numbers m.is_static (params_of m.params)) c.in_ok-push.ensures.ok
    c.loop-local.invariant.0 c.policy_at.ensures c.loop-local.invariant.1

pub returns-clause-policies : goal.returns-clause-policies
returns-clause-policies c =
    let m = c.args.method.now in let n = c.loop-local.local in
    let e : n ≡ length m.locals = search rules in
    env_whole c.loop-local.env n (entering numbers m.is_static (params_of m.params))
    c.loop-local.invariant.0 c.loop-local.invariant.1
    (λ i h. entering_past (method_of (Some m)) i
    (let a = c.requires.arrive in omega (arith, a, e, h)))
