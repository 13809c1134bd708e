use Rattle.std.proofs.Common.{map, drop}
use Rattle.par_base.specs.Names.{IsName}
use Rattle.par_typed.specs.par_policy.Numbers.{has}
use Rattle.par_typed.specs.Shown.{bodies}
use Rattle.par_erase.specs.Shown.{does, method_info}
use Rattle.par_erase.specs.Erased.{inputs_in, erased_method, handed}
use Rattle.par_erase.proofs.Copies.{whole_behind, copies_step, copies_end}
use Rattle.par_erase.proofs.Names.{named_step}
use Rattle.par_erase.proofs.Bodies.{handed_step, none_handed}
use Rattle.par_erase.proofs.classes.erase_methods.Goals as goal

pub loop-place-preserved : goal.loop-place-preserved
loop-place-preserved c = record {
  infos =
      copies_step method_info erased_method c.loop-place.found c.push.new.self
      c.in_ok-method.method c.args.methods.now c.loop-place.place c.index-methods-place.result
      c.in_ok-push.ensures.ok c.loop-place-test.true c.index-methods-place.is
      c.in_ok-method.ensures.info c.loop-place.invariant.infos;
  bodies =
      handed_step (λ m. does (inputs_in c.args.table.now) m.body) c.args.table.now
      (has c.args.asked.now)
      c.args.methods.now c.args.all.now c.loop-place.place c.index-methods-place.result
      c.loop-place.found c.push.new.self c.in_ok-method.method c.in_ok-push.ensures.ok
      c.loop-place-test.true c.index-methods-place.is
      c.in_ok-method.ensures.body
      c.loop-place.invariant.bodies;
  named =
      named_step method_info (λ m. IsName m.name) c.loop-place.found c.push.new.self
      c.in_ok-method.method c.in_ok-push.ensures.ok c.in_ok-method.ensures.named
      c.loop-place.invariant.named;
}

pub returns-clause-infos : goal.returns-clause-infos
returns-clause-infos c =
    copies_end method_info erased_method c.loop-place.found c.args.methods.now c.loop-place.place
    c.loop-place-test.false c.loop-place.invariant.infos

pub returns-clause-bodies : goal.returns-clause-bodies
returns-clause-bodies c =
    let t = c.args.table.now in
    let a = has c.args.asked.now in
    let left = bodies (drop c.loop-place.place c.args.all.now) in
    whole_behind (map (λ m. does (inputs_in t) m.body) c.loop-place.found)
    (handed t a (drop c.loop-place.place c.args.methods.now) left)
    (handed t a c.args.methods.now (bodies c.args.all.now))
    (none_handed t a c.args.methods.now left c.loop-place.place c.loop-place-test.false)
    c.loop-place.invariant.bodies
