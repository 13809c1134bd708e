use Rattle.std.proofs.Common.{◌≡◌, rules, subst, to_z, of_z, w8, w16, w32}
use Rattle.par_values.specs.Operations.{Push, Increase}
use Rattle.par_method_area.specs.par_actions.Done.{Comes}
use Rattle.par_machine.proofs.frame_work.work.Goals as goal

pub returns-in-Iconst-clause-done : goal.returns-in-Iconst-clause-done
returns-in-Iconst-clause-done c = λ names classes spot program at.
    let e : to_z w32 (of_z w32 (to_z w8 (of_z w8 c.in-Iconst.number))) ≡ c.in-Iconst.number =
    search rules in
    rw c.in-Iconst.is
    (subst (λ n. Comes c.push_number.result classes spot (Push n) program c.args.stack.now
    c.push_number.new.stack) e
    (c.push_number.ensures.done classes spot program at))

pub returns-in-Bipush-clause-done : goal.returns-in-Bipush-clause-done
returns-in-Bipush-clause-done c = λ names classes spot program at.
    let e : to_z w32 (of_z w32 (to_z w8 (of_z w8 c.in-Bipush.number))) ≡ c.in-Bipush.number =
    search rules in
    rw c.in-Bipush.is
    (subst (λ n. Comes c.push_number-in-Bipush.result classes spot (Push n) program c.args.stack.now
    c.push_number-in-Bipush.new.stack) e
    (c.push_number-in-Bipush.ensures.done classes spot program at))

pub returns-in-Sipush-clause-done : goal.returns-in-Sipush-clause-done
returns-in-Sipush-clause-done c = λ names classes spot program at.
    let e : to_z w32 (of_z w32 (to_z w16 (of_z w16 c.in-Sipush.number))) ≡ c.in-Sipush.number =
    search rules in
    rw c.in-Sipush.is
    (subst (λ n. Comes c.push_number-in-Sipush.result classes spot (Push n) program c.args.stack.now
    c.push_number-in-Sipush.new.stack) e
    (c.push_number-in-Sipush.ensures.done classes spot program at))

pub returns-in-Iinc-clause-done : goal.returns-in-Iinc-clause-done
returns-in-Iinc-clause-done c = λ names classes spot program at.
    let e : to_z w8 (of_z w8 c.in-Iinc.by) ≡ c.in-Iinc.by = search rules in
    rw c.in-Iinc.is
    (subst (λ n. Comes c.increase.result classes spot (Increase c.in-Iinc.place n) program
    c.args.stack.now c.increase.new.stack) e
    (c.increase.ensures.done classes spot program at))
