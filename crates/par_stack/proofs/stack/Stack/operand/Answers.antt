use Rattle.std.proofs.Common.{◌<◌, List, length, slice_get, ap, ◌∙◌, sym, subst, arith}
use Rattle.std.proofs.lemmas.Option.{slice_get_past}
use Rattle.par_stack.specs.Frames.{Frame, running}
use Rattle.par_stack.proofs.Laid.{counted}
use Rattle.par_stack.proofs.Changes.{operand_read}
use Rattle.par_stack.proofs.stack.Stack.operand.Goals as goal

pub overflow_sub-self-inside : goal.overflow_sub-self-inside
overflow_sub-self-inside c =
    let k = counted _ _ _ _ c.self.invariant c.self.view_is in
    omega (arith, k.count)

pub returns-then-after-self : goal.returns-then-after-self
returns-then-after-self c =
    let k = counted _ _ _ _ c.self.invariant c.self.view_is in
    sym (slice_get_past (running c.args.self.now).operands c.args.after
    (omega (arith, k.count, c.if-after-self.true)))

pub index-requires : goal.index-requires
index-requires c =
    let k = counted _ _ _ _ c.self.invariant c.self.view_is in
    omega (arith, k.many, k.free, k.count, c.if-after-self.false)

pub returns : goal.returns
returns c =
    let k = counted _ _ _ _ c.self.invariant c.self.view_is in
    let there : c.args.after < length (running c.args.self.now).operands =
    omega (arith, k.count, c.if-after-self.false) in
    let less =
    subst (λ (frames : List Frame). c.args.after < length (running frames).operands)
    (sym c.self.view_is) there in
    c.index.ensures
    ∙ operand_read _ _ _ c.self.invariant c.args.after c.index.result.now less
    ∙ ap (λ (frames : List Frame). slice_get (running frames).operands c.args.after) c.self.view_is
