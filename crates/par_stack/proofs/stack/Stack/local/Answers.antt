use Rattle.std.proofs.Common.{◌<◌, List, length, slice_get, ap, ◌∙◌, sym, subst, arith}
use Rattle.std.proofs.lemmas.Option.{slice_get_past}
use Rattle.par_stack.specs.Frames.{Frame, running}
use Rattle.par_values.specs.Areas.{local_value}
use Rattle.par_stack.proofs.Laid.{counted}
use Rattle.par_stack.proofs.Changes.{local_read}
use Rattle.par_stack.proofs.stack.Stack.local.Goals as goal

pub overflow_add-at : goal.overflow_add-at
overflow_add-at c =
    let k = counted _ _ _ _ c.self.invariant c.self.view_is in
    omega (arith, k.locals, k.count, k.free, k.many, c.self.inside.places.small)

pub returns-then-at-self : goal.returns-then-at-self
returns-then-at-self c =
    let k = counted _ _ _ _ c.self.invariant c.self.view_is in
    let past =
    slice_get_past (running c.args.self.now).locals c.args.place
    (omega (arith, k.locals, c.if-at-self.true)) in
    sym (ap local_value past)

pub index-requires : goal.index-requires
index-requires c =
    let k = counted _ _ _ _ c.self.invariant c.self.view_is in
    omega (arith, k.many, k.free, k.count, k.locals, c.if-at-self.false)

pub returns : goal.returns
returns c =
    let k = counted _ _ _ _ c.self.invariant c.self.view_is in
    let there : c.args.place < length (running c.args.self.now).locals =
    omega (arith, k.locals, c.if-at-self.false) in
    let less =
    subst (λ (frames : List Frame). c.args.place < length (running frames).locals)
    (sym c.self.view_is) there in
    c.index.ensures
    ∙ local_read _ _ _ c.self.invariant c.args.place c.index.result.now less
    ∙ ap (λ (frames : List Frame). local_value (slice_get (running frames).locals c.args.place))
    c.self.view_is
