use Rattle.std.proofs.Common.{◌≤◌, ◌-◌, ◌∷◌, List, length, reverse, ap, ◌∙◌, sym, subst, arith}
use Rattle.par_stack.specs.declared.point.Extent.{Extent}
use Rattle.par_stack.specs.Frames.{Frame, running, with_running, entered, popped, last_operands}
use Rattle.par_stack.proofs.Laid.{counted, seen, laid}
use Rattle.par_stack.proofs.Changes.{entered_lie, apart}
use Rattle.par_stack.proofs.stack.Stack.enter.Goals as goal

pub overflow_add-floor : goal.overflow_add-floor
overflow_add-floor c =
    let k = counted _ _ _ _ c.self.invariant c.self.view_is in
    omega (arith, k.many, c.self.inside.places.small)

pub overflow_add-end : goal.overflow_add-end
overflow_add-end c =
    let k = counted _ _ _ _ c.self.invariant c.self.view_is in
    omega (arith, k.many, c.self.inside.places.small)

pub overflow_sub-from : goal.overflow_sub-from
overflow_sub-from c =
    let k = counted _ _ _ _ c.self.invariant c.self.view_is in
    omega (arith, k.count, c.requires.given)

pub copy_within-requires-clause-in_bounds : goal.copy_within-requires-clause-in_bounds
copy_within-requires-clause-in_bounds c =
    let k = counted _ _ _ _ c.self.invariant c.self.view_is in
    omega (arith, k.many, k.free, c.in_ok-resize.ensures.len)

pub empty-requires-clause-within : goal.empty-requires-clause-within
empty-requires-clause-within c =
    let k = counted _ _ _ _ c.self.invariant c.self.view_is in
    omega (arith, k.many, k.free, c.in_ok-resize.ensures.len, c.copy_within.ensures.len)

pub invariant_of-self-2 : goal.invariant_of-self-2
invariant_of-self-2 c =
    let pushed = rw c.unwrap.ensures at c.push.ensures.items in
    let caller : Extent =
    record c.self.inside.running { top = c.self.inside.running.top - c.args.arguments } in
    let one_more = apart _ _ _ pushed
    ∙ ap (λ (es : List Extent). caller ∷ reverse es) c.in_ok-reserve.ensures.items in
    let given =
    subst (λ (frames : List Frame). c.args.arguments ≤ length (running frames).operands)
    (sym c.self.view_is) c.requires.given in
    laid _ _ _ _ _ (
    entered_lie _ _ _ c.self.invariant c.args.point c.args.locals c.args.room
    c.args.arguments _ _ _ _ _
    c.self.inside.places.ok.0 given c.requires.placed c.in_ok-resize.ensures.items
    c.copy_within.ensures.items c.empty.ensures one_more)

pub returns-clause-called : goal.returns-clause-called
returns-clause-called c =
    let pushed = rw c.unwrap.ensures at c.push.ensures.items in
    let caller : Extent =
    record c.self.inside.running { top = c.self.inside.running.top - c.args.arguments } in
    let one_more = apart _ _ _ pushed
    ∙ ap (λ (es : List Extent). caller ∷ reverse es) c.in_ok-reserve.ensures.items in
    let given =
    subst (λ (frames : List Frame). c.args.arguments ≤ length (running frames).operands)
    (sym c.self.view_is) c.requires.given in
    seen _ _ _ _ _ (
    entered_lie _ _ _ c.self.invariant c.args.point c.args.locals c.args.room
    c.args.arguments _ _ _ _ _
    c.self.inside.places.ok.0 given c.requires.placed c.in_ok-resize.ensures.items
    c.copy_within.ensures.items c.empty.ensures one_more)
    ∙ ap (λ (frames : List Frame).
    entered c.args.point (last_operands c.args.arguments (running frames)) c.args.locals c.args.room
    ∷ with_running (popped c.args.arguments) frames) c.self.view_is
