use Rattle.std.proofs.Common.{ℕ, ◌+◌, ◌-◌, ◌≤◌, List, length, ap, ◌∙◌, sym, subst, arith}
use Rattle.par_stack.specs.Frames.{Frame, running, with_running, pushed, popped}
use Rattle.par_stack.proofs.Rows.{length-emptied}
use Rattle.par_stack.proofs.Laid.{counted, seen, laid}
use Rattle.par_stack.proofs.Changes.{replaced_lie}
use Rattle.par_stack.proofs.stack.Stack.replace.Goals as goal

pub overflow_sub-place : goal.overflow_sub-place
overflow_sub-place c =
    let k = counted _ _ _ _ c.self.invariant c.self.view_is in
    omega (arith, k.count, c.requires.there)

pub empty-requires : goal.empty-requires
empty-requires c =
    let k = counted _ _ _ _ c.self.invariant c.self.view_is in
    record {
      ordered = omega (arith, k.count, c.requires.some, c.requires.there);
      within = omega (arith, k.many, k.free);
    }

pub index_mut-requires : goal.index_mut-requires
index_mut-requires c =
    let k = counted _ _ _ _ c.self.invariant c.self.view_is in
    let top : ℕ = c.self.inside.running.top in
    let many = ap length c.empty.ensures
    ∙ length-emptied c.self.inside.places.items (top - c.args.many + 1) top
    (omega (arith, k.count, c.requires.some, c.requires.there)) (omega (arith, k.many, k.free)) in
    omega (arith, k.many, k.free, k.count, c.requires.some, c.requires.there, many)

pub invariant_of-self : goal.invariant_of-self
invariant_of-self c =
    let there =
    subst (λ (frames : List Frame). c.args.many ≤ length (running frames).operands)
    (sym c.self.view_is) c.requires.there in
    laid _ _ _ _ _ (
    replaced_lie _ _ _ c.self.invariant c.args.many c.args.value _ c.empty.ensures
    c.requires.some there)

pub returns : goal.returns
returns c =
    let there =
    subst (λ (frames : List Frame). c.args.many ≤ length (running frames).operands)
    (sym c.self.view_is) c.requires.there in
    seen _ _ _ _ _ (
    replaced_lie _ _ _ c.self.invariant c.args.many c.args.value _ c.empty.ensures
    c.requires.some there)
    ∙ ap (λ (frames : List Frame).
    with_running (λ f. pushed c.args.value (popped c.args.many f)) frames) c.self.view_is
