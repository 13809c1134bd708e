use Rattle.std.proofs.Common.{◌++◌, ◌∙◌, List, refl, ap}
use Rattle.par_kinds.specs.declared.frame.VKind.{VKind}
use Rattle.par_place_kinds.specs.Numbered.{numbered}
use Rattle.par_place_kinds.proofs.Numbered.{begun_told, begun_below}
use Rattle.par_place_kinds.proofs.few.Telling.add.Goals as goal

pub invariant_of-self : goal.invariant_of-self
invariant_of-self c = rw c.in_err-extend_from_slice.ensures.items c.self.invariant

pub invariant_of-self-2 : goal.invariant_of-self-2
invariant_of-self-2 c =
    let begun = rw (c.deref.ensures, c.deref-2.ensures) at c.if-not-begins_with.ensures refl in
    let slice = rw c.deref-3.ensures at c.as_slice.ensures.value in
    rw (c.in_ok-extend_from_slice.ensures.items, slice) (begun_below
    c.self.inside.different.value c.few.inside.different.value begun
    c.self.inside.numbers.items c.few.inside.numbers.value.items c.self.invariant
    c.few.invariant)

pub returns : goal.returns
returns c =
    let begun = rw (c.deref.ensures, c.deref-2.ensures) at c.if-not-begins_with.ensures refl in
    let slice = rw c.deref-3.ensures at c.as_slice.ensures.value in
    let its : List VKind = numbered c.few.inside.different.value c.few.inside.numbers.value.items in
    λ done. rw (c.in_ok-extend_from_slice.ensures.items, slice) (begun_told
    c.self.inside.different.value c.few.inside.different.value begun
    c.self.inside.numbers.items c.few.inside.numbers.value.items c.few.invariant
    ∙ ap (λ (ks : List VKind). ks ++ its) c.self.view_is
    ∙ ap (λ (ks : List VKind). c.args.self.now ++ ks) c.few.view_is)
