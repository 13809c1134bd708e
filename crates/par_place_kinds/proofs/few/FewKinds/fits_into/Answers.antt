use Rattle.std.proofs.Common.{◌≡◌, ◌∙◌, sym}
use Rattle.std.specs.Cmp.Lexicographic.{same_text}
use Rattle.par_place_kinds.specs.Marks.{names}
use Rattle.par_place_kinds.proofs.Numbered.{few_fit}
use Rattle.par_place_kinds.proofs.few.FewKinds.fits_into.Goals as goal

pub returns-then-eq : goal.returns-then-eq
returns-then-eq c =
    let one = c.self.inside in
    let other = c.other.inside in
    let first = rw c.deref.ensures at c.as_slice-numbers.ensures.value in
    let second = rw c.deref-2.ensures at c.as_slice-others.ensures.value in
    let same : one.numbers.value.items ≡ other.numbers.value.items =
    sym first ∙ same_text _ _ (sym c.if-eq.true ∙ c.eq.ensures) ∙ second in
    let all = rw (c.deref-then-eq.ensures, c.deref-then-eq-2.ensures) at c.fits_into.ensures in
    λ fit. few_fit (names c.args.exceptions.now) one.different.value other.different.value
    one.numbers.value.items other.numbers.value.items c.args.self.now c.args.other.now
    c.self.view_is c.other.view_is same (sym all ∙ fit)
