use Rattle.std.proofs.Common.{◌≡◌, ap, ◌∙◌, rules, None}
use Rattle.par_names.specs.Earliest.{is_below, place_of}
use Rattle.par_names.proofs.Least.{nothing_below}
use Rattle.par_names.proofs.doubles.Earliest.of.Goals as goal

pub loop-id-init : goal.loop-id-init
loop-id-init c = λ name at.
    let none : place_of (record { places = c.new.result }) name ≡ None = search rules in
    ap (λ o. is_below o at) none ∙ nothing_below at
