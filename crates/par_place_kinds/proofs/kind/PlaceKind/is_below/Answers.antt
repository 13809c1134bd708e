use Rattle.std.proofs.Common.{sym, ap, ◌∙◌}
use Rattle.par_kinds.specs.declared.frame.VKind.TheVariants.{Base}
use Rattle.par_kinds.specs.Kinds.{into}
use Rattle.par_place_kinds.specs.Marks.{names, kind_of}
use Rattle.par_place_kinds.proofs.Into.{into-exception, into-any}
use Rattle.par_place_kinds.proofs.kind.PlaceKind.is_below.Goals as goal

pub returns-then-is_exception : goal.returns-then-is_exception
returns-then-is_exception c =
    let exc = names c.args.exceptions.now in
    let k = kind_of c.args.self in
    c.is_throwable.ensures ∙ sym (into-exception exc k)
    ∙ ap (λ b. into exc k (Base b)) (sym c.if-is_exception.true)

pub returns-else-is_exception : goal.returns-else-is_exception
returns-else-is_exception c =
    let exc = names c.args.exceptions.now in
    let k = kind_of c.args.self in
    c.is_reference.ensures ∙ sym (into-any exc k)
    ∙ ap (λ b. into exc k (Base b)) (sym c.if-is_exception.false)
