use Rattle.std.proofs.Common.{Some, ap, sym, ◌∙◌}
use Rattle.par_pool.specs.declared.constant.Constant.{Constant}
use Rattle.par_given_frames.proofs.kinds.kind_of.Goals as goal

pub class_kind-requires : goal.class_kind-requires
class_kind-requires c = λ none.
    let named = c.text_at.ensures in
    rw named
    (c.requires c.in-Class.index c.in-Some-Class.name
    (sym c.in-Some-Class.ensures ∙ ap (λ (e : Constant). Some e) c.in-Some-Class.field-0-is)
    (rw named at none))
