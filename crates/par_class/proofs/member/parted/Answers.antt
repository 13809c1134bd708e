use Rattle.std.proofs.Common.{◌∙◌, ◌∷◌, ◌++◌, [], List, ap, sym, refl}
use Rattle.par_class.specs.declared.file.Attribute.{Attribute}
use Rattle.par_class.specs.Layout.{code_in, others_in}
use Rattle.par_class.proofs.Pieces.{code_in-plain, code_in-code, others_in-plain, others_in-code}
use Rattle.par_class.proofs.member.parted.Goals as goal

pub loop-piece-init : goal.loop-piece-init
unfolding code_in others_in
loop-piece-init c = (refl, c.new-attributes.ensures)

pub loop-piece-preserved-in-Continue-1 : goal.loop-piece-preserved-in-Continue-1
loop-piece-preserved-in-Continue-1 c =
    rw c.in-Plain.is (
      c.loop-piece.invariant.0 ∙ sym (code_in-plain c.loop-piece.yielded c.in-Plain.attribute),
      c.in_ok-push-in-Plain.ensures.ok
          ∙ ap (λ (rest : List Attribute). rest ++ c.in-Plain.attribute ∷ [])
          c.loop-piece.invariant.1 ∙ sym
          (others_in-plain c.loop-piece.yielded c.in-Plain.attribute),
    )

pub loop-piece-preserved : goal.loop-piece-preserved
loop-piece-preserved c =
    rw c.in-Code.is (
      sym (code_in-code c.loop-piece.yielded c.in-Code.field-0 c.in-Code.found),
      c.loop-piece.invariant.1 ∙ sym
          (others_in-code c.loop-piece.yielded c.in-Code.field-0 c.in-Code.found),
    )
