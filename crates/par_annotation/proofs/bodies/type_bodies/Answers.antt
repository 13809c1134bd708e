use Rattle.par_annotation.proofs.BodyForms.{small_as_read}
use Rattle.par_annotation.proofs.bodies.type_bodies.Goals as goal

pub type_all-requires : goal.type_all-requires
type_all-requires c =
    small_as_read _ _ _ _ c.in_ok-names.ensures c.as_slice.ensures c.requires.small
