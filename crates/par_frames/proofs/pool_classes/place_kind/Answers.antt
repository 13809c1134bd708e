use Rattle.par_frames.proofs.Classes.{whole_text}
use Rattle.par_frames.proofs.pool_classes.place_kind.Goals as goal

pub place_class-requires-clause-text : goal.place_class-requires-clause-text
place_class-requires-clause-text c =
    whole_text _ _ _ c.whole_name.ensures c.bytes.ensures.bytes c.bytes.ensures.spelled
