use Rattle.std.proofs.Common.{sym}
use Rattle.std.proofs.lemmas.Bool.{ltb-true}
use Rattle.par_frames.proofs.Listed.{known}
use Rattle.par_frames.proofs.pool_classes.type_before.Goals as goal

pub returns-in-Some-clause-stands : goal.returns-in-Some-clause-stands
returns-in-Some-clause-stands c = λ pool zip.
    known pool _ c.in_ok-other.other.now c.args.earlier.now _ c.args.place _ c.in-Some.t.now _
    (ltb-true _ _ (sym c.in_ok-other.ensures.lookup.0)) c.in_ok-other.ensures.lookup.1
    c.is_same_kind.ensures c.if-not-is_same_kind.false c.in-Some.ensures.lookup.1
    c.copied.ensures zip
