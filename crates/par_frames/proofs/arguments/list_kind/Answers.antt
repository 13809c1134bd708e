use Rattle.std.proofs.Common.{inl, inr, refl}
use Rattle.par_frames.proofs.Listed.{found, not_found}
use Rattle.par_frames.proofs.arguments.list_kind.Goals as goal

pub returns-in-Some : goal.returns-in-Some
returns-in-Some c = λ pool zip.
    inl (found pool _ _ _ c.in-Some.place _ c.in-Some.ensures c.type_at.ensures zip)

pub returns-in-None : goal.returns-in-None
returns-in-None c = λ pool zip. inr (refl, not_found _ _ c.in-None.ensures)
