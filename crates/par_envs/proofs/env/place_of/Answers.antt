use Rattle.std.proofs.Common.{sym, ◌∙◌, arith}
use Rattle.std.proofs.lemmas.Bool.{eqb-true}
use Rattle.par_envs.proofs.Told.{stands}
use Rattle.par_envs.proofs.env.place_of.Goals as goal

pub returns-then-is_same : goal.returns-then-is_same
returns-then-is_same c =
    stands c.args.held.now c.loop-place.place _ c.index-held-place.result (omega arith)
    c.index-held-place.is (eqb-true _ _ (sym c.is_same.ensures ∙ c.if-is_same.true))
