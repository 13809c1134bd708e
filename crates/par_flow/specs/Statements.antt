-- The points of statements.
use Rattle.std.specs.Prelude.{ℕ, List, [], ◌∷◌, ◌++◌}
use Rattle.par_typed.specs.Plain as plain
use Rattle.par_typed.specs.Plain.{TSta, MayTSta, TStas, TCatches}

unfoldable mutual
  -- that of a statement, and those of the statements in it
  pub points : TSta → List ℕ
  points (plain.Block ss at p) = p ∷ points_of_all ss
  points (plain.If e s o at p) = p ∷ (points s ++ other_points o)
  points (plain.While e s at p) = p ∷ points s
  points (plain.Try s cs at p) = p ∷ (points s ++ catch_points cs)
  points (plain.Return e at p) = p ∷ []
  points (plain.Break at p) = p ∷ []
  points (plain.Continue at p) = p ∷ []
  points (plain.Throw class at p) = p ∷ []
  points (plain.Open lock at p) = p ∷ []
  points (plain.Close lock at p) = p ∷ []
  points (plain.SetLocal x policy e at p) = p ∷ []
  points (plain.SetStatic c f e at p) = p ∷ []
  points (plain.SetField o c f e at p) = p ∷ []
  points (plain.Eval e at p) = p ∷ []
  points (plain.When lock s o at p) = p ∷ (points s ++ other_points o)

  pub other_points : MayTSta → List ℕ
  other_points plain.NoElse = []
  other_points (plain.Otherwise s) = points s

  pub points_of_all : TStas → List ℕ
  points_of_all plain.End = []
  points_of_all (plain.Then s ss) = points s ++ points_of_all ss

  pub catch_points : TCatches → List ℕ
  catch_points plain.NoCatch = []
  catch_points (plain.Catch class s cs) = points s ++ catch_points cs
