-- The points of each form of statement.
use Rattle.std.proofs.Common.{◌≡◌, ℕ, Option, [], ◌∷◌, ◌++◌, refl, append_assoc}
use Rattle.std.proofs.lemmas.List.{append-nil}
use Rattle.par_typed.specs.Plain as typed
use Rattle.par_typed.specs.Plain.{TExp, MayTExp, TSta, MayTSta, TStas, TCatches}
use Rattle.par_typed.proofs.Shown.{doings}
use Rattle.par_flow.specs.Statements.{points, other_points, points_of_all, catch_points}

pub of_block : (ss : TStas) (at p : ℕ) → points (typed.Block ss at p) ≡ p ∷ points_of_all ss
unfolding points
of_block ss at p = refl

pub of_if : (e : TExp) (s : TSta) (o : MayTSta) (at p : ℕ)
    → points (typed.If e s o at p) ≡ p ∷ (points s ++ other_points o)
unfolding points
of_if e s o at p = refl

pub of_while : (e : TExp) (s : TSta) (at p : ℕ) → points (typed.While e s at p) ≡ p ∷ points s
unfolding points
of_while e s at p = refl

pub of_try : (s : TSta) (cs : TCatches) (at p : ℕ)
    → points (typed.Try s cs at p) ≡ p ∷ (points s ++ catch_points cs)
unfolding points
of_try s cs at p = refl

pub of_return : (e : MayTExp) (at p : ℕ) → points (typed.Return e at p) ≡ p ∷ []
unfolding points
of_return e at p = refl

pub of_break : (at p : ℕ) → points (typed.Break at p) ≡ p ∷ []
unfolding points
of_break at p = refl

pub of_continue : (at p : ℕ) → points (typed.Continue at p) ≡ p ∷ []
unfolding points
of_continue at p = refl

pub of_throw : (class : ℕ) (at p : ℕ) → points (typed.Throw class at p) ≡ p ∷ []
unfolding points
of_throw class at p = refl

pub of_open : (lock : ℕ) (at p : ℕ) → points (typed.Open lock at p) ≡ p ∷ []
unfolding points
of_open lock at p = refl

pub of_close : (lock : ℕ) (at p : ℕ) → points (typed.Close lock at p) ≡ p ∷ []
unfolding points
of_close lock at p = refl

pub of_set_local : (x : ℕ) (q : Option ℕ) (e : TExp) (at p : ℕ)
    → points (typed.SetLocal x q e at p) ≡ p ∷ []
unfolding points
of_set_local x q e at p = refl

pub of_set_static : (c f : ℕ) (e : TExp) (at p : ℕ) → points (typed.SetStatic c f e at p) ≡ p ∷ []
unfolding points
of_set_static c f e at p = refl

pub of_set_field : (o : TExp) (c f : ℕ) (e : TExp) (at p : ℕ)
    → points (typed.SetField o c f e at p) ≡ p ∷ []
unfolding points
of_set_field o c f e at p = refl

pub of_eval : (e : TExp) (at p : ℕ) → points (typed.Eval e at p) ≡ p ∷ []
unfolding points
of_eval e at p = refl

pub of_when : (lock : ℕ) (s : TSta) (o : MayTSta) (at p : ℕ)
    → points (typed.When lock s o at p) ≡ p ∷ (points s ++ other_points o)
unfolding points
of_when lock s o at p = refl

pub of_no_else : other_points typed.NoElse ≡ []
unfolding points
of_no_else = refl

pub of_else : (s : TSta) → other_points (typed.Otherwise s) ≡ points s
unfolding points
of_else s = refl

pub of_end : points_of_all typed.End ≡ []
unfolding points
of_end = refl

pub of_then : (s : TSta) (ss : TStas)
    → points_of_all (typed.Then s ss) ≡ points s ++ points_of_all ss
unfolding points
of_then s ss = refl

pub of_no_catch : catch_points typed.NoCatch ≡ []
unfolding points
of_no_catch = refl

pub of_catch : (class : ℕ) (s : TSta) (cs : TCatches)
    → catch_points (typed.Catch class s cs) ≡ points s ++ catch_points cs
unfolding points
of_catch class s cs = refl

pub ruleset statements = (
  of_block,
  of_if,
  of_while,
  of_try,
  of_return,
  of_break,
  of_continue,
  of_throw,
  of_open,
  of_close,
  of_set_local,
  of_set_static,
  of_set_field,
  of_eval,
  of_when,
  of_no_else,
  of_else,
  of_end,
  of_then,
  of_no_catch,
  of_catch,
  doings,
  append_assoc,
  append-nil,
)
