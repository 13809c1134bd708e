-- What a reader of an expression gives, and what a maker makes.
use Rattle.std.specs.Prelude.{◌≡◌, List, [], ◌∷◌, Result, Ok, Err}
use Rattle.par_reader.specs.declared.error.ParseError.{ParseError}
use Rattle.par_reader.specs.declared.error.ParseError.TheVariants.{Memory}
use Rattle.par_tree.specs.declared.expr.Expr.{Expr}
use Rattle.par_tree.specs.Plain.{Exp}
use Rattle.par_tree.specs.Shown.{shown, all_shown}
use Rattle.par_tree.specs.Values.{Values, exp, exps}

-- the value of an expression that is read, and of several
abbrev pub tree : Expr → Values
tree e = exp (shown e) ∷ []

abbrev pub trees : List Expr → Values
trees es = exps (all_shown es) ∷ []

-- The expression that is made is this one, unless memory runs out.
abbrev pub Makes : Exp → Result Expr ParseError → Type 0
Makes x (Ok e) = shown e ≡ x
Makes x (Err error) = error ≡ Memory
