-- What operators mean is what their code does.
use Rattle.std.proofs.Common.{◌≡◌, ℕ, ◌+◌, Bool, true, false, not, refl}
use Rattle.std.specs.Prelude.{ℤ, pos}
use Rattle.par_match_laws.specs.par_completes.par_lexer.declared.operator.BinOp.{BinOp}
use Rattle.par_match_laws.specs.par_completes.par_lexer.declared.operator.BinOp.TheVariants as bin
use Rattle.par_run_laws.specs.par_values.declared.link.Link.TheVariants as link
use Rattle.par_run_laws.specs.par_values.declared.value.MVal.{MVal}
use Rattle.par_run_laws.specs.par_values.declared.value.MVal.TheVariants as value
use Rattle.par_run_laws.specs.par_values.Areas.{number_of}
use Rattle.par_run_laws.specs.par_values.Arithmetic.{divides_by_zero, compares}
use Rattle.par_run_laws.specs.par_values.Operations.{operation, Combine, JumpIf, JumpIfBoth}
use Rattle.par_run_laws.specs.par_values.Operations.{JumpIfSame}
use Rattle.par_run_laws.specs.par_values.Effects.{comes}
use Rattle.par_run_laws.specs.Values.{decides, throws, applied, calculated, truth, same}
use Rattle.par_match_laws.specs.Labelled.{branch}
use Rattle.par_match_laws.specs.par_code_form.Code.{Shape, Calculates, Compares, Sames, Decides}
use Rattle.par_match_laws.specs.par_code_form.Code.{shape}
use Rattle.par_match_laws.specs.par_code_form.Code.{same_opcode}

abbrev pub Means : BinOp → Shape → Type 0
Means op (Calculates o i) =
    ((u : MVal) → decides op u ≡ false) × ((v : MVal)
    → throws op v ≡ divides_by_zero o (number_of v))
    × ((u v : MVal) → applied op u v ≡ calculated o u v) × (operation (λ n. link.Other) i ≡ Combine
    o)
Means op (Compares t) =
    ((u : MVal) → decides op u ≡ false) × ((v : MVal) → throws op v ≡ false)
    × ((x y : ℤ) → applied op (value.Int x) (value.Int y) ≡ truth (compares t x y))
    × ((to : ℤ) → branch (159 + t) to ≡ JumpIfBoth t to)
Means op (Sames b) =
    ((u : MVal) → decides op u ≡ false) × ((v : MVal) → throws op v ≡ false)
    × ((u v : MVal) → applied op u v ≡ truth (comes b (same u v)))
    × ((to : ℤ) → branch (same_opcode b) to ≡ JumpIfSame b to)
Means op (Decides o) =
    (t : ℕ) × ((u : MVal) → decides op u ≡ compares t (number_of u) (pos 0)) × ((v : MVal)
    → throws op v ≡ false)
    × ((u v : MVal) → applied op u v ≡ v) × ((to : ℤ) → branch o to ≡ JumpIf t to)

pub not_not : (b : Bool) → not (not b) ≡ b
not_not true = refl
not_not false = refl

pub means : (op : BinOp) (numbers : Bool) → Means op (shape op numbers)
means bin.Or b = (1, λ u. refl, λ v. refl, λ u v. refl, λ to. refl)
means bin.And b = (0, λ u. not_not _, λ v. refl, λ u v. refl, λ to. refl)
means bin.BitOr b = (λ u. refl, λ v. refl, λ u v. refl, refl)
means bin.BitXor b = (λ u. refl, λ v. refl, λ u v. refl, refl)
means bin.BitAnd b = (λ u. refl, λ v. refl, λ u v. refl, refl)
means bin.Eq true = (λ u. refl, λ v. refl, λ x y. refl, λ to. refl)
means bin.Eq false = (λ u. refl, λ v. refl, λ u v. refl, λ to. refl)
means bin.Ne true = (λ u. refl, λ v. refl, λ x y. refl, λ to. refl)
means bin.Ne false = (λ u. refl, λ v. refl, λ u v. refl, λ to. refl)
means bin.Lt b = (λ u. refl, λ v. refl, λ x y. refl, λ to. refl)
means bin.Le b = (λ u. refl, λ v. refl, λ x y. refl, λ to. refl)
means bin.Gt b = (λ u. refl, λ v. refl, λ x y. refl, λ to. refl)
means bin.Ge b = (λ u. refl, λ v. refl, λ x y. refl, λ to. refl)
means bin.Shl b = (λ u. refl, λ v. refl, λ u v. refl, refl)
means bin.Shr b = (λ u. refl, λ v. refl, λ u v. refl, refl)
means bin.Ushr b = (λ u. refl, λ v. refl, λ u v. refl, refl)
means bin.Add b = (λ u. refl, λ v. refl, λ u v. refl, refl)
means bin.Sub b = (λ u. refl, λ v. refl, λ u v. refl, refl)
means bin.Mul b = (λ u. refl, λ v. refl, λ u v. refl, refl)
means bin.Div b = (λ u. refl, λ v. refl, λ u v. refl, refl)
means bin.Rem b = (λ u. refl, λ v. refl, λ u v. refl, refl)
