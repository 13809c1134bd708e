-- The locals of a method: those that its call sets, and those that its statements set.
use Rattle.std.specs.Prelude.{◌≡◌, ℕ, suc, cond, Bool, true, List, [], ◌∷◌, ◌++◌, map, length}
use Rattle.std.specs.Prelude.{IsTrue}
use Rattle.std.specs.List.{range_with_len}
use Rattle.par_completes.specs.par_policy.Numbers.{has}
use Rattle.par_completes.specs.par_typed.declared.ty.Ty.{Ty}
use Rattle.par_completes.specs.par_typed.declared.ty.Ty.TheVariants as ty
use Rattle.par_completes.specs.par_typed.declared.table.MethodInfo.{MethodInfo}
use Rattle.par_completes.specs.par_typed.Plain.{TSta, Block, If, While, Try, Return, Break}
use Rattle.par_completes.specs.par_typed.Plain.{Continue, Throw, Open}
use Rattle.par_completes.specs.par_typed.Plain.{Close, SetLocal, SetStatic, SetField, Eval, When}

-- ---- from the call: `this` in an instance method, and the parameters

-- how many there are
abbrev pub arrivals : MethodInfo → ℕ
arrivals m = cond m.is_static (length m.params) (suc (length m.params))

abbrev pub set_by_call : MethodInfo → List ℕ
set_by_call m = range_with_len 0 (arrivals m)

-- their types, in a class, and which are never null

abbrev pub arriving : ℕ → MethodInfo → List Ty
arriving class m = cond m.is_static [] (ty.Class class ∷ []) ++ map (λ p. p.ty) m.params

abbrev pub arriving_sure : MethodInfo → List Bool
arriving_sure m = cond m.is_static [] (true ∷ []) ++ map (λ p. p.notnull) m.params

abbrev pub BeginsWith : {A : Type 0} → List A → List A → Type 0
BeginsWith {A} front xs = (rest : List A) × (xs ≡ front ++ rest)

-- ---- by statements: what a block sets is not read behind it

-- it is one of those that are set
abbrev pub IsSet : List ℕ → ℕ → Type 0
IsSet set x = IsTrue (has set x)

-- those that are set behind a statement
unfoldable pub behind : List ℕ → TSta → List ℕ
behind set (Block ss at p) = set
behind set (If e s o at p) = set
behind set (While e s at p) = set
behind set (Try s cs at p) = set
behind set (Return e at p) = set
behind set (Break at p) = set
behind set (Continue at p) = set
behind set (Throw class at p) = set
behind set (Open lock at p) = set
behind set (Close lock at p) = set
behind set (SetLocal x policy e at p) = x ∷ set
behind set (SetStatic c f e at p) = set
behind set (SetField o c f e at p) = set
behind set (Eval e at p) = set
behind set (When lock s o at p) = set
