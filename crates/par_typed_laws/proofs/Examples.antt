-- Worked bodies, over a table of one class with a static method.
use Rattle.std.proofs.Common.{◌≡◌, ℕ, ◌<◌, pos, Bool, true, false, [], ◌∷◌, None, refl, arith}
use Rattle.std.specs.Prelude.{codes}
use Rattle.par_program_laws.specs.par_typed.declared.ty.Ty.{Ty}
use Rattle.par_program_laws.specs.par_typed.declared.ty.Ty.TheVariants as ty
use Rattle.par_program_laws.specs.par_typed.declared.table.FieldInfo.{FieldInfo}
use Rattle.par_program_laws.specs.par_typed.declared.table.MethodInfo.{MethodInfo}
use Rattle.par_program_laws.specs.par_typed.declared.table.ClassInfo.{ClassInfo}
use Rattle.par_program_laws.specs.par_typed.declared.table.Table.{Table}
use Rattle.par_program_laws.specs.par_typed.Plain.{Mark, mark, Int, Boolean, Null, Local, TSta}
use Rattle.par_program_laws.specs.par_typed.Plain.{Block}
use Rattle.par_program_laws.specs.par_typed.Plain.{Break}
use Rattle.par_program_laws.specs.par_typed.Plain.{SetLocal, SetStatic, Then, End}
use Rattle.par_typed_laws.specs.Orderly.{IsBodyOf}
use Rattle.par_program_laws.specs.BodyNames.{ExpNames, StaNames}
use Rattle.par_typed_laws.specs.Fits.{ExpFits, StaFits}
use Rattle.par_typed_laws.specs.Control.{StaReached}
use Rattle.par_program_laws.specs.par_typed.Nodes.{nodes, stmt_nodes}
use Rattle.par_type_rules.specs.Points.{count_from, points, stmt_points}
use Rattle.par_program_laws.specs.Locals.{behind}
use Rattle.par_typed_laws.specs.SetFirst.{SetsFirst}
use Rattle.par_typed_laws.specs.Numbers.{ExpReads, StaInRange}

-- `static int got;`
got : FieldInfo
got = record { name = codes "got"; is_static = true; ty = ty.Int; policy = 0; inferred = false }

-- `static void main()`, with a local `int x`
main : MethodInfo
main = record {
  name = codes "main";
  at = 0;
  nodes = 5;
  is_static = true;
  result = ty.Void;
  policy = 0;
  params = [];
  locals = ty.Int ∷ [];
  effect = 0;
  expects = [];
  opens = [];
  closes = [];
  throws = [];
}

shop : ClassInfo
shop = record {
  name = codes "Shop";
  at = 0;
  exception = false;
  birth = 0;
  fields = got ∷ [];
  channels = [];
  methods = main ∷ [];
}

table : Table
table = record { actors = []; locks = []; policies = [] ∷ []; classes = shop ∷ []; main = 0 }

number : ℕ → Mark
number point = record { at = 0; point = point; ty = ty.Int; sure = false }

-- `{ int x = 1; got = x; }`, where `got` is the field of the class of this number
body : ℕ → TSta
body class =
    Block (Then (SetLocal 0 None (Int (pos 1) (number 2)) 0 1)
    (Then (SetStatic class 0 (Local 0 (number 4)) 0 3) End)) 0 0

-- the body of `main`
right : IsBodyOf table (record { class = 0; method = 0; body = body 0 }) main
unfolding table body shop main number StaInRange ExpReads SetsFirst behind stmt_points points
    stmt_nodes nodes count_from
right = record {
  method = refl;
  points = refl;
  numbers = ((omega arith, tt, tt), (omega arith, tt));
  set_first = (tt, (refl, tt));
}

-- it names a static field of `Shop`
named : StaNames table (body 0)
unfolding table body shop got number StaNames ExpNames
named = (tt, ((refl, tt), tt))

-- no class has the number 7
no_class : StaNames table (body 7) → ⊥
unfolding table body shop got number StaNames ExpNames
no_class h = h.1.0.0

-- its values fit
fits : StaFits table 0 (ty.Int ∷ []) (false ∷ []) ty.Void (body 0)
unfolding table body shop got number StaFits ExpFits mark
fits = (((refl, tt), (refl, refl)), (((refl, tt), (refl, refl)), tt))

-- `got = true;`, and null for a local that is never null

abbrev of : Ty → Mark
of t = record { at = 0; point = 1; ty = t; sure = false }

no_boolean : StaFits table 0 [] [] ty.Void (SetStatic 0 0 (Boolean true (of ty.Boolean)) 0 0) → ⊥
unfolding table shop got StaFits mark
no_boolean h = let same : ◌≡◌ {A = Ty} ty.Boolean ty.Int = h.0.0 in cc same

no_null : StaFits table 0 (ty.Class 0 ∷ []) (true ∷ []) ty.Void
    (SetLocal 0 None (Null (of ty.Null)) 0 0)
    → ⊥
unfolding StaFits mark
no_null h = let same : ◌≡◌ {A = Bool} false true = h.0.1 in cc same

-- a break that stands in no loop
no_loop : StaReached false (Break 0 0) → ⊥
unfolding StaReached
no_loop h = cc h

-- a local that the method does not have is refused
no_local : StaInRange table 0 (body 0) → ⊥
unfolding table body shop number StaInRange ExpReads
no_local h = let none : 0 < 0 = h.0.0 in omega arith

-- `{ got = x; int x = 1; }` reads a local that is not set
unset : SetsFirst [] (Block (Then (SetStatic 0 0 (Local 0 (number 2)) 0 1)
    (Then (SetLocal 0 None (Int (pos 1) (number 4)) 0 3) End)) 0 0)
    → ⊥
unfolding number SetsFirst behind ExpReads
unset h = cc h.0
