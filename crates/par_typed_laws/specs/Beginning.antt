-- Where the program of a table begins.
use Rattle.std.specs.Prelude.{◌≡◌, true, List, [], ◌∷◌, filter, flat_map, slice_get, codes}
use Rattle.std.specs.Str.{bytes_eq}
use Rattle.par_program_laws.specs.par_typed.declared.ty.Ty.TheVariants as ty
use Rattle.par_program_laws.specs.par_typed.declared.table.MethodInfo.{MethodInfo}
use Rattle.par_program_laws.specs.par_typed.declared.table.Table.{Table}
use Rattle.par_program_laws.specs.par_typed.Members.{methods_in}

-- those of the methods that are named `main`
abbrev pub mains : List MethodInfo → List MethodInfo
mains ms = filter (λ m. bytes_eq m.name (codes "main")) ms

-- the method is the only one that is named `main`, in the class that the table tells and in the
-- whole table; it is static, gives no result, has no parameters and expects no lock
pub record IsMainOf (table : Table) (m : MethodInfo) : Type 0 where
  pub only : mains (flat_map (λ c. c.methods) table.classes) ≡ m ∷ []
  pub in_class : mains (methods_in (slice_get table.classes table.main)) ≡ m ∷ []
  pub is_static : m.is_static ≡ true
  pub result : m.result ≡ ty.Void
  pub params : m.params ≡ []
  pub expects : m.expects ≡ []

abbrev pub HasMain : Table → Type 0
HasMain table = (m : MethodInfo) × IsMainOf table m
