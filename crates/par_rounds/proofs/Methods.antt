-- The method of a body in its table.
use Rattle.std.proofs.Common.{◌≡◌, Some, sym, subst, ◌∙◌, length}
use Rattle.par_typed.specs.declared.table.Table.{Table}
use Rattle.par_typed.specs.declared.table.MethodInfo.{MethodInfo}
use Rattle.par_typed.specs.Members.{method_at}
use Rattle.par_typed.specs.Plain.{Body}
use Rattle.par_program_laws.specs.Declares.{declares}
use Rattle.par_program_laws.specs.Ranges.{IsOrderly}
use Rattle.par_program_laws.specs.Orderly.{IsOrderlyBody}

-- the body is orderly over its locals
pub orderly : (table : Table) (b : Body) (m : MethodInfo)
    → method_at table b.class b.method ≡ Some m
    → IsOrderlyBody table b → IsOrderly (declares table) (length m.locals) b
orderly table b m is h =
    let found : Some h.0 ≡ Some m = sym h.1.method ∙ is in
    let same : h.0 ≡ m = cc in
    subst (λ (x : MethodInfo). IsOrderly (declares table) (length x.locals) b) same h.1.orderly
