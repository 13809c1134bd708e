-- Bodies whose points and numbers are right are orderly.
use Rattle.std.proofs.Common.{◌≡◌, ℕ, suc, ◌≤◌, Bool, List, [], ◌∷◌, length, Option, Some, None}
use Rattle.std.proofs.Common.{refl, sym, ap, subst, cond}
use Rattle.std.specs.Prelude.{slice_get}
use Rattle.par_program_laws.specs.par_typed.declared.table.ParamInfo.{ParamInfo}
use Rattle.par_program_laws.specs.par_typed.declared.table.MethodInfo.{MethodInfo}
use Rattle.par_program_laws.specs.par_typed.declared.table.ClassInfo.{ClassInfo}
use Rattle.par_program_laws.specs.par_typed.declared.table.Table.{Table}
use Rattle.par_program_laws.specs.par_typed.Plain.{Body}
use Rattle.par_program_laws.specs.Declares.{declares, method_of, params_of}
use Rattle.par_program_laws.specs.Ranges as rules
use Rattle.par_program_laws.specs.Ranges.{IsOrderly}
use Rattle.par_typed_laws.specs.Tables.{IsInRange, ClassInRange, MethodInRange}
use Rattle.par_program_laws.specs.par_typed.Members.{methods_in, method_at}
use Rattle.par_typed_laws.specs.Orderly.{IsBodyOf, HasMethod}
use Rattle.par_program_laws.specs.Orderly.{IsOrderlyBody}
use Rattle.par_program_laws.proofs.Methods.{method_known}
use Rattle.par_typed_laws.proofs.Numbered.{numbered}
use Rattle.par_typed_laws.proofs.Ranges.{MayBe, at_place, MethodWithin, declared_within, sta_within}

length-params_of : (ps : List ParamInfo) → length (params_of ps) ≡ length ps
length-params_of [] = refl
length-params_of (p ∷ ps) = ap suc (length-params_of ps)

class_has : (table : Table) (o : Option ClassInfo) (k : ℕ) (m : MethodInfo)
    → MayBe (ClassInRange table) o → slice_get (methods_in o) k ≡ Some m → MethodInRange table m
class_has table None k m h is = absurd (cc is)
class_has table (Some c) k m h is =
    subst (MayBe (MethodInRange table)) is (at_place (MethodInRange table) c.methods k h.methods)

pub method_in_range : (table : Table) → IsInRange table → (class k : ℕ) (m : MethodInfo)
    → method_at table class k ≡ Some m → MethodInRange table m
method_in_range table ok class k m is =
    class_has table (slice_get table.classes class) k m (at_place (ClassInRange table) table.classes
    class ok.classes) is

arrive_by : (b : Bool) (n k most : ℕ) → n ≡ k → cond b k (suc k) ≤ most → cond b n (suc n) ≤ most
arrive_by b n k most same h = subst (λ j. cond b j (suc j) ≤ most) (sym same) h

pub orderly : (table : Table) → IsInRange table → (b : Body) (m : MethodInfo) → IsBodyOf table b m
    → IsOrderly (declares table) (length m.locals) b
orderly table ok b m h =
    let within : MethodWithin ((declares table).method b.class b.method) =
    (declared_within table ok).method b.class b.method in
    let known : (declares table).method b.class b.method ≡ method_of (Some m) =
    method_known table b.class b.method m h.method in
    record {
      numbered = numbered (declares table) b.body h.points;
      in_range = sta_within table ok (length m.locals) b.body h.numbers;
      params = within.params;
      arrive = subst (λ k. rules.arrivals k ≤ length m.locals) (sym known)
          (arrive_by m.is_static (length (params_of m.params)) (length m.params) (length m.locals)
          (length-params_of m.params)
          (method_in_range table ok b.class b.method m h.method).arrive);
      expects = within.expects;
    }

pub orderly_body : (table : Table) → IsInRange table → (b : Body) → HasMethod table b
    → IsOrderlyBody table b
orderly_body table ok b (m, h) = (m, record { method = h.method; orderly = orderly table ok b m h })
