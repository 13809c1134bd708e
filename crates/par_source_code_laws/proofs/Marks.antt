-- What an erased body keeps: types, where control comes, and which locals are set.
use Rattle.std.proofs.Common.{◌≡◌, ℕ, Bool, true, false, refl, ap, ◌∙◌}
use Rattle.par_typed.specs.Plain.{mark, TExp, Int, Boolean, Null, This, New, Local, Static}
use Rattle.par_typed.specs.Plain.{Field, Input, Output, Call, Neg, Not, Binary}
use Rattle.par_typed.specs.Plain.{TSta, Block, If, While, Try, Return, Break, Continue, Throw, Open}
use Rattle.par_typed.specs.Plain.{Close, SetLocal, SetStatic, SetField, Eval, When, MayTSta, NoElse}
use Rattle.par_typed.specs.Plain.{Otherwise, TStas, End, Then, TCatches, NoCatch, Catch}
use Rattle.par_typed.specs.declared.table.Table.{Table}
use Rattle.par_typed_laws.specs.par_completes.Typed.{is_true, breaks, else_breaks, some_break}
use Rattle.par_typed_laws.specs.par_completes.Typed.{some_catch_breaks}
use Rattle.par_typed_laws.specs.par_completes.Typed.{completes, else_completes, last_completes}
use Rattle.par_typed_laws.specs.par_completes.Typed.{some_catch_completes}
use Rattle.par_erase.specs.Asked.{Locks}
use Rattle.par_erase.specs.Erased.{erased_exp, erased_sta, erased_else, erased_all, erased_catches}
use Rattle.par_erase.specs.Erased.{set_if}

module _ (t : Table) where
  pub type_of : (e : TExp) → (mark (erased_exp t e)).ty ≡ (mark e).ty
  unfolding erased_exp mark
  type_of (Int n m) = refl
  type_of (Boolean b m) = refl
  type_of (Null m) = refl
  type_of (This m) = refl
  type_of (New c m) = refl
  type_of (Local x m) = refl
  type_of (Static c f m) = refl
  type_of (Field e c f m) = refl
  type_of (Input c k m) = refl
  type_of (Output c k e m) = refl
  type_of (Call c i o es m) = refl
  type_of (Neg e m) = refl
  type_of (Not e m) = refl
  type_of (Binary op a b m) = refl

  -- of no erased expression it is known that it is never null
  pub none_sure : (e : TExp) → (mark (erased_exp t e)).sure ≡ false
  unfolding erased_exp mark
  none_sure (Int n m) = refl
  none_sure (Boolean b m) = refl
  none_sure (Null m) = refl
  none_sure (This m) = refl
  none_sure (New c m) = refl
  none_sure (Local x m) = refl
  none_sure (Static c f m) = refl
  none_sure (Field e c f m) = refl
  none_sure (Input c k m) = refl
  none_sure (Output c k e m) = refl
  none_sure (Call c i o es m) = refl
  none_sure (Neg e m) = refl
  none_sure (Not e m) = refl
  none_sure (Binary op a b m) = refl

  literal_of : (e : TExp) → is_true (erased_exp t e) ≡ is_true e
  unfolding erased_exp is_true
  literal_of (Int n m) = refl
  literal_of (Boolean b m) = refl
  literal_of (Null m) = refl
  literal_of (This m) = refl
  literal_of (New c m) = refl
  literal_of (Local x m) = refl
  literal_of (Static c f m) = refl
  literal_of (Field e c f m) = refl
  literal_of (Input c k m) = refl
  literal_of (Output c k e m) = refl
  literal_of (Call c i o es m) = refl
  literal_of (Neg e m) = refl
  literal_of (Not e m) = refl
  literal_of (Binary op a b m) = refl

  breaks_set : (b : Bool) (lock : ℕ) (opens : Bool) → breaks (set_if b lock opens) ≡ false
  unfolding breaks
  breaks_set true lock true = refl
  breaks_set true lock false = refl
  breaks_set false lock opens = refl

  completes_set : (b : Bool) (lock : ℕ) (opens : Bool) → completes (set_if b lock opens) ≡ true
  unfolding completes
  completes_set true lock true = refl
  completes_set true lock false = refl
  completes_set false lock opens = refl

  module _ (asked : Locks) where
    mutual
      unfolding erased_sta breaks

      breaks_of : (s : TSta) → breaks (erased_sta t asked s) ≡ breaks s
      breaks_of (Block ss at p) = some_breaks_of ss
      breaks_of (If e s o at p) = cc (breaks_of s, else_breaks_of o)
      breaks_of (While e s at p) = refl
      breaks_of (Try s cs at p) = cc (breaks_of s, catch_breaks_of cs)
      breaks_of (Return o at p) = refl
      breaks_of (Break at p) = refl
      breaks_of (Continue at p) = refl
      breaks_of (Throw c at p) = refl
      breaks_of (Open l at p) = breaks_set (asked l) l true
      breaks_of (Close l at p) = breaks_set (asked l) l false
      breaks_of (SetLocal x q e at p) = refl
      breaks_of (SetStatic c f e at p) = refl
      breaks_of (SetField o c f e at p) = refl
      breaks_of (Eval e at p) = refl
      breaks_of (When l s o at p) = cc (breaks_of s, else_breaks_of o)

      else_breaks_of : (o : MayTSta) → else_breaks (erased_else t asked o) ≡ else_breaks o
      else_breaks_of NoElse = refl
      else_breaks_of (Otherwise s) = breaks_of s

      some_breaks_of : (ss : TStas) → some_break (erased_all t asked ss) ≡ some_break ss
      some_breaks_of End = refl
      some_breaks_of (Then s ss) = cc (breaks_of s, some_breaks_of ss)

      catch_breaks_of : (cs : TCatches)
          → some_catch_breaks (erased_catches t asked cs) ≡ some_catch_breaks cs
      catch_breaks_of NoCatch = refl
      catch_breaks_of (Catch c s cs) = cc (breaks_of s, catch_breaks_of cs)

    mutual
      unfolding erased_sta completes

      pub completes_of : (s : TSta) → completes (erased_sta t asked s) ≡ completes s
      completes_of (Block ss at p) = last_of true ss
      completes_of (If e s o at p) = cc (completes_of s, else_of o)
      completes_of (While e s at p) = cc (literal_of e, breaks_of s)
      completes_of (Try s cs at p) = cc (completes_of s, catches_of cs)
      completes_of (Return o at p) = refl
      completes_of (Break at p) = refl
      completes_of (Continue at p) = refl
      completes_of (Throw c at p) = refl
      completes_of (Open l at p) = completes_set (asked l) l true
      completes_of (Close l at p) = completes_set (asked l) l false
      completes_of (SetLocal x q e at p) = refl
      completes_of (SetStatic c f e at p) = refl
      completes_of (SetField o c f e at p) = refl
      completes_of (Eval e at p) = refl
      completes_of (When l s o at p) = cc (completes_of s, else_of o)

      else_of : (o : MayTSta) → else_completes (erased_else t asked o) ≡ else_completes o
      else_of NoElse = refl
      else_of (Otherwise s) = completes_of s

      last_of : (before : Bool) (ss : TStas)
          → last_completes before (erased_all t asked ss) ≡ last_completes before ss
      last_of before End = refl
      last_of before (Then s ss) =
          ap (λ b. last_completes b (erased_all t asked ss)) (completes_of s)
          ∙ last_of (completes s) ss

      catches_of : (cs : TCatches)
          → some_catch_completes (erased_catches t asked cs) ≡ some_catch_completes cs
      catches_of NoCatch = refl
      catches_of (Catch c s cs) = cc (completes_of s, catches_of cs)
