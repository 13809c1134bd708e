-- What holds of each thing that a body names, if something else does.
use Rattle.par_typed.specs.Plain.{TExp, Int, Boolean, Null, This, New, Local, Static, Field, Input}
use Rattle.par_typed.specs.Plain.{Output, Call, Neg, Not, Binary, MayTExp, Absent, Present}
use Rattle.par_typed.specs.Plain.{TExps, NoExps, More}
use Rattle.par_typed.specs.Plain.{TSta, Block, If, While, Try, Return, Break, Continue, Throw, Open}
use Rattle.par_typed.specs.Plain.{Close, SetLocal, SetStatic, SetField, Eval, When, MayTSta, NoElse}
use Rattle.par_typed.specs.Plain.{Otherwise, TStas, End, Then, TCatches, NoCatch, Catch}
use Rattle.par_source_code_laws.specs.Named.{Named, Made, Raised, OfClass, OfObject, Reads, Writes}
use Rattle.par_source_code_laws.specs.Named.{Calls}
use Rattle.par_source_code_laws.specs.Named.{Uses, EachInExp, EachInMay, EachInExps, EachInSta}
use Rattle.par_source_code_laws.specs.Named.{EachInElse}
use Rattle.par_source_code_laws.specs.Named.{EachInStas, EachInCatches}

module _ (P Q : Named → Type 0) (each : (n : Named) → P n → Q n) where
  mutual
    unfolding EachInExp

    in_exp : (e : TExp) → EachInExp P e → EachInExp Q e
    in_exp (Int v m) h = tt
    in_exp (Boolean b m) h = tt
    in_exp (Null m) h = tt
    in_exp (This m) h = tt
    in_exp (New c m) h = each (Made c) h
    in_exp (Local x m) h = tt
    in_exp (Static c f m) h = each (OfClass c f) h
    in_exp (Field e c f m) h = (each (OfObject c f) h.0, in_exp e h.1)
    in_exp (Input c k m) h = each (Reads c k) h
    in_exp (Output c k e m) h = (each (Writes c k) h.0, in_exp e h.1)
    in_exp (Call c i o es m) h = (each (Calls c i) h.0, in_may o h.1, in_exps es h.2)
    in_exp (Neg e m) h = in_exp e h
    in_exp (Not e m) h = in_exp e h
    in_exp (Binary op a b m) h = (in_exp a h.0, in_exp b h.1)

    in_may : (o : MayTExp) → EachInMay P o → EachInMay Q o
    in_may Absent h = tt
    in_may (Present e) h = in_exp e h

    in_exps : (es : TExps) → EachInExps P es → EachInExps Q es
    in_exps NoExps h = tt
    in_exps (More e es) h = (in_exp e h.0, in_exps es h.1)

  mutual
    unfolding EachInSta EachInExp

    pub in_sta : (s : TSta) → EachInSta P s → EachInSta Q s
    in_sta (Block ss at p) h = in_stas ss h
    in_sta (If e s o at p) h = (in_exp e h.0, in_sta s h.1, in_else o h.2)
    in_sta (While e s at p) h = (in_exp e h.0, in_sta s h.1)
    in_sta (Try s cs at p) h = (in_sta s h.0, in_catches cs h.1)
    in_sta (Return o at p) h = in_may o h
    in_sta (Break at p) h = tt
    in_sta (Continue at p) h = tt
    in_sta (Throw c at p) h = each (Raised c) h
    in_sta (Open l at p) h = each (Uses l) h
    in_sta (Close l at p) h = each (Uses l) h
    in_sta (SetLocal x q e at p) h = in_exp e h
    in_sta (SetStatic c f e at p) h = (each (OfClass c f) h.0, in_exp e h.1)
    in_sta (SetField o c f e at p) h = (each (OfObject c f) h.0, in_exp o h.1, in_exp e h.2)
    in_sta (Eval e at p) h = in_exp e h
    in_sta (When l s o at p) h = (each (Uses l) h.0, in_sta s h.1, in_else o h.2)

    in_else : (o : MayTSta) → EachInElse P o → EachInElse Q o
    in_else NoElse h = tt
    in_else (Otherwise s) h = in_sta s h

    in_stas : (ss : TStas) → EachInStas P ss → EachInStas Q ss
    in_stas End h = tt
    in_stas (Then s ss) h = (in_sta s h.0, in_stas ss h.1)

    in_catches : (cs : TCatches) → EachInCatches P cs → EachInCatches Q cs
    in_catches NoCatch h = tt
    in_catches (Catch c s cs) h = (each (Raised c) h.0, in_sta s h.1, in_catches cs h.2)
