-- What a body names of its program: classes, members and locks.
use Rattle.std.specs.Prelude.{ℕ}
use Rattle.par_typed.specs.Plain.{TExp, Int, Boolean, Null, This, New, Local, Static, Field, Input}
use Rattle.par_typed.specs.Plain.{Output, Call, Neg, Not, Binary, MayTExp, Absent, Present}
use Rattle.par_typed.specs.Plain.{TExps, NoExps, More}
use Rattle.par_typed.specs.Plain.{TSta, Block, If, While, Try, Return, Break, Continue, Throw, Open}
use Rattle.par_typed.specs.Plain.{Close, SetLocal, SetStatic, SetField, Eval, When, MayTSta, NoElse}
use Rattle.par_typed.specs.Plain.{Otherwise, TStas, End, Then, TCatches, NoCatch, Catch}

-- by their numbers
pub data Named : Type 0 where
  -- a class of which an object is made, and one of exceptions that is thrown or caught
  Made : (class : ℕ) → Named
  Raised : (class : ℕ) → Named
  -- a field of a class, and one of its objects
  OfClass : (class field : ℕ) → Named
  OfObject : (class field : ℕ) → Named
  -- a channel that is read, and one that is written
  Reads : (class channel : ℕ) → Named
  Writes : (class channel : ℕ) → Named
  Calls : (class method : ℕ) → Named
  -- a lock that is opened, closed or asked for
  Uses : (lock : ℕ) → Named

-- each thing that is named in it is such
module _ (P : Named → Type 0) where
  unfoldable mutual
    pub EachInExp : TExp → Type 0
    EachInExp (Int n m) = Unit {0}
    EachInExp (Boolean b m) = Unit {0}
    EachInExp (Null m) = Unit {0}
    EachInExp (This m) = Unit {0}
    EachInExp (New c m) = P (Made c)
    EachInExp (Local x m) = Unit {0}
    EachInExp (Static c f m) = P (OfClass c f)
    EachInExp (Field e c f m) = P (OfObject c f) × EachInExp e
    EachInExp (Input c k m) = P (Reads c k)
    EachInExp (Output c k e m) = P (Writes c k) × EachInExp e
    EachInExp (Call c i o es m) = P (Calls c i) × EachInMay o × EachInExps es
    EachInExp (Neg e m) = EachInExp e
    EachInExp (Not e m) = EachInExp e
    EachInExp (Binary op a b m) = EachInExp a × EachInExp b

    pub EachInMay : MayTExp → Type 0
    EachInMay Absent = Unit {0}
    EachInMay (Present e) = EachInExp e

    pub EachInExps : TExps → Type 0
    EachInExps NoExps = Unit {0}
    EachInExps (More e es) = EachInExp e × EachInExps es

  unfoldable mutual
    pub EachInSta : TSta → Type 0
    EachInSta (Block ss at p) = EachInStas ss
    EachInSta (If e s o at p) = EachInExp e × EachInSta s × EachInElse o
    EachInSta (While e s at p) = EachInExp e × EachInSta s
    EachInSta (Try s cs at p) = EachInSta s × EachInCatches cs
    EachInSta (Return o at p) = EachInMay o
    EachInSta (Break at p) = Unit {0}
    EachInSta (Continue at p) = Unit {0}
    EachInSta (Throw c at p) = P (Raised c)
    EachInSta (Open l at p) = P (Uses l)
    EachInSta (Close l at p) = P (Uses l)
    EachInSta (SetLocal x q e at p) = EachInExp e
    EachInSta (SetStatic c f e at p) = P (OfClass c f) × EachInExp e
    EachInSta (SetField o c f e at p) = P (OfObject c f) × EachInExp o × EachInExp e
    EachInSta (Eval e at p) = EachInExp e
    EachInSta (When l s o at p) = P (Uses l) × EachInSta s × EachInElse o

    pub EachInElse : MayTSta → Type 0
    EachInElse NoElse = Unit {0}
    EachInElse (Otherwise s) = EachInSta s

    pub EachInStas : TStas → Type 0
    EachInStas End = Unit {0}
    EachInStas (Then s ss) = EachInSta s × EachInStas ss

    pub EachInCatches : TCatches → Type 0
    EachInCatches NoCatch = Unit {0}
    EachInCatches (Catch c s cs) = P (Raised c) × EachInSta s × EachInCatches cs
