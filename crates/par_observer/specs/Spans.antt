-- All places in a typed tree are at most a number.
use Rattle.std.specs.Prelude.{ℕ, ◌≤◌}
use Rattle.par_typed.specs.Plain.{Mark, TExp, MayTExp, TExps, TSta, MayTSta, TStas, TCatches, Body}
use Rattle.par_typed.specs.Plain.{Int, Boolean, Null, This, New, Local, Static, Field, Input}
use Rattle.par_typed.specs.Plain.{Output, Call, Neg, Not, Binary, Absent, Present, NoExps, More}
use Rattle.par_typed.specs.Plain.{Block, If, While, Try, Return, Break, Continue, Throw, Open}
use Rattle.par_typed.specs.Plain.{Close, SetLocal, SetStatic, SetField, Eval, When, NoElse}
use Rattle.par_typed.specs.Plain.{Otherwise, End, Then, NoCatch, Catch}

module _ (m : ℕ) where
  abbrev pub MarkIn : Mark → Type 0
  MarkIn k = k.at ≤ m

  unfoldable mutual
    pub TExpIn : TExp → Type 0
    TExpIn (Int n k) = MarkIn k
    TExpIn (Boolean b k) = MarkIn k
    TExpIn (Null k) = MarkIn k
    TExpIn (This k) = MarkIn k
    TExpIn (New class k) = MarkIn k
    TExpIn (Local x k) = MarkIn k
    TExpIn (Static c f k) = MarkIn k
    TExpIn (Field e c f k) = TExpIn e × MarkIn k
    TExpIn (Input c i k) = MarkIn k
    TExpIn (Output c i e k) = TExpIn e × MarkIn k
    TExpIn (Call c i o es k) = MayTExpIn o × TExpsIn es × MarkIn k
    TExpIn (Neg e k) = TExpIn e × MarkIn k
    TExpIn (Not e k) = TExpIn e × MarkIn k
    TExpIn (Binary op a b k) = TExpIn a × TExpIn b × MarkIn k

    pub MayTExpIn : MayTExp → Type 0
    MayTExpIn Absent = Unit {0}
    MayTExpIn (Present e) = TExpIn e

    pub TExpsIn : TExps → Type 0
    TExpsIn NoExps = Unit {0}
    TExpsIn (More e es) = TExpIn e × TExpsIn es

  unfoldable mutual
    pub TStaIn : TSta → Type 0
    TStaIn (Block ss at p) = TStasIn ss × (at ≤ m)
    TStaIn (If e s o at p) = TExpIn e × TStaIn s × MayTStaIn o × (at ≤ m)
    TStaIn (While e s at p) = TExpIn e × TStaIn s × (at ≤ m)
    TStaIn (Try s cs at p) = TStaIn s × TCatchesIn cs × (at ≤ m)
    TStaIn (Return e at p) = MayTExpIn e × (at ≤ m)
    TStaIn (Break at p) = at ≤ m
    TStaIn (Continue at p) = at ≤ m
    TStaIn (Throw class at p) = at ≤ m
    TStaIn (Open lock at p) = at ≤ m
    TStaIn (Close lock at p) = at ≤ m
    TStaIn (SetLocal x policy e at p) = TExpIn e × (at ≤ m)
    TStaIn (SetStatic c f e at p) = TExpIn e × (at ≤ m)
    TStaIn (SetField o c f e at p) = TExpIn o × TExpIn e × (at ≤ m)
    TStaIn (Eval e at p) = TExpIn e × (at ≤ m)
    TStaIn (When lock s o at p) = TStaIn s × MayTStaIn o × (at ≤ m)

    pub MayTStaIn : MayTSta → Type 0
    MayTStaIn NoElse = Unit {0}
    MayTStaIn (Otherwise s) = TStaIn s

    pub TStasIn : TStas → Type 0
    TStasIn End = Unit {0}
    TStasIn (Then s ss) = TStaIn s × TStasIn ss

    pub TCatchesIn : TCatches → Type 0
    TCatchesIn NoCatch = Unit {0}
    TCatchesIn (Catch class s cs) = TStaIn s × TCatchesIn cs

  abbrev pub BodyIn : Body → Type 0
  BodyIn b = TStaIn b.body
