-- Which locks some `when` asks for.
use Rattle.std.specs.Prelude.{ℕ, Bool, false, ◌||◌, nat_eq, List, [], ◌∷◌}
use Rattle.par_typed.specs.Plain.{TSta, Block, If, While, Try, Return, Break, Continue, Throw, Open}
use Rattle.par_typed.specs.Plain.{Close, SetLocal, SetStatic, SetField, Eval, When}
use Rattle.par_typed.specs.Plain.{MayTSta, NoElse, Otherwise, TStas, End, Then, TCatches, NoCatch}
use Rattle.par_typed.specs.Plain.{Catch, Body}

-- some locks, as the test for them
abbrev pub Locks : Type 0
Locks = ℕ → Bool

unfoldable pub none : Locks
none lock = false

unfoldable pub only : ℕ → Locks
only asked lock = nat_eq asked lock

unfoldable pub either : Locks → Locks → Locks
either p q lock = p lock || q lock

unfoldable mutual
  -- the locks that stand in a `when` of a statement
  pub asks : TSta → Locks
  asks (Block ss at p) = all_ask ss
  asks (If e s o at p) = either (asks s) (else_asks o)
  asks (While e s at p) = asks s
  asks (Try s cs at p) = either (asks s) (catches_ask cs)
  asks (Return o at p) = none
  asks (Break at p) = none
  asks (Continue at p) = none
  asks (Throw c at p) = none
  asks (Open l at p) = none
  asks (Close l at p) = none
  asks (SetLocal x q e at p) = none
  asks (SetStatic c f e at p) = none
  asks (SetField o c f e at p) = none
  asks (Eval e at p) = none
  asks (When l s o at p) = either (only l) (either (asks s) (else_asks o))

  pub else_asks : MayTSta → Locks
  else_asks NoElse = none
  else_asks (Otherwise s) = asks s

  pub all_ask : TStas → Locks
  all_ask End = none
  all_ask (Then s ss) = either (asks s) (all_ask ss)

  pub catches_ask : TCatches → Locks
  catches_ask NoCatch = none
  catches_ask (Catch c s cs) = either (asks s) (catches_ask cs)

-- those that stand in a `when` of any body
abbrev pub asked_in : List Body → Locks
asked_in [] = none
asked_in (b ∷ bs) = either (asks b.body) (asked_in bs)
