-- The body of each catch is a block, as the grammar has it.
use Rattle.std.specs.Prelude.{◌≡◌, Bool, true, false}
use Rattle.par_program_laws.specs.par_typed.Plain.{TSta, Block, If, While, Try, Return, Break}
use Rattle.par_program_laws.specs.par_typed.Plain.{Continue}
use Rattle.par_program_laws.specs.par_typed.Plain.{Throw, Open}
use Rattle.par_program_laws.specs.par_typed.Plain.{Close, SetLocal, SetStatic, SetField, Eval, When}
use Rattle.par_program_laws.specs.par_typed.Plain.{MayTSta, NoElse, Otherwise, TStas, End, Then}
use Rattle.par_program_laws.specs.par_typed.Plain.{TCatches}
use Rattle.par_program_laws.specs.par_typed.Plain.{NoCatch}
use Rattle.par_program_laws.specs.par_typed.Plain.{Catch}

abbrev pub is_block : TSta → Bool
is_block (Block ss at p) = true
is_block _ = false

-- each catch inside has a block
unfoldable mutual
  pub HasBlocks : TSta → Type 0
  HasBlocks (Block ss at p) = AllHaveBlocks ss
  HasBlocks (If e s o at p) = HasBlocks s × ElseHasBlocks o
  HasBlocks (While e s at p) = HasBlocks s
  HasBlocks (Try s cs at p) = HasBlocks s × CatchesHaveBlocks cs
  HasBlocks (Return o at p) = Unit {0}
  HasBlocks (Break at p) = Unit {0}
  HasBlocks (Continue at p) = Unit {0}
  HasBlocks (Throw c at p) = Unit {0}
  HasBlocks (Open l at p) = Unit {0}
  HasBlocks (Close l at p) = Unit {0}
  HasBlocks (SetLocal x q e at p) = Unit {0}
  HasBlocks (SetStatic c f e at p) = Unit {0}
  HasBlocks (SetField o c f e at p) = Unit {0}
  HasBlocks (Eval e at p) = Unit {0}
  HasBlocks (When l s o at p) = HasBlocks s × ElseHasBlocks o

  pub ElseHasBlocks : MayTSta → Type 0
  ElseHasBlocks NoElse = Unit {0}
  ElseHasBlocks (Otherwise s) = HasBlocks s

  pub AllHaveBlocks : TStas → Type 0
  AllHaveBlocks End = Unit {0}
  AllHaveBlocks (Then s ss) = HasBlocks s × AllHaveBlocks ss

  pub CatchesHaveBlocks : TCatches → Type 0
  CatchesHaveBlocks NoCatch = Unit {0}
  CatchesHaveBlocks (Catch c s cs) = (is_block s ≡ true) × HasBlocks s × CatchesHaveBlocks cs
