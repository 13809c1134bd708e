-- The statements of a body, each with those inside it, in source order.
use Rattle.std.specs.Prelude.{List, [], ◌∷◌, ◌++◌}
use Rattle.par_tree.specs.Plain.{Sta, Block, If, While, Try, Return, Break, Continue}
use Rattle.par_tree.specs.Plain.{Throw, Open}
use Rattle.par_tree.specs.Plain.{Close}
use Rattle.par_tree.specs.Plain.{Declare, Assign, Do, When, Braces, In, MayBraces}
use Rattle.par_tree.specs.Plain.{NoBraces, Some}
use Rattle.par_tree.specs.Plain.{Else, NoElse, Otherwise, Stas, End, Then, Catches}
use Rattle.par_tree.specs.Plain.{NoCatch, Catch}
use Rattle.par_tree.specs.Plain.{Handler, On}

unfoldable mutual
  pub inside : Sta → List Sta
  inside (Block b at) = in_braces b
  inside (If e b o at) = in_braces b ++ in_else o
  inside (While e b at) = in_braces b
  inside (Try b cs at) = in_braces b ++ in_catches cs
  inside (Return e at) = []
  inside (Break at) = []
  inside (Continue at) = []
  inside (Throw class at) = []
  inside (Open lock at) = []
  inside (Close lock at) = []
  inside (Declare local at) = []
  inside (Assign target value at) = []
  inside (Do call at) = []
  inside (When lock b o at) = in_braces b ++ in_may_braces o

  pub in_braces : Braces → List Sta
  in_braces (In ss at) = in_all ss

  pub in_may_braces : MayBraces → List Sta
  in_may_braces NoBraces = []
  in_may_braces (Some b) = in_braces b

  pub in_else : Else → List Sta
  in_else NoElse = []
  in_else (Otherwise s) = s ∷ inside s

  pub in_all : Stas → List Sta
  in_all End = []
  in_all (Then s ss) = s ∷ inside s ++ in_all ss

  pub in_catches : Catches → List Sta
  in_catches NoCatch = []
  in_catches (Catch c cs) = in_handler c ++ in_catches cs

  pub in_handler : Handler → List Sta
  in_handler (On class name b) = in_braces b
