-- The code of a statement shows its run.
use Rattle.std.proofs.Common.{◌≡◌, ℕ}
use Rattle.par_typed.specs.declared.ty.Ty.{Ty}
use Rattle.par_evaluation_laws.specs.par_match_laws.Labelled.{Labelled}
use Rattle.par_typed.specs.Plain.{Absent, Present}
use Rattle.par_typed.specs.Plain.{TSta, Block, If, While, Try, Return, Break, Continue, Throw, Open}
use Rattle.par_typed.specs.Plain.{Close, SetLocal, SetStatic, SetField, Eval, When}
use Rattle.par_typed.specs.Plain.{MayTSta, NoElse, Otherwise, TStas, End, Then, TCatches, NoCatch}
use Rattle.par_typed.specs.Plain.{Catch}
use Rattle.par_evaluation_laws.proofs.Parts.{Setting}
use Rattle.par_code_laws.proofs.Exits.{Holds'}
use Rattle.par_code_laws.proofs.Leaves.{break_ok, closes_ok, continue_ok, eval_ok, field_set}
use Rattle.par_code_laws.proofs.Leaves.{give_ok}
use Rattle.par_code_laws.proofs.Leaves.{given_kind, local_set, opens_ok, return_ok, static_set}
use Rattle.par_code_laws.proofs.Leaves.{throw_ok}
use Rattle.par_code_laws.proofs.Branches.{HoldsElse, if_ok, nothing_else, some_else, split_ok}
use Rattle.par_code_laws.proofs.Branches.{when_ok}
use Rattle.par_code_laws.proofs.Loops.{while_ok}
use Rattle.par_code_laws.proofs.Blocks.{HoldsAll, block_ok, end_ok, then_ok}
use Rattle.par_code_laws.proofs.Tries.{HoldsCatches, no_catch, one_catch, try_ok}

module _ (ctx : Setting) (result : Ty) where
  abbrev labelled : ℕ → ℕ → Labelled
  labelled = ctx.labelled

  abbrev cls : ℕ
  cls = ctx.cls

  abbrev mth : ℕ
  mth = ctx.mth

  abbrev C : Labelled
  C = labelled cls mth

  module _ (gives_is : C.gives ≡ given_kind ctx result result) where
    mutual
      pub stmt_ok : (st : TSta) → Holds' ctx result st
      stmt_ok (Block ss y1 y2) = block_ok ctx result ss y1 y2 (all_ok ss)
      stmt_ok (If e s1 o y1 y2) = if_ok ctx result e s1 o y1 y2 (split_ok ctx result s1 o (stmt_ok
          s1) (else_ok o))
      stmt_ok (While e s1 y1 y2) = while_ok ctx result e s1 y1 y2 (stmt_ok s1)
      stmt_ok (Try s1 cs y1 y2) = try_ok ctx result s1 cs y1 y2 (stmt_ok s1) (catches_ok cs)
      stmt_ok (Return Absent y1 y2) = return_ok ctx result gives_is y1 y2
      stmt_ok (Return (Present e) y1 y2) = give_ok ctx result gives_is e y1 y2
      stmt_ok (Break y1 y2) = break_ok ctx result y1 y2
      stmt_ok (Continue y1 y2) = continue_ok ctx result y1 y2
      stmt_ok (Throw x y1 y2) = throw_ok ctx result x y1 y2
      stmt_ok (Open i y1 y2) = opens_ok ctx result i y1 y2
      stmt_ok (Close i y1 y2) = closes_ok ctx result i y1 y2
      stmt_ok (SetLocal x q e y1 y2) = local_set ctx result x q e y1 y2
      stmt_ok (SetStatic c f e y1 y2) = static_set ctx result c f e y1 y2
      stmt_ok (SetField o c f e y1 y2) = field_set ctx result o c f e y1 y2
      stmt_ok (Eval e y1 y2) = eval_ok ctx result e y1 y2
      stmt_ok (When i s1 o y1 y2) = when_ok ctx result i s1 o y1 y2 (split_ok ctx result s1 o
          (stmt_ok s1) (else_ok o))

      else_ok : (o : MayTSta) → HoldsElse ctx result o
      else_ok NoElse = nothing_else ctx result
      else_ok (Otherwise st) = some_else ctx result st (stmt_ok st)

      all_ok : (ss : TStas) → HoldsAll ctx result ss
      all_ok End = end_ok ctx result
      all_ok (Then st ss) = then_ok ctx result st ss (stmt_ok st) (all_ok ss)

      catches_ok : (cs : TCatches) → HoldsCatches ctx result cs
      catches_ok NoCatch = no_catch ctx result
      catches_ok (Catch d s1 cs) = one_catch ctx result d s1 cs (stmt_ok s1) (catches_ok cs)
