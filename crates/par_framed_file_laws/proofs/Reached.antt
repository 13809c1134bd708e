-- Control in a body is the same without its policies.
use Rattle.std.proofs.Common.{ℕ, Bool, true, false, sym, subst}
use Rattle.par_typed.specs.declared.table.Table.{Table}
use Rattle.par_typed.specs.Plain.{TSta, Block, If, While, Try, Return, Break, Continue, Throw, Open}
use Rattle.par_typed.specs.Plain.{Close, SetLocal, SetStatic, SetField, Eval, When}
use Rattle.par_typed.specs.Plain.{MayTSta, NoElse, Otherwise, TStas, End, Then, TCatches, NoCatch}
use Rattle.par_typed.specs.Plain.{Catch}
use Rattle.par_completes.specs.Typed.{completes}
use Rattle.par_typed_laws.specs.Control.{StaReached, ElseReached, AllReached}
use Rattle.par_typed_laws.specs.Control.{CatchesReached}
use Rattle.par_erase.specs.Asked.{Locks}
use Rattle.par_erase.specs.Erased.{erased_sta, erased_else, erased_all, erased_catches, set_if}
use Rattle.par_file_run_laws.proofs.par_source_code_laws.Marks.{completes_of}

module _ (t : Table) (asked : Locks) where
  set_reached : (looped b : Bool) (lock : ℕ) (opens : Bool)
      → StaReached looped (set_if b lock opens)
  unfolding StaReached
  set_reached looped true lock true = tt
  set_reached looped true lock false = tt
  set_reached looped false lock opens = tt

  mutual
    unfolding StaReached erased_sta

    pub sta_reached : (looped : Bool) (s : TSta) → StaReached looped s
        → StaReached looped (erased_sta t asked s)
    sta_reached looped (Block ss at p) h = all_reached looped true ss h
    sta_reached looped (If e s o at p) h =
        (sta_reached looped s h.0, else_reached looped o h.1)
    sta_reached looped (While e s at p) h = sta_reached true s h
    sta_reached looped (Try s cs at p) h =
        (sta_reached looped s h.0, catches_reached looped cs h.1)
    sta_reached looped (Return o at p) h = tt
    sta_reached looped (Break at p) h = h
    sta_reached looped (Continue at p) h = h
    sta_reached looped (Throw c at p) h = tt
    sta_reached looped (Open l at p) h = set_reached looped (asked l) l true
    sta_reached looped (Close l at p) h = set_reached looped (asked l) l false
    sta_reached looped (SetLocal x q e at p) h = tt
    sta_reached looped (SetStatic c f e at p) h = tt
    sta_reached looped (SetField o c f e at p) h = tt
    sta_reached looped (Eval e at p) h = tt
    sta_reached looped (When l s o at p) h =
        (sta_reached looped s h.0, else_reached looped o h.1)

    else_reached : (looped : Bool) (o : MayTSta) → ElseReached looped o
        → ElseReached looped (erased_else t asked o)
    else_reached looped NoElse h = tt
    else_reached looped (Otherwise s) h = sta_reached looped s h

    all_reached : (looped reached : Bool) (ss : TStas) → AllReached looped reached ss
        → AllReached looped reached (erased_all t asked ss)
    all_reached looped reached End h = tt
    all_reached looped reached (Then s ss) h = (
      h.0,
      sta_reached looped s h.1,
      subst (λ (b : Bool). AllReached looped b (erased_all t asked ss))
          (sym (completes_of t asked s)) (all_reached looped (completes s) ss h.2),
    )

    catches_reached : (looped : Bool) (cs : TCatches) → CatchesReached looped cs
        → CatchesReached looped (erased_catches t asked cs)
    catches_reached looped NoCatch h = tt
    catches_reached looped (Catch c s cs) h =
        (sta_reached looped s h.0, catches_reached looped cs h.1)
