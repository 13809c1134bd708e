-- Control comes to each statement of a body without its policies.
use Rattle.std.proofs.Common.{ℕ, Bool, true, false, sym, subst}
use Rattle.par_typed.specs.declared.table.Table.{Table}
use Rattle.par_typed.specs.Plain.{TSta, Block, If, While, Try, Return, Break, Continue, Throw, Open}
use Rattle.par_typed.specs.Plain.{Close, SetLocal, SetStatic, SetField, Eval, When}
use Rattle.par_typed.specs.Plain.{MayTSta, NoElse, Otherwise, TStas, End, Then, TCatches, NoCatch}
use Rattle.par_typed.specs.Plain.{Catch}
use Rattle.par_completes.specs.Typed.{completes}
use Rattle.par_erase.specs.Asked.{Locks}
use Rattle.par_erase.specs.Erased.{set_if, erased_sta, erased_else, erased_all, erased_catches}
use Rattle.par_file_run_laws.specs.par_typed_laws.Control as control
use Rattle.par_file_run_laws.proofs.par_source_code_laws.Whole.{erased_bodies_complete}
use Rattle.par_verified_file_laws.specs.Reached.{Reached, ElseReached, AllReached, CatchesReached}

set_reached : (b : Bool) (l : ℕ) (opens : Bool) → Reached (set_if b l opens)
unfolding Reached
set_reached true l true = tt
set_reached true l false = tt
set_reached false l opens = tt

module _ (t : Table) (asked : Locks) where
  mutual
    unfolding Reached control.StaReached erased_sta

    pub sta_reached : (looped : Bool) (s : TSta) → control.StaReached looped s
        → Reached (erased_sta t asked s)
    sta_reached looped (Block ss at p) h = all_reached looped true ss h
    sta_reached looped (If e s o at p) h = (sta_reached looped s h.0, else_reached looped o h.1)
    sta_reached looped (While e s at p) h = sta_reached true s h
    sta_reached looped (Try s cs at p) h =
        (sta_reached looped s h.0, catches_reached looped cs h.1)
    sta_reached looped (Return o at p) h = tt
    sta_reached looped (Break at p) h = tt
    sta_reached looped (Continue at p) h = tt
    sta_reached looped (Throw c at p) h = tt
    sta_reached looped (Open l at p) h = set_reached (asked l) l true
    sta_reached looped (Close l at p) h = set_reached (asked l) l false
    sta_reached looped (SetLocal x q e at p) h = tt
    sta_reached looped (SetStatic c f e at p) h = tt
    sta_reached looped (SetField o c f e at p) h = tt
    sta_reached looped (Eval e at p) h = tt
    sta_reached looped (When l s o at p) h = (sta_reached looped s h.0, else_reached looped o h.1)

    else_reached : (looped : Bool) (o : MayTSta) → control.ElseReached looped o
        → ElseReached (erased_else t asked o)
    else_reached looped NoElse h = tt
    else_reached looped (Otherwise s) h = sta_reached looped s h

    all_reached : (looped reached : Bool) (ss : TStas) → control.AllReached looped reached ss
        → AllReached reached (erased_all t asked ss)
    all_reached looped reached End h = tt
    all_reached looped reached (Then s ss) h = (
      h.0,
      sta_reached looped s h.1,
      subst (λ (b : Bool). AllReached b (erased_all t asked ss))
          (sym (erased_bodies_complete t asked s))
          (all_reached looped (completes s) ss h.2),
    )

    catches_reached : (looped : Bool) (cs : TCatches) → control.CatchesReached looped cs
        → CatchesReached (erased_catches t asked cs)
    catches_reached looped NoCatch h = tt
    catches_reached looped (Catch c s cs) h =
        (sta_reached looped s h.0, catches_reached looped cs h.1)
