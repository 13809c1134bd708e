use Rattle.std.proofs.Common.{◌≡◌, List, Option, Some, sym, subst}
use Rattle.std.proofs.lemmas.Result.{IfOk-weaker}
use Rattle.par_kinds.specs.Passes.{frame_at}
use Rattle.par_frame_steps.specs.declared.frame.PlaceFrame.{PlaceFrame}
use Rattle.par_frame_guesses.specs.Methods.{exc_of, act_in, handler_in, code_in}
use Rattle.par_frame_passes.specs.Sweeps.{Kept, Settles}
use Rattle.par_frame_passes.specs.Tables.{table_of}
use Rattle.par_frame_passes.proofs.Told.{told-kept, told-first, told-settles}
use Rattle.par_frame_passes.proofs.fixpoint.is_guessed.Goals as goal

-- what is found with all frames that stand from the start
pub returns : goal.returns
returns c =
    let m = c.args.method.now in
    let t = table_of c.args.table.now in
    let s = table_of c.in_ok-table.table.items in
    let same = c.as_mut_slice.ensures.value in
    IfOk-weaker c.least_around-found.result _ _
    (λ found settles. λ start first told begins kept is.
    let tells = c.in_ok-table.ensures start told in
    told-settles (exc_of m) (act_in m) (handler_in m) (code_in m) start t s kept tells found is
    (subst (λ (all : List (Option PlaceFrame)). Settles (exc_of m) (act_in m) (handler_in m)
    (code_in m) (frame_at (table_of all)) found) same
    (settles start first told
    (subst (λ (all : List (Option PlaceFrame)). frame_at (table_of all) 0 ≡ Some first) (sym same)
    (told-first (exc_of m) (act_in m) (handler_in m) (code_in m) start t s kept tells first
    begins))
    (subst (λ (all : List (Option PlaceFrame)). Kept (exc_of m) (act_in m) (handler_in m)
    (code_in m) (frame_at (table_of all)) (table_of all)) (sym same)
    (told-kept (exc_of m) (act_in m) (handler_in m) (code_in m) start t s kept tells)))))
    c.least_around-found.ensures
