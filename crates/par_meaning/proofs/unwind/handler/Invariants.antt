use Rattle.std.proofs.Common.{◌≡◌, drop}
use Rattle.par_typed.specs.Shown.{all_catch}
use Rattle.par_meaning.specs.Work.{catch_of}
use Rattle.par_meaning.proofs.unwind.handler.Given as goal

abbrev pub invariant-loop-catch : goal.invariant-loop-catch
invariant-loop-catch l =
    catch_of (all_catch l.catches) l.class
    ≡ catch_of (all_catch (drop l.catch-index l.catches)) l.class
