use Rattle.std.proofs.Common.{◌++◌, map, ap, ◌∙◌}
use Rattle.std.proofs.lemmas.Result.{IfOk-weaker}
use Rattle.par_frame_steps.specs.Marks.{kinds_of}
use Rattle.par_verify.specs.Said.{kind_in}
use Rattle.par_verify.proofs.Saying.{all_said}
use Rattle.par_verify.proofs.told.stack_said.Goals as goal

pub returns-in-Full : goal.returns-in-Full
returns-in-Full c =
    let pool = c.args.entries.now in
    rw c.in-Full.is
    (IfOk-weaker c.put_kinds.result _ _
    (λ all is. all_said pool c.in-Full.stack (kinds_of all)
    (is ∙ ap (λ ks. kinds_of ks ++ map (kind_in pool) c.as_slice.result.now) c.new.ensures
    ∙ ap (map (kind_in pool)) c.as_slice.ensures))
    c.put_kinds.ensures)
