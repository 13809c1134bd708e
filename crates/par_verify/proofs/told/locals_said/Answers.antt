use Rattle.std.proofs.Common.{◌++◌, map, ap, ◌∙◌}
use Rattle.std.proofs.lemmas.Result.{IfOk-weaker}
use Rattle.par_frame_steps.specs.Marks.{kinds_of}
use Rattle.par_verify.specs.Said.{kind_in}
use Rattle.par_verify.proofs.Saying.{all_said, more_said, left_said}
use Rattle.par_verify.proofs.told.locals_said.Goals as goal

pub returns-in-Cut : goal.returns-in-Cut
returns-in-Cut c =
    rw c.in-Cut.is
    (IfOk-weaker c.cut.result _ _
    (λ left is. left_said c.in-Cut.many c.args.listed left is) c.cut.ensures)

pub returns-in-More : goal.returns-in-More
returns-in-More c =
    let pool = c.args.entries.now in
    let listed = kinds_of c.args.listed in
    rw c.in-More.is
    (IfOk-weaker c.put_kinds.result _ _
    (λ all is. more_said pool listed c.in-More.types (kinds_of all)
    (is ∙ ap (λ ts. listed ++ map (kind_in pool) ts) c.as_slice.ensures))
    c.put_kinds.ensures)

pub returns-in-Full : goal.returns-in-Full
returns-in-Full c =
    let pool = c.args.entries.now in
    rw c.in-Full.is
    (IfOk-weaker c.put_kinds-in-Full.result _ _
    (λ all is. all_said pool c.in-Full.locals (kinds_of all)
    (is ∙ ap (λ ks. kinds_of ks ++ map (kind_in pool) c.as_slice-in-Full.result.now) c.new.ensures
    ∙ ap (map (kind_in pool)) c.as_slice-in-Full.ensures))
    c.put_kinds-in-Full.ensures)
