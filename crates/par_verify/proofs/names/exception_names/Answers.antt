use Rattle.std.proofs.Common.{◌<◌, ◌≤◌, [], ◌∷◌, codes, length, get_or, sym, ap, subst, ◌∙◌}
use Rattle.par_frame_steps.specs.Marks.{names}
use Rattle.par_verify.proofs.Naming.{names_step, names_done}
use Rattle.par_verify.proofs.names.exception_names.Goals as goal

pub loop-file-preserved : goal.loop-file-preserved
loop-file-preserved c =
    let at = c.loop-file.file-index in
    let f = c.file-item.result in
    names_step c.args.linked.now at f (names c.loop-file.all.items) (names c.in_ok-all.all.items) _
    (subst (λ fs. at < length fs) c.files-file-items.ensures c.loop-file-test.true)
    (ap (λ fs. get_or fs at f) (sym c.files-file-items.ensures) ∙ sym c.file-item.is)
    c.in_ok-all.ensures c.loop-file.invariant

pub returns : goal.returns
returns c =
    let at = c.loop-file.file-index in
    names_done c.args.linked.now at c.loop-file.all.items c.push.new.self.items
    c.push-2.new.self.items c.as_slice.result c.as_slice-2.result
    (subst (λ fs. length fs ≤ at) c.files-file-items.ensures c.loop-file-test.false)
    (subst (λ fs. at ≤ length fs) c.files-file-items.ensures c.loop-file.auto.file-index-end)
    c.in_ok-push.ensures.items c.in_ok-push-2.ensures.items
    (ap (λ n. n ∷ c.as_slice-2.result.now ∷ []) c.as_slice.ensures
    ∙ ap (λ n. codes "ArithmeticException" ∷ n ∷ []) c.as_slice-2.ensures)
    c.loop-file.invariant
