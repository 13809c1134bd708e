use Rattle.std.proofs.Common.{Bool, ◌==◌, ◌&&◌, length, sym, ap, ◌∙◌}
use Rattle.std.specs.Prelude.{nat_le}
use Rattle.par_frame_steps.specs.Marks.{frame_of}
use Rattle.par_frame_guesses.specs.Methods.{code_in}
use Rattle.par_frame_passes.proofs.told_frames.can_stand.Goals as goal

pub returns-then-not-has : goal.returns-then-not-has
returns-then-not-has c = λ start told.
    let k = frame_of c.args.frame.now in
    let code = code_in c.args.method.now in
    sym (ap (λ (s : Bool). s && (length k.locals == code.max_locals)
    && nat_le (length k.stack) code.max_stack)
    (sym (told.starts c.args.at) ∙ sym c.has.ensures ∙ c.if-not-has.true))

pub returns : goal.returns
returns c = λ start told.
    let k = frame_of c.args.frame.now in
    let code = code_in c.args.method.now in
    c.is_filled.ensures
    ∙ sym (ap (λ (s : Bool). s && (length k.locals == code.max_locals)
    && nat_le (length k.stack) code.max_stack)
    (sym (told.starts c.args.at) ∙ sym c.has.ensures ∙ c.if-not-has.false))
