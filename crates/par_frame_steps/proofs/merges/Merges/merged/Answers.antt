use Rattle.std.proofs.Common.{◌∙◌, sym, ap}
use Rattle.std.proofs.lemmas.Result.{IfOk-weaker}
use Rattle.par_frame_steps.specs.Marks.{names, kinds_of}
use Rattle.par_frame_steps.proofs.Piled.{merge_into}
use Rattle.par_frame_steps.proofs.merges.Merges.merged.Goals as goal

pub returns-then-fits_into-clause-least : goal.returns-then-fits_into-clause-least
returns-then-fits_into-clause-least c =
    let fits = sym c.fits_into.ensures ∙ c.if-fits_into.true in
    IfOk-weaker c.share.result _ _
    (λ piece is. ap (λ ks. kinds_of ks) is
    ∙ merge_into (names c.args.exceptions.now) c.args.one.now c.args.other.now fits)
    c.share.ensures
