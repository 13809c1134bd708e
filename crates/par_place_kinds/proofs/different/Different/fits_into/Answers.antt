use Rattle.std.proofs.Common.{◌∙◌, List, sym, ap}
use Rattle.par_kinds.specs.declared.frame.VKind.{VKind}
use Rattle.par_kinds.specs.Passes.{all_into}
use Rattle.par_place_kinds.specs.Marks.{names}
use Rattle.par_place_kinds.proofs.Numbered.{all_same}
use Rattle.par_place_kinds.proofs.different.Different.fits_into.Goals as goal

pub returns-then-is_spelled_as : goal.returns-then-is_spelled_as
returns-then-is_spelled_as c =
    let exc = names c.args.exceptions.now in
    let same = c.is_spelled_as.ensures c.if-is_spelled_as.true in
    sym (all_same exc c.args.self.now)
    ∙ ap (λ (ks : List VKind). all_into exc c.args.self.now ks) same
