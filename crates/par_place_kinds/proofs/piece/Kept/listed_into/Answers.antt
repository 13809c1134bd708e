use Rattle.std.proofs.Common.{sym}
use Rattle.par_place_kinds.specs.Marks.{names, kinds_of}
use Rattle.par_place_kinds.proofs.Numbered.{all_listed}
use Rattle.par_place_kinds.proofs.piece.Kept.listed_into.Goals as goal

pub returns-then-fits_at_once : goal.returns-then-fits_at_once
returns-then-fits_at_once c =
    sym (all_listed (names c.args.exceptions.now) (kinds_of c.args.self.now)
    (kinds_of c.args.other.now) (c.fits_at_once.ensures c.if-fits_at_once.true))
