use Rattle.std.proofs.Common.{refl}
use Rattle.par_class.specs.Spelling.{layout}
use Rattle.par_class.specs.Writing.{layout_of}
use Rattle.par_class.proofs.Files.{one_file}
use Rattle.par_class.proofs.Written.{written_spells}
use Rattle.par_class.proofs.laws.written_is_read_again.Goals as goal

pub returns : goal.returns
returns c =
    λ bytes file other there read. one_file (layout (layout_of file)) other file read
    (written_spells bytes file (layout (layout_of file)) there refl)
