use Rattle.std.specs.Prelude.{option_map}
use Rattle.par_single.specs.Descriptors.{kind_of}
use Rattle.par_frame_acts.proofs.Indexless.{plain-made}
use Rattle.par_frame_acts.proofs.acts.indexless.Goals as goal

pub returns-in_default : goal.returns-in_default
returns-in_default c =
    plain-made c.work.result (option_map kind_of c.args.gives) c.args.instr c.requires
    c.work.ensures
