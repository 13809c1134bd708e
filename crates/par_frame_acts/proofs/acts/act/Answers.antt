use Rattle.std.specs.Prelude.{option_map}
use Rattle.par_single.specs.Descriptors.{kind_of}
use Rattle.par_frame_steps.specs.par_kinds.Shapes.{shape_at}
use Rattle.par_frame_acts.proofs.Indexless.{made-at}
use Rattle.par_frame_acts.proofs.acts.act.Goals as goal

pub returns-in_default : goal.returns-in_default
returns-in_default c =
    made-at c.indexless.result (option_map kind_of c.args.gives) c.args.instr
    (shape_at c.args.linked.now c.args.class) c.indexless.ensures
