use Rattle.par_given_frames.specs.Named.{GivesFrames}
use Rattle.par_given_frames.proofs.Handed.{decided}
use Rattle.par_given_frames.proofs.methods.gives_frames.Goals as goal

pub returns : goal.returns
returns c =
    rw c.read_or.ensures
    (decided (GivesFrames c.args.file.now c.args.m.now c.args.code.now) c.spells_frames.result
    c.spells_frames.ensures)
