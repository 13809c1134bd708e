use Rattle.std.proofs.Common.{subst, sym, ◌∙◌}
use Rattle.par_lines.specs.Lines.{channels_of}
use Rattle.par_method_area.specs.Area.{KnowsLines}
use Rattle.par_machine.specs.Objects.{AreObjects}
use Rattle.par_machine.proofs.Begun.{begun, first_sound, no_objects_are}
use Rattle.par_machine.proofs.start.begin.Goals as goal

pub returns-clause-state : goal.returns-clause-state
returns-clause-state c =
    begun c.args.area.now.files c.args.main c.main_of.result
    (record {
      stack = c.in_ok-stack.stack;
      statics = c.in_ok-statics.statics;
      heap = c.new.result;
      lines = c.in_ok-lines.lines;
    })
    c.args.inputs c.main_of.ensures c.in_ok-stack.ensures
    (c.in_ok-statics.ensures ∙ c.first_statics.ensures) c.new.ensures c.in_ok-lines.ensures

pub returns-clause-sound : goal.returns-clause-sound
returns-clause-sound c = record {
  frames = first_sound c.args.area.now.files c.args.main c.main_of.result c.in_ok-stack.stack
      c.main_of.ensures c.in_ok-stack.ensures;
  objects = subst (AreObjects c.args.area.now.files) (sym c.new.ensures)
      (no_objects_are c.args.area.now.files);
  lines = subst (λ lines. KnowsLines c.args.area.now (channels_of lines))
      (sym c.in_ok-lines.ensures) c.requires.lines;
}
