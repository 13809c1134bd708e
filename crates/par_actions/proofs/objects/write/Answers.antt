use Rattle.std.proofs.Common.{length, ap, ◌∙◌, arith}
use Rattle.par_values.specs.Areas.{set_field}
use Rattle.par_stack.specs.Frames.{running}
use Rattle.par_actions.proofs.Writing.{written_shown, write_5, write_7, write_runs}
use Rattle.par_actions.proofs.objects.write.Goals as goal

pub pop-requires : goal.pop-requires
pop-requires c = omega (arith, ap length c.requires.last.is)

pub returns-then-not-ahead-clause-done : goal.returns-then-not-ahead-clause-done
returns-then-not-ahead-clause-done c = λ classes spot program f is fit own same at.
    record {
      after = program;
      shown = same;
      comes =
          write_5 classes spot program
          (running c.args.stack.now) f c.args.field is at.room c.args.object.class c.args.object.n
          c.args.value c.requires.last fit own (at.stands ∙ c.if-not-ahead.true);
    }

pub returns-then-field-clause-done : goal.returns-then-field-clause-done
returns-then-field-clause-done c = λ classes spot program f is fit own same at.
    record {
      after = program;
      shown = same;
      comes =
          write_7 classes spot program
          (running c.args.stack.now) f c.args.field is at.room c.args.object.class c.args.object.n
          c.args.value c.requires.last fit own (at.stands ∙ c.if-not-ahead.false) c.if-field.true;
    }

pub returns-clause-done : goal.returns-clause-done
returns-clause-done c = λ classes spot program f is fit own same at.
    record {
      after = set_field c.args.object.class c.args.object.n c.args.field.place c.args.value program;
      shown =
          rw c.set.ensures.written
          (written_shown program c.args.heap.now same c.args.object.class c.args.object.n
          c.args.field.place c.args.value);
      comes =
          rw c.pop.ensures
          (write_runs classes spot program
          (running c.args.stack.now) f c.args.field is at.room c.args.object.class c.args.object.n
          c.args.value c.requires.last fit own (at.stands ∙ c.if-not-ahead.false) c.if-field.false);
    }
