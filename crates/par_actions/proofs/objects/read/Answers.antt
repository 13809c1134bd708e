use Rattle.std.proofs.Common.{length, ap, ◌∙◌, arith}
use Rattle.par_stack.specs.Frames.{running}
use Rattle.par_actions.proofs.Reading.{read_5, read_7, read_runs}
use Rattle.par_actions.proofs.objects.read.Goals as goal

pub replace-requires-clause-there : goal.replace-requires-clause-there
replace-requires-clause-there c = omega (arith, ap length c.requires.last.is)

pub returns-then-not-ahead-clause-done : goal.returns-then-not-ahead-clause-done
returns-then-not-ahead-clause-done c = λ classes spot program f is fit same at.
    read_5 classes spot program (running c.args.stack.now) f c.args.field is at.room c.args.class
    c.args.n c.requires.last fit c.args.heap.now same (at.stands ∙ c.if-not-ahead.true)

pub returns-then-field-clause-done : goal.returns-then-field-clause-done
returns-then-field-clause-done c = λ classes spot program f is fit same at.
    read_7 classes spot program (running c.args.stack.now) f c.args.field is at.room c.args.class
    c.args.n c.requires.last fit c.args.heap.now same
    (at.stands ∙ c.if-not-ahead.false) c.if-field.true

pub returns-clause-done : goal.returns-clause-done
returns-clause-done c = λ classes spot program f is fit same at.
    rw (c.replace.ensures, c.held.ensures)
    (read_runs classes spot program
    (running c.args.stack.now) f c.args.field is at.room c.args.class c.args.n c.requires.last fit
    c.args.heap.now same (at.stands ∙ c.if-not-ahead.false)
    c.if-field.false)
