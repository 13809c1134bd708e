use Rattle.std.proofs.Common.{◌∙◌}
use Rattle.par_words.specs.Commands.{texts}
use Rattle.par_words.proofs.Parsed.{taken_so, rows_so, refused_so}
use Rattle.par_words.proofs.commands.taken.Goals as goal

pub returns-in-Ok-clause-taken : goal.returns-in-Ok-clause-taken
returns-in-Ok-clause-taken c =
    taken_so c.args.which _ c.in_ok-command.ensures
    (texts c.args.words.now) c.in-Ok.matches c.in-Ok.ensures.kinds

pub returns-in-Ok-clause-found : goal.returns-in-Ok-clause-found
returns-in-Ok-clause-found c =
    rows_so c.args.which _ c.in_ok-command.ensures
    (texts c.args.words.now) c.in-Ok.matches c.in-Ok.ensures.matches

pub returns : goal.returns
returns c = record {
  taken = tt;
  found = tt;
  refused =
      λ _. refused_so c.args.which _ c.in_ok-command.ensures
      (texts c.args.words.now) c.in-Err.error c.in-Err.ensures.kinds
      (λ memory. c.in_default.not-OutOfMemory (c.kind.ensures ∙ memory));
}
