use Rattle.std.proofs.Common.{Some, None, ◌∙◌, ap}
use Rattle.clap.specs.Words.{found_of, first_value}
use Rattle.par_words.proofs.Parsed.{flag_so}
use Rattle.par_words.proofs.commands.has_flag.Goals as goal

pub returns-in-Some : goal.returns-in-Some
returns-in-Some c =
    c.eq.ensures ∙ flag_so c.args.flag (found_of c.args.matches.now) (Some c.in-Some.text.now)
    (c.in-Some.ensures ∙ ap (first_value (found_of c.args.matches.now)) c.name.ensures)

pub returns-in-None : goal.returns-in-None
returns-in-None c =
    flag_so c.args.flag (found_of c.args.matches.now) None
    (c.in-None.ensures ∙ ap (first_value (found_of c.args.matches.now)) c.name.ensures)
