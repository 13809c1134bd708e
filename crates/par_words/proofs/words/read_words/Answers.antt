use Rattle.std.proofs.Common.{sym, ap, ◌∙◌, codes}
use Rattle.clap.specs.Words.{all_of}
use Rattle.par_words.proofs.Asking.{no_values}
use Rattle.par_words.proofs.words.read_words.Goals as goal

pub returns : goal.returns
returns c =
    λ _ w asks. no_values c.args.which _ w
    (sym (c.in-None.ensures ∙ ap (all_of (codes "values")) c.in_ok-matches.ensures.found)) asks.1
