-- Who makes what a builder builds reads the builder.
use Rattle.std.proofs.Common.{◌≡◌, ◌∷◌, [], ◌++◌, Ok, Err, Result, ap, sym, ◌∙◌}
use Rattle.par_grammar.specs.Grammar.{builds}
use Rattle.par_grammar.specs.Derivation.{Input}
use Rattle.par_grammar.proofs.Run.{run}
use Rattle.par_reader.specs.declared.error.ParseError.{ParseError}
use Rattle.par_tree.specs.declared.expr.Expr.{Expr}
use Rattle.par_tree.specs.Plain.{Exp}
use Rattle.par_tree.specs.Grammar.{Builders}
use Rattle.par_tree.specs.Values.{Values, paragon, built, exp}
use Rattle.par_tree.proofs.Founded.{founded}
use Rattle.par_tree.proofs.Rules.{run_built}
use Rattle.par_reader.specs.SourceLanguage.{Reads}
use Rattle.par_exprs.specs.Exprs.{tree, Makes}

pub made : (b : Builders) (old : Values) (x : Exp) (i : Input) (r : Result Expr ParseError)
    → Makes x r → ((vs : Values) → built b (old ++ vs) ≡ exp x ∷ vs)
    → Reads (builds b ∷ []) old tree i r i
made b old x i (Ok e) makes builds_it =
    record {
      ok = λ s vs. run_built s i (old ++ vs) b
          ∙ ap (run paragon founded s i) (builds_it vs ∙ ap (λ y. exp y ∷ vs) (sym makes));
      err = tt;
    }
made b old x i (Err e) makes builds_it = record { ok = tt; err = λ told s vs. absurd (told makes) }
