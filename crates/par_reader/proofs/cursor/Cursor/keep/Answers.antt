use Rattle.std.proofs.Common.{arith, ◌∙◌, sym}
use Rattle.std.proofs.lemmas.Grind.{common_steps}
use Rattle.par_grammar.proofs.Run.{run_kept, run_kept_differs, run_kept_at_end}
use Rattle.par_reader.specs.Reads.{input}
use Rattle.par_reader.proofs.cursor.Cursor.keep.Goals as goal

pub returns-then-not-sees-clause-read : goal.returns-then-not-sees-clause-read
returns-then-not-sees-clause-read g c =
    let other_sort = sym c.sees.ensures ∙ c.if-not-sees.true in
    record {
      ok = tt;
      err =
          λ told s vs. run_kept_differs g.L.Language.grammar g.L.Language.founded s
          (input c.args.self.now) vs c.args.sort other_sort;
    }

pub returns-in_default-clause-read : goal.returns-in_default-clause-read
returns-in_default-clause-read g c =
    let same_sort = sym c.sees.ensures ∙ c.if-not-sees.false in
    record {
      ok = tt;
      err =
          λ told s vs. run_kept_at_end g.L.Language.grammar g.L.Language.founded s
          (input c.args.self.now) vs c.args.sort same_sort (grind (arith, common_steps));
    }

pub returns-clause-read : goal.returns-clause-read
returns-clause-read g c =
    let same_sort = sym c.sees.ensures ∙ c.if-not-sees.false in
    record {
      ok =
          λ s vs. run_kept g.L.Language.grammar g.L.Language.founded s (input c.args.self.now) vs
          c.args.sort _ c.in-Some.left.now c.in-Some.ensures.cases.0 same_sort;
      err = tt;
    }
