use Rattle.std.proofs.Common.{◌∙◌, sym}
use Rattle.par_grammar.proofs.Run.{run_finish, run_finish_differs}
use Rattle.par_reader.specs.Reads.{input}
use Rattle.par_reader.proofs.cursor.Cursor.finish.Goals as goal

pub returns-then-sees : goal.returns-then-sees
returns-then-sees g c =
    let at_end = sym c.sees.ensures ∙ c.if-sees.true in
    record {
      ok =
          λ s vs. run_finish g.L.Language.grammar g.L.Language.founded s
          (input c.args.self.now) vs at_end;
      err = tt;
    }

pub returns-else-sees : goal.returns-else-sees
returns-else-sees g c =
    let not_at_end = sym c.sees.ensures ∙ c.if-sees.false in
    record {
      ok = tt;
      err =
          λ told s vs. run_finish_differs g.L.Language.grammar g.L.Language.founded s
          (input c.args.self.now) vs not_at_end;
    }
