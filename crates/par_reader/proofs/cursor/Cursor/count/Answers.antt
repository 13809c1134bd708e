use Rattle.std.proofs.Common.{arith, length, ◌<◌}
use Rattle.std.proofs.lemmas.Bool.Decides.{nat_tests}
use Rattle.std.proofs.lemmas.Grind.{common_steps}
use Rattle.par_grammar.proofs.Run.{run_counts, run_counts_at_end, run_counts_too_deep}
use Rattle.par_reader.specs.Reads.{input}
use Rattle.par_reader.proofs.cursor.Cursor.count.Goals as goal

pub returns-then-is_empty-clause-read : goal.returns-then-is_empty-clause-read
returns-then-is_empty-clause-read g c =
    record {
      ok = tt;
      err =
          λ told s vs. run_counts_at_end g.L.Language.grammar g.L.Language.founded s
          (input c.args.self.now) vs (grind (arith, common_steps));
    }

pub returns-then-self-ge-DEEPEST-clause-read : goal.returns-then-self-ge-DEEPEST-clause-read
returns-then-self-ge-DEEPEST-clause-read g c =
    let some_left : 0 < length c.args.self.now.left.now = grind (arith, common_steps, nat_tests) in
    record {
      ok = tt;
      err =
          λ told s vs. run_counts_too_deep g.L.Language.grammar g.L.Language.founded s
          (input c.args.self.now) vs some_left c.if-self-ge-DEEPEST.true;
    }

pub returns-clause-read : goal.returns-clause-read
returns-clause-read g c =
    let some_left : 0 < length c.args.self.now.left.now = grind (arith, common_steps, nat_tests) in
    record {
      ok =
          λ s vs. run_counts g.L.Language.grammar g.L.Language.founded s
          (input c.args.self.now) vs some_left c.if-self-ge-DEEPEST.false;
      err = tt;
    }
