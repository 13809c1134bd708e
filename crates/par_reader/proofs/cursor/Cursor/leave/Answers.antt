use Rattle.std.proofs.Common.{ap, ◌∙◌, sym, ℕ}
use Rattle.par_grammar.proofs.Run.{run, run_leaves}
use Rattle.par_reader.specs.Reads.{input}
use Rattle.par_reader.proofs.cursor.Cursor.leave.Goals as goal

pub returns-clause-read : goal.returns-clause-read
returns-clause-read g c s vs =
    run_leaves g.L.Language.grammar g.L.Language.founded s (input c.args.self.now) vs
    ∙ ap (λ (n : ℕ). run g.L.Language.grammar g.L.Language.founded s
    (record (input c.args.self.now) { blocks = n }) vs) (sym c.saturating_sub-self.ensures)
