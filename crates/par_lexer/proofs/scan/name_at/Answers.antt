use Rattle.std.proofs.Common.{◌≡◌, List, ℕ, IsTrue, take, subst, sym, ap, ◌∙◌, arith}
use Rattle.std.specs.List.{prefix_len}
use Rattle.par_base.specs.Names.{goes_on, is_spelled}
use Rattle.par_lexer.proofs.Prefixes.{spelled_run}
use Rattle.par_lexer.proofs.scan.name_at.Goals as goal

pub kind_of-requires : goal.kind_of-requires
kind_of-requires c =
    let run : c.split_at.result.0.now
    ≡ take (prefix_len goes_on c.args.bytes.now) c.args.bytes.now =
    c.split_at.ensures.front ∙ ap (λ n. take n c.args.bytes.now) c.name_length.ensures.run in
    let Spelled : List ℕ → Type 0 = λ text. IsTrue (is_spelled text) in
    record {
      spelled = subst Spelled (sym run) (spelled_run c.args.bytes.now c.requires);
      short = omega arith;
    }
