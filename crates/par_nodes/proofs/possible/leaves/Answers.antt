use Rattle.std.proofs.Common.{ap, sym, ◌∙◌}
use Rattle.par_program_laws.specs.Kinds.{same}
use Rattle.par_nodes.specs.Seen.{seen_kind}
use Rattle.par_nodes.specs.Possible.{among, either, if_so}
use Rattle.par_nodes.proofs.possible.leaves.Goals as goal

pub returns-in_ok-add : goal.returns-in_ok-add
returns-in_ok-add c =
    c.in_ok-add.ensures ∙ ap (λ b. either (among c.args.kinds.now)
    (if_so b (same (seen_kind c.args.kind)))) (sym c.if-comes.true)
