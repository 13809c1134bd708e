use Rattle.std.proofs.Common.{ap, ◌∙◌}
use Rattle.std.proofs.lemmas.Result.{on_ok_weaker}
use Rattle.par_program_laws.specs.Kinds.{same}
use Rattle.par_nodes.specs.Seen.{seen_kind}
use Rattle.par_nodes.specs.Possible.{among, either}
use Rattle.par_nodes.proofs.Completing.{other_added}
use Rattle.par_nodes.proofs.kinds.Kinds.add.Goals as goal

pub returns : goal.returns
returns c =
    let held = c.self.inside in
    on_ok_weaker c.hold.result
    (λ e. other_added held.is_normal held.others c.hold.new.kinds (seen_kind c.args.kind) e
    ∙ ap (λ l. either (among l) (same (seen_kind c.args.kind))) c.self.view_is)
    c.hold.ensures
