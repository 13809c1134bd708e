use Rattle.std.proofs.Common.{ap, sym, ◌∙◌}
use Rattle.par_nodes.specs.Seen.{seen_kind}
use Rattle.par_nodes.specs.Possible.{among}
use Rattle.par_nodes.proofs.Completing.{held, pushed}
use Rattle.par_nodes.proofs.kinds.hold.Goals as goal

pub returns-then-among : goal.returns-then-among
returns-then-among c =
    held (seen_kind c.args.kind) (among c.args.kinds.now)
    (ap (λ ks. among ks (seen_kind c.args.kind)) (sym c.as_slice.ensures) ∙ sym c.among.ensures
    ∙ c.if-among.true)

pub returns : goal.returns
returns c = pushed c.args.kinds.now c.push.new.self c.args.kind c.in_ok-push.ensures.ok
