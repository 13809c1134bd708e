use Rattle.std.proofs.Common.{◌∙◌, sym}
use Rattle.std.proofs.lemmas.Result.{on_ok_weaker}
use Rattle.par_nodes.specs.Seen.{seen_absorber, seen_kind}
use Rattle.par_nodes.specs.Possible.{among}
use Rattle.par_nodes.proofs.Completing.{taken, left}
use Rattle.par_nodes.proofs.kinds.Kinds.keep.Goals as goal

pub returns-then-takes : goal.returns-then-takes
returns-then-takes c =
    taken (seen_absorber c.args.absorber.now) (seen_kind c.args.kind) (among c.args.self.now)
    (sym c.takes.ensures ∙ c.if-takes.true)

pub returns : goal.returns
returns c =
    on_ok_weaker c.add.result
    (λ e. e ∙ left (seen_absorber c.args.absorber.now) (seen_kind c.args.kind)
    (among c.args.self.now) (sym c.takes.ensures ∙ c.if-takes.false))
    c.add.ensures
