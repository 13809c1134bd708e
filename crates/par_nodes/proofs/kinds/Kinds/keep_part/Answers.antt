use Rattle.std.proofs.Common.{rules, ap, ◌∙◌}
use Rattle.std.proofs.lemmas.Result.{on_ok_weaker}
use Rattle.par_nodes.specs.Seen.{seen_absorber}
use Rattle.par_nodes.specs.Possible.{among, apart, either}
use Rattle.par_nodes.proofs.Completing.{part_kept}
use Rattle.par_nodes.proofs.kinds.Kinds.keep_part.Goals as goal

pub returns : goal.returns
returns c =
    let a = seen_absorber c.args.absorber.now in
    let part = c.part.inside in
    on_ok_weaker c.keep_all-2.result
    (λ e. part_kept a part.is_normal part.others c.as_slice-others.result.now
    (among c.args.self.now) (among c.keep.new.self) (among c.keep_all-2.new.self)
    (search rules) c.as_slice-others.ensures c.in_ok-keep.ensures e
    ∙ ap (λ l. either (among c.args.self.now) (apart a (among l))) c.part.view_is)
    c.keep_all-2.ensures
