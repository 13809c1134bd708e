use Rattle.std.proofs.Common.{◌∙◌, List, refl, ap, subst, arith}
use Rattle.par_values.specs.Areas.{Name}
use Rattle.par_place_kinds.specs.declared.kind.PlaceKind.{PlaceKind}
use Rattle.par_frame_steps.specs.Marks.{kinds_of}
use Rattle.par_frame_steps.specs.Merged.{AreMerges}
use Rattle.par_frame_steps.proofs.Merged.{kept_least}
use Rattle.par_frame_steps.proofs.merges.Merges.least_at.Goals as goal

pub returns : goal.returns
returns c =
    let kept = c.self.inside.kept in
    let are =
    subst (λ (exc : List Name). AreMerges exc kept.items) c.self.view_is c.self.invariant in
    ap (λ (ks : List PlaceKind). kinds_of ks) c.in_ok-least.ensures
    ∙ kept_least c.args.self.now kept.items c.args.at c.index-merge.result.now c.args.one.now
    c.args.other.now are (omega (arith, c.if-at-len.false, c.len.ensures, kept.ok.0))
    c.index-merge.ensures (c.if-not-is_of.ensures.one refl) (c.if-not-is_of.ensures.other refl)
