use Rattle.std.proofs.Common.{◌≡◌, List, sym, subst}
use Rattle.par_values.specs.Areas.{Name}
use Rattle.par_kinds.specs.Passes.{merge_all}
use Rattle.par_frame_steps.specs.Marks.{kinds_of}
use Rattle.par_frame_steps.proofs.Merged.{merges_set}
use Rattle.par_frame_steps.proofs.merges.Merges.put.Goals as goal

pub invariant_of-self : goal.invariant_of-self
invariant_of-self c =
    let m = c.args.merge in
    let is = subst
    (λ (exc : List Name). kinds_of m.least ≡ merge_all exc (kinds_of m.one) (kinds_of m.other))
    (sym c.self.view_is) c.requires in
    merges_set _ c.self.inside.kept.items c.args.at m c.self.invariant is
