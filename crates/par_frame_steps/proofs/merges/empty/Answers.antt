use Rattle.std.proofs.Common.{◌∙◌}
use Rattle.par_frame_steps.proofs.Merged.{merges_more, merge_of_none}
use Rattle.par_frame_steps.proofs.merges.empty.Goals as goal

pub loop-merge-preserved : goal.loop-merge-preserved
loop-merge-preserved c =
    let merge = c.in_ok-of.field-0 in
    let is = c.in_ok-of.ensures in
    let none = c.in_ok-nothing.ensures in
    λ exc. rw c.in_ok-push.ensures.items (merges_more exc c.loop-merge.all.items merge
    (c.loop-merge.invariant exc)
    (merge_of_none exc merge (is.one ∙ none) (is.other ∙ none) (is.least ∙ none)))
