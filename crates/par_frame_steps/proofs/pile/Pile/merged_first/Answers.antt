use Rattle.std.proofs.Common.{◌≡◌, ◌∙◌, List, length, ap, sym}
use Rattle.std.proofs.lemmas.Result.{IfOk-weaker}
use Rattle.par_kinds.specs.Passes.{merge_all}
use Rattle.par_place_kinds.specs.declared.kind.PlaceKind.{PlaceKind}
use Rattle.par_frame_steps.specs.Marks.{names, kinds_of}
use Rattle.par_frame_steps.proofs.pile.Pile.merged_first.Goals as goal

pub merged-least-requires : goal.merged-least-requires
merged-least-requires c =
    c.requires ∙ ap (λ (ks : List PlaceKind). length ks) (sym c.in_ok-first.ensures)

pub returns : goal.returns
returns c =
    let exc = names c.args.exceptions.now in
    IfOk-weaker c.merged-least.result _ _
    (λ pile is. is
    ∙ ap (λ (ks : List PlaceKind). merge_all exc (kinds_of c.args.self.now) (kinds_of ks))
    c.in_ok-first.ensures)
    c.merged-least.ensures
