use Rattle.std.proofs.Common.{◌≡◌, ℕ, ◌∙◌, List, length, take, ap}
use Rattle.std.proofs.lemmas.Result.{IfOk-weaker}
use Rattle.par_kinds.specs.Passes.{merge_all}
use Rattle.par_place_kinds.specs.declared.kind.PlaceKind.{PlaceKind}
use Rattle.par_frame_steps.specs.Marks.{names, kinds_of}
use Rattle.par_frame_steps.proofs.Parts.{merge_first}
use Rattle.par_frame_steps.proofs.pile.Pile.listed_merged.Goals as goal

pub returns : goal.returns
returns c =
    let exc = names c.args.exceptions.now in
    let xs = c.args.self.now in
    let ys = c.args.other.now in
    let one : c.in_ok-one.one ≡ take (length ys) xs =
    c.in_ok-one.ensures ∙ ap (λ (n : ℕ). take n xs) c.len.ensures in
    IfOk-weaker c.merged_first-least.result _ _
    (λ pile is. is
    ∙ ap (λ (ks : List PlaceKind). merge_all exc (kinds_of ks) (kinds_of (take c.len-2.result ys)))
    one
    ∙ ap (λ (n : ℕ). merge_all exc (kinds_of (take (length ys) xs)) (kinds_of (take n ys)))
    c.len-2.ensures
    ∙ merge_first exc xs ys)
    c.merged_first-least.ensures
