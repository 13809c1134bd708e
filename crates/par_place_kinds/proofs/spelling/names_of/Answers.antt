use Rattle.std.proofs.Common.{◌∙◌, ◌∷◌, [], ◌++◌, ℕ, List, get_or, take, ap, sym}
use Rattle.std.proofs.lemmas.List.{take_more, map-append}
use Rattle.par_kinds.specs.declared.frame.VKind.{VKind}
use Rattle.par_place_kinds.specs.declared.kind.PlaceKind.{PlaceKind}
use Rattle.par_place_kinds.specs.declared.kind.PlaceKind.TheVariants.{Top}
use Rattle.par_place_kinds.specs.Marks.{kind_of, kinds_of}
use Rattle.par_place_kinds.specs.Spelled.{name_of, names_of}
use Rattle.par_place_kinds.proofs.Spelled.{names_more}
use Rattle.par_place_kinds.proofs.spelling.names_of.Goals as goal

pub loop-kind-preserved : goal.loop-kind-preserved
loop-kind-preserved c =
    let all = c.args.kinds.now in
    let place = c.loop-kind.kind-index in
    let kind : PlaceKind = get_or all place Top in
    let before : List PlaceKind = take place all in
    let name = c.name_of.ensures in
    rw (c.in_ok-extend_from_slice.ensures.items, name) (
    ap (λ (bs : List ℕ). bs ++ name_of (kind_of kind)) c.loop-kind.invariant
    ∙ sym (names_more (kinds_of before) (kind_of kind))
    ∙ ap (λ (ks : List VKind). names_of ks) (sym (map-append kind_of before (kind ∷ [])))
    ∙ ap (λ (ks : List PlaceKind). names_of (kinds_of ks))
    (sym (take_more all place Top c.loop-kind-test.true)))
