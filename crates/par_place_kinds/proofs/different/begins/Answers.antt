use Rattle.std.proofs.Common.{◌≡◌, ℕ, ◌<◌, ◌++◌, ◌∷◌, [], ◌∙◌, List, take, length, refl, ap, sym}
use Rattle.std.proofs.Common.{get_or, arith}
use Rattle.std.proofs.lemmas.List.{take_all, take-map, map_more}
use Rattle.par_kinds.specs.declared.frame.VKind.{VKind}
use Rattle.par_place_kinds.specs.declared.kind.PlaceKind.{PlaceKind}
use Rattle.par_place_kinds.specs.declared.kind.PlaceKind.TheVariants.{Top}
use Rattle.par_place_kinds.specs.Marks.{kind_of, kinds_of}
use Rattle.par_place_kinds.proofs.different.begins.Goals as goal

pub loop-place-preserved : goal.loop-place-preserved
loop-place-preserved c =
    let kinds = c.args.kinds.now in
    let others = c.args.others.now in
    let i = c.loop-place.place in
    let inside : i < length kinds =
    omega (arith, c.loop-place-test.true, c.if-others-kinds.false) in
    map_more kind_of kinds i Top inside
    ∙ ap (λ (ks : List VKind). ks ++ kind_of (get_or kinds i Top) ∷ []) c.loop-place.invariant
    ∙ ap (λ (k : VKind). kinds_of (take i others) ++ k ∷ []) (c.if-not-is_same.ensures refl)
    ∙ sym (map_more kind_of others i Top c.loop-place-test.true)

pub returns : goal.returns
returns c =
    let kinds = c.args.kinds.now in
    let others = c.args.others.now in
    let all : c.loop-place.place ≡ length others =
    omega (arith, c.loop-place-test.false, c.loop-place.auto.place-end) in
    λ seen. take-map kind_of (length others) kinds
    ∙ ap (λ (n : ℕ). kinds_of (take n kinds)) (sym all)
    ∙ c.loop-place.invariant
    ∙ ap (λ (ks : List PlaceKind). kinds_of ks)
    (take_all c.loop-place.place others c.loop-place-test.false)
