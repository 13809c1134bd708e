use Rattle.std.proofs.Common.{◌∙◌, ◌∷◌, [], ◌++◌, List, get_or, take, length, ap, sym}
use Rattle.std.proofs.lemmas.List.{take_more, map-append}
use Rattle.par_kinds.specs.declared.frame.VKind.{VKind}
use Rattle.par_place_kinds.specs.declared.kind.PlaceKind.{PlaceKind}
use Rattle.par_place_kinds.specs.declared.kind.PlaceKind.TheVariants.{Top}
use Rattle.par_place_kinds.specs.Marks.{kind_of, kinds_of}
use Rattle.par_place_kinds.proofs.Numbered.{below_more, number_more}
use Rattle.par_place_kinds.proofs.few.numbers_of.Goals as goal

pub loop-place-preserved : goal.loop-place-preserved
loop-place-preserved c =
    let all = c.args.kinds.now in
    let place = c.loop-place.place in
    let kind : PlaceKind = get_or all place Top in
    let before : List PlaceKind = take place all in
    let found = c.in-Some.ensures in
    let so_far = c.loop-place.invariant in
    let numbers = c.loop-place.numbers.items in
    rw c.in_ok-push.ensures.items (
      number_more c.args.found.now numbers c.in-Some.number (kind_of kind) found.1
          ∙ ap (λ (ks : List VKind). ks ++ kind_of kind ∷ []) so_far.0
          ∙ sym (map-append kind_of before (kind ∷ []))
          ∙ ap (λ (ks : List PlaceKind). kinds_of ks)
          (sym (take_more all place Top c.loop-place-test.true)),
      below_more (length c.args.found.now) numbers c.in-Some.number so_far.1 found.0,
    )
