use Rattle.std.proofs.Common.{◌≡◌, ◌<◌, ◌≤◌, length, get_or, slice_get, Some, refl, ap, subst, ◌∙◌}
use Rattle.std.proofs.Common.{arith}
use Rattle.std.proofs.lemmas.Option.{slice_get_read}
use Rattle.par_link.proofs.Spread.{keeps-same, keeps-then, are-in-more}
use Rattle.par_link.proofs.channels.Channels.add_all.Goals as goal

pub loop-place-init : goal.loop-place-init
loop-place-init c =
    (keeps-same c.args.self.now.buckets.items, λ place m less is input. absurd (omega arith))

pub loop-place-preserved : goal.loop-place-preserved
loop-place-preserved c =
    let old = c.loop-place.self.buckets.items in
    let new = c.add.new.self.buckets.items in
    let file = c.args.file.now in
    let i = c.loop-place.place in
    let x = c.method-item.result in
    let within : i < length file.methods =
    subst (λ ms. i < length ms) c.as_slice-method-items.ensures c.loop-place-test.true in
    let is : x ≡ get_or file.methods i x =
    c.method-item.is ∙ ap (λ ms. get_or ms i x) c.as_slice-method-items.ensures in
    let there : slice_get file.methods i ≡ Some x =
    slice_get_read file.methods (length file.methods) i x refl within is in (
      keeps-then c.args.self.now.buckets.items old new c.loop-place.invariant.0
          c.in_ok-add.ensures.keeps,
      are-in-more old new c.args.class file i x c.in_ok-add.ensures.keeps c.loop-place.invariant.1
          there c.in_ok-add.ensures.added,
    )

pub returns-clause-added : goal.returns-clause-added
returns-clause-added c = λ place m less is input.
    let whole : length c.args.file.now.methods ≤ c.loop-place.place =
    subst (λ ms. length ms ≤ c.loop-place.place) c.as_slice-method-items.ensures
    c.loop-place-test.false in
    c.loop-place.invariant.1 place m (omega arith) is input
