use Rattle.std.proofs.Common.{◌≡◌, ◌+◌, ◌<◌, true, false, cond, ◌∷◌, [], ◌++◌, length, take, Some}
use Rattle.std.proofs.Common.{is_some, sym, ap, ◌∙◌, arith}
use Rattle.std.proofs.lemmas.Grind.{common_steps}
use Rattle.std.specs.List.{position, list_any}
use Rattle.std.specs.HashMap.{get}
use Rattle.par_index.proofs.Places.{position-is_some}
use Rattle.par_index.proofs.FirstPlaces.{place-seen, place-new}
use Rattle.par_index.proofs.firsts.Firsts.of.Goals.{then-not-contains_key+in_ok-insert}
use Rattle.par_index.proofs.firsts.Firsts.of.Goals.{else-not-contains_key}
use Rattle.par_index.proofs.firsts.Firsts.of.Goals as goal

pub loop-place-preserved : goal.loop-place-preserved
loop-place-preserved g c =
    let x = c.index-items-place.result in
    let i = c.loop-place.place in
    let xs = c.args.items.now in
    let laws = g.met.K.Eq.laws in
    let within : i < length xs = omega arith in
    let more : take (i + 1) xs ≡ take i xs ++ x ∷ [] =
    grind (arith, common_steps, c.index-items-place.is) in
    let there : c.contains_key.result ≡ list_any (g.K.PartialEq.eq x) (take i xs) =
    c.contains_key.ensures ∙ ap is_some (c.loop-place.invariant x)
    ∙ position-is_some (g.K.PartialEq.eq x) (take i xs) in
    elim c.if-not-contains_key.branch [
      | else-not-contains_key w ↦
          let seen : list_any (g.K.PartialEq.eq x) (take i xs) ≡ true =
          sym there ∙ w.if-not-contains_key.false in
          λ q.
          ap (λ m. get g.K.PartialEq.eq m q) w.places-is ∙ c.loop-place.invariant q
          ∙ sym (place-seen laws (take i xs) x q seen)
          ∙ ap (position (g.K.PartialEq.eq q)) (sym more)
      | then-not-contains_key+in_ok-insert w ↦
          let new : list_any (g.K.PartialEq.eq x) (take i xs) ≡ false =
          sym there ∙ w.if-not-contains_key.true in
          let many : length (take i xs) ≡ i = grind (arith, common_steps) in
          λ q.
          ap (λ m. get g.K.PartialEq.eq m q) w.places-is ∙ w.in_ok-insert.ensures.updates.0 q
          ∙ ap (cond (g.K.PartialEq.eq x q) (Some i)) (c.loop-place.invariant q)
          ∙ ap (λ n. cond (g.K.PartialEq.eq x q) (Some n)
          (position (g.K.PartialEq.eq q) (take i xs))) (sym many)
          ∙ sym (place-new laws (take i xs) x q new) ∙ ap (position (g.K.PartialEq.eq q)) (sym more)
    ]

pub returns : goal.returns
returns g c =
    let i = c.loop-place.place in
    let xs = c.args.items.now in
    let all : take i xs ≡ xs = grind (arith, common_steps) in
    λ q. c.loop-place.invariant q ∙ ap (position (g.K.PartialEq.eq q)) all
