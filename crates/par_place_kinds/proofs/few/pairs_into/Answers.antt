use Rattle.std.proofs.Common.{◌≡◌, ◌<◌, ◌∙◌, true, length, sym, refl, arith}
use Rattle.par_kinds.specs.Kinds.{into, kind_at}
use Rattle.par_place_kinds.specs.declared.few.Pair.{Pair}
use Rattle.par_place_kinds.specs.Marks.{names, kinds_of}
use Rattle.par_place_kinds.proofs.Numbered.{kept_fits, pair_more}
use Rattle.par_place_kinds.proofs.few.pairs_into.Goals as goal

pub loop-place-preserved : goal.loop-place-preserved
loop-place-preserved c =
    let exc = names c.args.exceptions.now in
    let ds = kinds_of c.args.mine.now in
    let es = kinds_of c.args.its.now in
    let before = c.loop-place.invariant in
    let inside : c.loop-place.place < length c.args.others.now =
    omega (arith, c.loop-place-test.true, c.if-numbers-others.false) in
    let more = pair_more exc ds es c.args.numbers.now c.args.others.now c.loop-place.place
    _ _ _ _ c.loop-place-test.true inside refl refl before.2 in
    let fits = λ (p : Pair). into exc (kind_at ds p.mine) (kind_at es p.its) ≡ true in
    elim c.if-not-is_kept.branch [
      | goal.then-not-is_kept+then-not-is_kept-2+else-not-pair_fits w ↦
          let fit = sym w.pair_fits.ensures ∙ w.if-not-pair_fits.false in
          rw (w.last-is, w.before-is) (fit, before.0, more fit)
      | goal.else-not-is_kept w ↦
          elim w.else-not-is_kept.branch [
            | goal.else-not-is_kept-via-then-not-is_kept+else-not-is_kept-2 w' ↦
                let is = w'.is_kept-then-not-is_kept.ensures w'.if-not-is_kept-2.false in
                rw (w.last-is, w.before-is)
                (before.0, before.1, more (kept_fits exc fits _ _ before.1 is))
            | goal.else-not-is_kept-via-else-not-is_kept w' ↦
                let is = c.is_kept.ensures w'.if-not-is_kept.false in
                rw (w.last-is, w.before-is)
                (before.0, before.1, more (kept_fits exc fits _ _ before.0 is))
          ]
    ]
