use Rattle.std.proofs.Common.{◌≡◌, ◌<◌, ◌+◌, suc, true, false, ap, ◌∙◌, arith, refl, subst, sym}
use Rattle.std.proofs.Common.{length}
use Rattle.par_bits.specs.Sets.{has}
use Rattle.par_reached.specs.Reached.{set_at}
use Rattle.par_reached.proofs.Kept.{AreSoFar, starts, skips, passes, ends, by_cases}
use Rattle.par_reached.proofs.passes.reach.Goals as goal
use Rattle.par_reached.proofs.passes.reach.Goals.{then-over-lt256+then-has, else-over-lt256}
use Rattle.par_reached.proofs.passes.reach.Goals.{else-over-lt256-via-then-over-lt256+else-has}
use Rattle.par_reached.proofs.passes.reach.Goals.{else-over-lt256-via-else-over-lt256}

pub loop-over-init : goal.loop-over-init
loop-over-init c =
    record { size = refl; so_far = starts (has c.args.inferred.now) (set_at c.args.sets.now) }

pub returns-clause-least : goal.returns-clause-least
returns-clause-least c =
    let i = c.loop-over.invariant in
    ends (has c.args.inferred.now) (set_at c.args.sets.now) c.loop-over.over
    (set_at c.loop-over.sets) (set_at c.drop_from.new.sets)
    (λ k h. let r = c.requires k h in let s = i.size in omega (arith, r, s))
    i.so_far c.drop_from.ensures.rest

pub loop-over-preserved : goal.loop-over-preserved
loop-over-preserved c =
    let is = has c.args.inferred.now in
    let b = set_at c.args.sets.now in
    let m = c.loop-over.over in
    let s = c.loop-over.invariant.so_far in
    let e : suc m ≡ m + 1 = omega arith in
    let far : (is m ≡ true → m < 256 → ⊥) → is m ≡ false =
    λ n. by_cases (is m) (is m ≡ false)
    (λ t. let l = c.members_are_below.ensures m t in absurd (n t (omega (arith, l)))) (λ f. f) in
    elim c.if-over-lt256.branch [
      | then-over-lt256+then-has w ↦ record {
        size =
            let z = c.loop-over.invariant.size in let x = w.go_through.ensures.size in
            ap length w.sets-is ∙ x ∙ z;
        so_far =
            subst (λ k. AreSoFar is b k (set_at c.if-over-lt256.sets)) e
            (subst (λ ys. AreSoFar is b (suc m) (set_at ys)) (sym w.sets-is)
            (passes is b m (set_at c.loop-over.sets) (set_at w.go_through.new.sets)
            (sym w.has.ensures ∙ w.if-has.true) w.go_through.ensures.passed s));
      }
      | else-over-lt256 w ↦ record {
        size = ap length w.sets-is ∙ c.loop-over.invariant.size;
        so_far =
            subst (λ k. AreSoFar is b k (set_at c.if-over-lt256.sets)) e
            (subst (λ ys. AreSoFar is b (suc m) (set_at ys)) (sym w.sets-is)
            (skips is b m (set_at c.loop-over.sets)
            (elim w.else-over-lt256.branch [
              | else-over-lt256-via-then-over-lt256+else-has v ↦ sym v.has.ensures ∙ v.if-has.false
              | else-over-lt256-via-else-over-lt256 v ↦
                  far (λ t l. let x = v.if-over-lt256.false in omega (arith, x, l))
            ]) s));
      }
    ]
