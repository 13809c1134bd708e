use Rattle.std.proofs.Common.{get_or, subst, sym, ap, ⊎_elim, ◌∙◌, arith}
use Rattle.std.specs.Prelude.{IsTrue, nat_eq}
use Rattle.std.proofs.lemmas.Bool.{or_cases, eqb-true, false≢true}
use Rattle.par_bits.specs.Sets.{has}
use Rattle.par_policy_calls.proofs.lattice.join_below.Goals as goal

pub loop-number-init : goal.loop-number-init
loop-number-init c n member = absurd (false≢true (sym (ap (λ p. p n) c.empty-set.ensures) ∙ member))

pub loop-number-preserved : goal.loop-number-preserved
loop-number-preserved c n member =
    let number = get_or c.args.numbers.now c.loop-number.number-index 0 in
    ⊎_elim (c.loop-number.invariant n)
    (λ same. let e = eqb-true n number same in
    omega (arith, e, c.from.ensures, c.if-from-table.false))
    (or_cases (has c.loop-number.set n) (nat_eq n number)
    (subst (λ p. IsTrue (p n)) c.with-set.ensures member))
