use Rattle.std.proofs.Common.{◌≡◌, ◌<◌, [], length, get_or, refl, rules, ◌∙◌, subst, sym, ap}
use Rattle.std.specs.Prelude.{IsTrue}
use Rattle.std.proofs.lemmas.Bool.{both_ways, false≢true}
use Rattle.std.proofs.lemmas.List.{get_or_default}
use Rattle.par_policy.specs.Order.{IsBelowAt}
use Rattle.par_policy.specs.par_bits.Sets.{has}
use Rattle.par_atoms.specs.Atoms.{members}
use Rattle.par_atoms.proofs.Listed.{join_below_iff}
use Rattle.par_atoms.proofs.atoms.Atoms.leq_at.Goals as goal

pub returns-then-not-leq_where : goal.returns-then-not-leq_where
returns-then-not-leq_where c =
    let table = c.args.policies.now in
    let number = c.loop-number.number in
    let open_locks = members c.args.locks.now in
    let member : IsTrue (has c.args.self.now number) = sym c.has.ensures ∙ c.if-has.true in
    let bound : c.from.result < length c.args.policies.now =
    subst (λ n. n < length c.args.policies.now) (sym c.from.ensures) (c.requires number member) in
    let at : c.index-policies-from.result ≡ get_or c.args.policies.now c.loop-number.number [] =
    c.index-policies-from.is ∙ get_or_default _ _ _ [] bound
    ∙ ap (λ n. get_or c.args.policies.now n []) c.from.ensures in (
      λ no. absurd (false≢true no),
      λ below.
          let each =
          (join_below_iff table c.args.self.now open_locks c.args.q.now).0 below number
          c.loop-number-test.true member in
          absurd (both_ways c.leq_where.result c.if-not-leq_where.true
          (c.leq_where.ensures.1 (subst (λ p. IsBelowAt p open_locks c.args.q.now) (sym at) each))),
    )

pub returns : goal.returns
returns c = (
  λ _.
      (join_below_iff c.args.policies.now c.args.self.now (members c.args.locks.now) c.args.q.now).1
      (λ n below member. c.loop-number.invariant n (search rules) member),
  λ _. refl,
)
