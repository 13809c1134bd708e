use Rattle.std.proofs.Common.{◌≡◌, ◌∙◌, sym, ap, subst, arith}
use Rattle.std.proofs.lemmas.Bool.{eqb-true}
use Rattle.par_envs.specs.Same.{policy}
use Rattle.par_envs.specs.Told.{told, IsFree}
use Rattle.par_envs.proofs.Same.{empty_is}
use Rattle.par_envs.proofs.Told.{tells, tells_more, tells_none}
use Rattle.par_envs.proofs.env.held_of.Goals as goal
use Rattle.par_envs.proofs.env.held_of.Goals.{then-not-is_same+in_ok-add, else-not-is_same}

pub loop-local-preserved : goal.loop-local-preserved
loop-local-preserved c =
    let env = c.args.policies.now in let k = c.loop-local.local in
    let hs = c.loop-local.held.items in let p = c.index-policies-local.result in
    elim c.if-not-is_same.branch [
      | then-not-is_same+in_ok-add w ↦
          let gs = w.add.new.held.items in
          record {
            tells =
                λ i s.
                tells_more env hs k p (omega arith) c.index-policies-local.is
                c.loop-local.invariant.tells gs w.in_ok-add.ensures.here w.in_ok-add.ensures.others
                i s ∙ ap (λ v. told v.items i) (sym w.held-is);
            free =
                λ i s.
                subst (λ v. IsFree v.items i) (sym w.held-is)
                (w.in_ok-add.ensures.free i (λ e. let b : ⊥ = omega (arith, s, e) in b)
                (c.loop-local.invariant.free i (omega (arith, s))));
          }
      | else-not-is_same w ↦
          let z : p ≡ 0 =
          eqb-true _ _ (sym c.is_same.ensures ∙ w.if-not-is_same.false)
          ∙ empty_is c.empty.result c.empty.ensures in
          record {
            tells =
                λ i s.
                tells_none env hs k p (omega arith) c.index-policies-local.is
                c.loop-local.invariant.tells z (c.loop-local.invariant.free k (omega arith)) i s
                ∙ ap (λ v. told v.items i) (sym w.held-is);
            free =
                λ i s.
                subst (λ v. IsFree v.items i) (sym w.held-is)
                (c.loop-local.invariant.free i (omega (arith, s)));
          }
    ]

pub returns : goal.returns
returns c = λ i.
    tells c.args.policies.now c.loop-local.held.items c.loop-local.local (omega arith)
    c.loop-local.invariant.tells c.loop-local.invariant.free i
    ∙ ap (λ l. told l i) (sym c.wrap.ensures)
