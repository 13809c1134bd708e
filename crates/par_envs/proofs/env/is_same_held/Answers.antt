use Rattle.std.proofs.Common.{◌≡◌, sym, ap, ◌∙◌}
use Rattle.std.proofs.lemmas.Bool.{eqb-true}
use Rattle.par_envs.specs.declared.env.Held.{Held}
use Rattle.par_envs.proofs.env.is_same_held.Goals as goal

pub returns-then-is_same : goal.returns-then-is_same
returns-then-is_same c = λ h.
    let one = c.args.one.now in let other = c.args.other.now in
    let p : one.policy ≡ other.policy =
    eqb-true _ _ (sym c.is_same.ensures ∙ c.if-is_same.true) in
    let l : one.locals ≡ other.locals = c.are_same_locals.ensures h in
    let f : Held → Held = λ x. record { policy = x.policy; locals = other.locals } in
    let first : one ≡ f one = ap (λ s. record { policy = one.policy; locals = s }) l in
    first ∙ ap (λ s. record { policy = s; locals = other.locals }) p
