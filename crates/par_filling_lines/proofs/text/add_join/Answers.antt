use Rattle.std.proofs.Common.{◌++◌, ◌∷◌, ℕ, List, refl, sym, ap, ◌∙◌, arith}
use Rattle.std.specs.Prelude.{codes}
use Rattle.par_event_lines.specs.Texts.{Text}
use Rattle.par_filling_lines.specs.Texts.{policy_text, join_text}
use Rattle.par_filling_lines.proofs.Joined.{joined-all}
use Rattle.par_filling_lines.proofs.text.add_join.Goals as goal

pub returns : goal.returns
returns c =
    let t = c.args.table.now in
    let old : Text = c.args.text.now.items in
    let all =
    joined-all (codes " * ") (policy_text t) c.in-Some.first.now c.in-Some.rest.now
    (c.in-Some.first.now ∷ c.in-Some.rest.now) old _ _ c.loop-number.number-index refl
    c.in_ok-add_policy.ensures
    c.loop-number.invariant (omega (arith, c.loop-number-test.false)) in
    all ∙ ap (λ (ns : List ℕ). old ++ join_text t ns) (sym c.in-Some.ensures.cases.0)
