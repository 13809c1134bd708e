use Rattle.std.proofs.Common.{◌++◌, ◌∷◌, ℕ, List, map, refl, sym, ap, ◌∙◌, arith}
use Rattle.std.specs.Prelude.{codes}
use Rattle.std.proofs.lemmas.List.{append_assoc}
use Rattle.par_event_lines.specs.Texts.{Text}
use Rattle.par_trace.specs.Texts.{lock_text}
use Rattle.par_filling_lines.specs.Texts.{joined_by, locks_text}
use Rattle.par_filling_lines.proofs.Joined.{joined-all}
use Rattle.par_filling_lines.proofs.text.add_locks.Goals as goal

pub returns : goal.returns
returns c =
    let t = c.args.table.now in
    let old : Text = c.args.text.now.items in
    let locks : List ℕ = c.in-Some.first.now ∷ c.in-Some.rest.now in
    let all =
    joined-all (codes ", ") (lock_text t) c.in-Some.first.now c.in-Some.rest.now
    locks (old ++ codes " ") _ _ c.loop-lock.lock-index refl
    (c.in_ok-add_lock.ensures
    ∙ ap (λ (s : Text). s ++ lock_text t c.in-Some.first.now)
    c.in_ok-extend_from_slice.ensures.items)
    c.loop-lock.invariant (omega (arith, c.loop-lock-test.false)) in
    all ∙ append_assoc old (codes " ") (joined_by (codes ", ") (map (lock_text t) locks))
    ∙ ap (λ (ls : List ℕ). old ++ locks_text t ls) (sym c.in-Some.ensures.cases.0)
