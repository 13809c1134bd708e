use Rattle.std.proofs.Common.{◌≡◌, ℕ, ◌<◌, false, List, [], length, get_or, sym, ap, subst, ◌∙◌}
use Rattle.par_policy.specs.declared.clauses.Clause.{Clause}
use Rattle.par_bits.specs.Sets.{has}
use Rattle.par_audit.specs.Rows.{IsRow}
use Rattle.par_audit.specs.Released.{is_released}
use Rattle.par_audit.proofs.Released.{where_none}
use Rattle.par_audit.proofs.known.Releases.is_released.Goals as goal

-- no policy of the set is released, by what is known
pub returns-then-within-clause-released : goal.returns-then-within-clause-released
returns-then-within-clause-released c =
    let table = c.self.inside.policies.now in
    let actor = c.self.inside.actor in
    let at = c.args.policy in
    let row = c.index.result.now in
    let less : at < length table =
    subst (λ (v : List (List Clause) × ℕ). at < length v.0) (sym c.self.view_is)
    c.requires.policy in
    let here : row ≡ get_or c.self.inside.rows.items at row =
    c.index.ensures ∙ ap (λ k. get_or c.self.inside.rows.items k row) c.from-place.ensures in
    let right : IsRow table actor (get_or table at []) row =
    subst (IsRow table actor (get_or table at [])) (sym here)
    (c.self.invariant.right at row less) in
    subst (λ (v : List (List Clause) × ℕ).
    false ≡ is_released v.0 (has c.args.set.now) (get_or v.0 at []) v.1) c.self.view_is
    (sym (where_none table (has c.args.set.now) actor (get_or table at []) (λ n inside held.
    right.kept n inside (c.within.ensures.0 c.if-within.true n held))))
