-- Faults behind one that is found before, and expressions without any.
use Rattle.std.proofs.Common.{◌≡◌, ℕ, ◌<◌, Bool, true, false, ◌||◌, ◌&&◌, List, [], ◌∷◌, All}
use Rattle.std.proofs.Common.{Option, Some, None, refl, sym, ap, ◌∙◌, subst, arith, fold}
use Rattle.std.specs.Prelude.{nat_lt, nat_eq, if◌then◌else◌}
use Rattle.std.proofs.lemmas.Bool.Decides.{nat_tests}
use Rattle.std.proofs.lemmas.List.Elements.{All-nil, All-cons, All-head, All-tail, All-append}
use Rattle.std.proofs.lemmas.List.Elements.{All-weaker}
use Rattle.par_typed.specs.par_policy.declared.clauses.Clause.{Clause}
use Rattle.par_tree.specs.declared.policy.PolicyExpr.{PolicyExpr}
use Rattle.par_refusals.specs.declared.refusal.Refusal.{Refusal}
use Rattle.par_refusals.specs.First.{comes_before, earlier, first_of}
use Rattle.par_resolved.specs.declared.limits.TheConstants.{CLAUSE_LIMIT, LOCK_LIMIT}
use Rattle.par_resolved.specs.Sets.{joined}
use Rattle.par_resolved.specs.Policies.{Known, term_values, value_of, fits, join_with, join_of}
use Rattle.par_resolved.specs.Sizes.{exceeded_by, form_faults, steps_faults, join_faults}
use Rattle.par_resolved.specs.Sizes.{expression_faults}

-- ---- faults behind another one

not_before : (f g : Refusal) → f.at < g.at → comes_before g f ≡ false
not_before f g h =
    let more = nat_lt g.rule f.rule || (nat_eq g.rule f.rule && nat_lt g.limit f.limit) in
    let apart : nat_lt g.at f.at ≡ false = grind (arith, nat_tests, h) in
    let other : nat_eq g.at f.at ≡ false = grind (arith, nat_tests, h) in
    ap (λ b. b || (nat_eq g.at f.at && more)) apart ∙ ap (λ b. b && more) other

kept : (f : Refusal) (gs : List Refusal) → All (λ g. f.at < g.at) gs
    → first_of (Some f) gs ≡ Some f
unfolding first_of
kept f [] all = refl
kept f (g ∷ gs) all =
    ap (λ b. fold earlier (if b then Some g else Some f) gs)
    (not_before f g (All-head (λ x. f.at < x.at) g gs all))
    ∙ kept f gs (All-tail (λ x. f.at < x.at) g gs all)

-- ---- the place of the faults of an expression

exceeded_at : (limit at : ℕ) (count : Option ℕ)
    → All (λ g. g.at ≡ at) (exceeded_by limit at count)
unfolding exceeded_by
exceeded_at limit at None = All-nil (λ g. g.at ≡ at)
exceeded_at limit at (Some count) = All-cons (λ g. g.at ≡ at) _ [] refl (All-nil (λ g. g.at ≡ at))

form_at : (at : ℕ) (p : List Clause) → All (λ g. g.at ≡ at) (form_faults at p)
form_at at p =
    All-append (λ g. g.at ≡ at) _ _ (exceeded_at CLAUSE_LIMIT at _) (exceeded_at LOCK_LIMIT at _)

steps_at : (at : ℕ) (p : List Clause) (qs : List (List Clause))
    → All (λ g. g.at ≡ at) (steps_faults at p qs)
unfolding steps_faults
steps_at at p [] = All-nil (λ g. g.at ≡ at)
steps_at at p (q ∷ qs) = in_case (fits (joined p q)) (steps_at at (joined p q) qs)
  where
    in_case : (b : Bool) → All (λ g. g.at ≡ at) (steps_faults at (joined p q) qs)
        → All (λ g. g.at ≡ at)
        (if b then steps_faults at (joined p q) qs else form_faults at (joined p q))
    in_case true later = later
    in_case false later = form_at at (joined p q)

joins_at : (at : ℕ) (ps : Option (List (List Clause))) → All (λ g. g.at ≡ at) (join_faults at ps)
unfolding join_faults
joins_at at None = All-nil (λ g. g.at ≡ at)
joins_at at (Some []) = All-nil (λ g. g.at ≡ at)
joins_at at (Some (p ∷ ps)) = steps_at at p ps

-- an expression behind what is found changes nothing
pub found_before : (k : Known) (e : PolicyExpr) (f : Refusal) → f.at < e.at
    → first_of (Some f) (expression_faults k e) ≡ Some f
found_before k e f h =
    kept f (expression_faults k e)
    (All-weaker (λ g. g.at ≡ e.at) (λ g. f.at < g.at) (λ g same. subst (λ n. f.at < n) (sym same) h)
    (expression_faults k e) (joins_at e.at (term_values k e.terms)))

-- ---- expressions that come to something

steps_fit : (at : ℕ) (p r : List Clause) (qs : List (List Clause)) → Some r ≡ join_with p qs
    → steps_faults at p qs ≡ []
unfolding join_with steps_faults
steps_fit at p r [] h = refl
steps_fit at p r (q ∷ qs) h = in_case (fits (joined p q)) h (steps_fit at (joined p q) r qs)
  where
    in_case : (b : Bool) → Some r ≡ (if b then join_with (joined p q) qs else None)
        → (Some r ≡ join_with (joined p q) qs → steps_faults at (joined p q) qs ≡ [])
        → (if b then steps_faults at (joined p q) qs else form_faults at (joined p q)) ≡ []
    in_case true so later = later so
    in_case false so later = absurd (cc so)

joins_fit : (at : ℕ) (r : List Clause) (ps : Option (List (List Clause))) → Some r ≡ join_of ps
    → join_faults at ps ≡ []
unfolding join_of join_faults
joins_fit at r None h = refl
joins_fit at r (Some []) h = refl
joins_fit at r (Some (p ∷ ps)) h = steps_fit at p r ps h

-- an expression that comes to something exceeds no limit
pub faultless : (k : Known) (e : PolicyExpr) (r : List Clause) → Some r ≡ value_of k e
    → expression_faults k e ≡ []
faultless k e r h = joins_fit e.at r (term_values k e.terms) h
