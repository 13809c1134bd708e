-- What was read stays as it is where more is read.
use Rattle.std.proofs.Common.{◌≡◌, ℕ, zero, suc, List, [], ◌∷◌, ◌++◌, map, Option, Some, None}
use Rattle.std.proofs.Common.{Bool, true, false, if◌then◌else◌, refl, sym, ap, ◌∙◌, subst}
use Rattle.std.proofs.lemmas.List.Elements.{All-weaker, All-append, All-cons, All-nil}
use Rattle.par_typed.specs.par_policy.declared.clauses.Clause.{Clause}
use Rattle.par_tree.specs.declared.policy.PolicyTerm.{PolicyTerm}
use Rattle.par_tree.specs.declared.policy.PolicyTerm.TheVariants.{Clauses, Named, Bottom, Top}
use Rattle.par_tree.specs.declared.policy.PolicyExpr.{PolicyExpr}
use Rattle.par_resolved.specs.declared.read.Read.{Read}
use Rattle.par_resolved.specs.Policies.{Known, value_at, term_value, term_values, and_more}
use Rattle.par_resolved.specs.Policies.{join_of, value_of, with_value}
use Rattle.par_resolved.specs.Read.{AreRead, StillRead}
use Rattle.par_resolved.proofs.Steps.{all_some_more, nothing_joined}

place_stays : (values : List (Option (List Clause))) (x : Option (List Clause)) (place : ℕ)
    (p : List Clause) → value_at values (Some place) ≡ Some p
    → value_at (values ++ x ∷ []) (Some place) ≡ Some p
place_stays [] x place p h = absurd (cc h)
place_stays (v ∷ vs) x zero p h = h
place_stays (v ∷ vs) x (suc i) p h = place_stays vs x i p h

named_stays : (values : List (Option (List Clause))) (x : Option (List Clause)) (o : Option ℕ)
    (p : List Clause) → value_at values o ≡ Some p → value_at (values ++ x ∷ []) o ≡ Some p
named_stays values x None p h = h
named_stays values x (Some place) p h = place_stays values x place p h

term_stays : (k : Known) (x : Option (List Clause)) (t : PolicyTerm) (p : List Clause)
    → term_value k t ≡ Some p → term_value (with_value k x) t ≡ Some p
unfolding term_value
term_stays k x (Clauses clauses) p h = h
term_stays k x (Named id) p h = named_stays k.values x _ p h
term_stays k x Bottom p h = h
term_stays k x Top p h = h

terms_stay : (k : Known) (x : Option (List Clause)) (ts : List PolicyTerm)
    (ps : List (List Clause)) → term_values k ts ≡ Some ps
    → term_values (with_value k x) ts ≡ Some ps
terms_stay k x [] ps h = h
terms_stay k x (t ∷ ts) ps h =
    in_case (term_value k t) refl (term_values k ts) refl (λ qs. terms_stay k x ts qs)
    (sym (all_some_more (term_value k t) (map (term_value k) ts)) ∙ h)
  where
    more : Known
    more = with_value k x

    in_case : (o : Option (List Clause)) → term_value k t ≡ o
        → (r : Option (List (List Clause))) → term_values k ts ≡ r
        → ((qs : List (List Clause)) → term_values k ts ≡ Some qs → term_values more ts ≡ Some qs)
        → and_more o r ≡ Some ps → term_values more (t ∷ ts) ≡ Some ps
    in_case None i r j stay so = absurd (cc so)
    in_case (Some p) i None j stay so = absurd (cc so)
    in_case (Some p) i (Some qs) j stay so =
        all_some_more (term_value more t) (map (term_value more) ts)
        ∙ ap (λ o. and_more o (term_values more ts)) (term_stays k x t p i)
        ∙ ap (and_more (Some p)) (stay qs j) ∙ so

-- what an expression comes to, it comes to once more is known
pub value_stays : (k : Known) (x : Option (List Clause)) (e : PolicyExpr) (p : List Clause)
    → value_of k e ≡ Some p → value_of (with_value k x) e ≡ Some p
value_stays k x e p h = in_case (term_values k e.terms) refl h
  where
    in_case : (o : Option (List (List Clause))) → term_values k e.terms ≡ o
        → join_of o ≡ Some p → value_of (with_value k x) e ≡ Some p
    in_case None i so = absurd (cc (sym nothing_joined ∙ so))
    in_case (Some ps) i so = ap join_of (terms_stay k x e.terms ps i) ∙ so

pub all_stay : (k : Known) (x : Option (List Clause)) (read : List Read) → AreRead k read
    → AreRead (with_value k x) read
all_stay k x read all =
    All-weaker (λ r. value_of k r.expr.now ≡ Some r.policy)
    (λ r. value_of (with_value k x) r.expr.now ≡ Some r.policy)
    (λ r is. value_stays k x r.expr.now r.policy is) read all

-- the same, whether it is known or not
pub all_stay_if : (k : Known) (is_known : Bool) (x : Option (List Clause)) (read : List Read)
    → AreRead k read
    → AreRead (record {
      numbers = k.numbers;
      names = k.names;
      values = if is_known then k.values ++ x ∷ [] else k.values;
    }) read
all_stay_if k true x read all = all_stay k x read all
all_stay_if k false x read all = all

-- one expression more is read
pub one_more : (old new : List Read) (r : Read) (e : PolicyExpr) → new ≡ old ++ r ∷ []
    → r.expr.now ≡ e → StillRead old new e (Some r.policy)
one_more old new r e is same k all so =
    subst (λ rs. AreRead k rs) (sym is)
    (All-append (λ s. value_of k s.expr.now ≡ Some s.policy) old (r ∷ []) all
    (All-cons (λ s. value_of k s.expr.now ≡ Some s.policy) r [] (ap (value_of k) same ∙ sym so)
    (All-nil (λ s. value_of k s.expr.now ≡ Some s.policy))))
