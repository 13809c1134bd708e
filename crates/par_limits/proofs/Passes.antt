-- One pass after the other.
use Rattle.std.proofs.Common.{◌≡◌, List, [], ◌∷◌, ◌++◌, Option, None, Some, sym, ap, subst, ◌∙◌}
use Rattle.std.specs.List.{flat_map}
use Rattle.par_tree.specs.Plain.{Source}
use Rattle.par_tree.specs.declared.policy.PolicyExpr.{PolicyExpr}
use Rattle.par_refusals.specs.declared.refusal.Refusal.{Refusal}
use Rattle.par_refusals.specs.First.{first_of, in_passes, IsAnswer}
use Rattle.par_refusals.proofs.First.{answered, passes_on, stops, first_of_none, first_of_append}
use Rattle.par_resolved.specs.Policies.{Known, known}
use Rattle.par_parts.specs.Written.{written}
use Rattle.par_resolved.specs.Sizes.{expression_faults, all_join_faults, literal_faults}
use Rattle.par_resolved.specs.Sizes.{all_literal_faults}
use Rattle.par_resolved.specs.Limits.{table_faults}

pub passed : (fs gs : List Refusal) → None ≡ first_of None fs
    → first_of None gs ≡ first_of None (in_passes fs gs)
passed fs gs h =
    let none : fs ≡ [] = subst (IsAnswer fs) (sym h) (answered fs) in
    ap (first_of None) (sym (passes_on gs)) ∙ ap (λ xs. first_of None (in_passes xs gs)) (sym none)

pub stopped : (fs gs : List Refusal) (f : Refusal) → Some f ≡ first_of None fs
    → Some f ≡ first_of None (in_passes fs gs)
stopped [] gs f h = absurd (cc (h ∙ first_of_none None))
stopped (g ∷ fs) gs f h = h ∙ ap (first_of None) (sym (stops g fs gs))

-- ---- by what is known

joins_of : (s : Source) (k : Known) (es : List PolicyExpr) → k ≡ known s → es ≡ written s
    → flat_map (expression_faults k) es ≡ all_join_faults (known s) s
joins_of s k es same all =
    ap (λ x. flat_map (expression_faults x) es) same
    ∙ ap (flat_map (expression_faults (known s))) all

pub joins_passed : (s : Source) (k : Known) (es : List PolicyExpr) → k ≡ known s → es ≡ written s
    → None ≡ first_of None (flat_map (expression_faults k) es)
    → first_of None (table_faults k s)
    ≡ first_of None (in_passes (all_join_faults (known s) s) (table_faults (known s) s))
joins_passed s k es same all h =
    ap (λ x. first_of None (table_faults x s)) same
    ∙ passed (all_join_faults (known s) s) (table_faults (known s) s)
    (h ∙ ap (first_of None) (joins_of s k es same all))

pub joins_stopped : (s : Source) (k : Known) (es : List PolicyExpr) (f : Refusal) → k ≡ known s
    → es ≡ written s
    → Some f ≡ first_of None (flat_map (expression_faults k) es)
    → Some f ≡ first_of None (in_passes (all_join_faults (known s) s) (table_faults (known s) s))
joins_stopped s k es f same all h =
    stopped (all_join_faults (known s) s) (table_faults (known s) s) f
    (h ∙ ap (first_of None) (joins_of s k es same all))

pub literals_passed : (s : Source) (es : List PolicyExpr) (gs : List Refusal) → es ≡ written s
    → None ≡ first_of None (flat_map literal_faults es)
    → first_of None gs ≡ first_of None (in_passes (all_literal_faults s) gs)
literals_passed s es gs all h =
    passed (all_literal_faults s) gs (h ∙ ap (λ x. first_of None (flat_map literal_faults x)) all)

pub literals_stopped : (s : Source) (es : List PolicyExpr) (gs : List Refusal) (f : Refusal)
    → es ≡ written s → Some f ≡ first_of None (flat_map literal_faults es)
    → Some f ≡ first_of None (in_passes (all_literal_faults s) gs)
literals_stopped s es gs f all h =
    stopped (all_literal_faults s) gs f
    (h ∙ ap (λ x. first_of None (flat_map literal_faults x)) all)

pub both : (fs gs hs : List Refusal) (none first second : Option Refusal) → none ≡ None
    → first ≡ first_of none fs → second ≡ first_of first gs → gs ≡ hs
    → second ≡ first_of None (fs ++ hs)
both fs gs hs start first second is_none is_first is_second all =
    is_second ∙ ap (λ o. first_of o gs) (is_first ∙ ap (λ o. first_of o fs) is_none)
    ∙ sym (first_of_append None fs gs)
    ∙ ap (λ x. first_of None (fs ++ x)) all
