-- `bottom` stands before what is written.
use Rattle.std.proofs.Common.{◌≡◌, ℕ, true, arith, List, [], ◌∷◌, ◌++◌, map, refl, ap, ◌∙◌}
use Rattle.std.specs.Prelude.{nat_le, if◌then◌else◌}
use Rattle.std.proofs.lemmas.Bool.Decides.{nat_tests}
use Rattle.par_typed.specs.par_policy.declared.clauses.Clause.{Clause}
use Rattle.par_tree.specs.declared.policy.PolicyExpr.{PolicyExpr}
use Rattle.par_tree.specs.Plain.{Source}
use Rattle.par_resolved.specs.declared.entries.Entry.{Entry}
use Rattle.par_resolved.specs.Policies.{Known, bottom}
use Rattle.par_parts.specs.Written.{written}
use Rattle.par_resolved.specs.Numbered.{written_entry, query_entries, with_entry, by_place}
use Rattle.par_limits.specs.Listed.{by_place_entries}

abbrev pub at_start : List Clause → Entry
at_start p = record { at = 0; policy = p }

least : (n : ℕ) → nat_le 0 n ≡ true
least n = grind (arith, nat_tests)

in_front : (p : List Clause) (es : List Entry) → with_entry (at_start p) es ≡ at_start p ∷ es
in_front p [] = refl
in_front p (e ∷ es) =
    ap (λ b. if b then at_start p ∷ e ∷ es else e ∷ with_entry (at_start p) es) (least e.at)

pub listed : (k : Known) (s : Source) (es : List PolicyExpr) (p : List Clause)
    (a b c d : List Entry) → p ≡ bottom k.numbers → a ≡ at_start p ∷ []
    → es ≡ written s → b ≡ a ++ map (written_entry k) es → c ≡ b ++ query_entries s → d ≡ by_place c
    → d ≡ by_place_entries k s
listed k s es p a b c d is_p is_a is_es is_b is_c is_d =
    let rest : List PolicyExpr → List Entry = λ xs. map (written_entry k) xs ++ query_entries s in
    is_d ∙ ap by_place (is_c ∙ ap (λ x. x ++ query_entries s)
    (is_b ∙ ap (λ x. x ++ map (written_entry k) es) is_a))
    ∙ in_front p (by_place (rest es)) ∙ ap (λ x. at_start x ∷ by_place (rest es)) is_p
    ∙ ap (λ x. at_start (bottom k.numbers) ∷ by_place (rest x)) is_es
