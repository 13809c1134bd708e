use Rattle.std.proofs.Common.{◌≡◌, ◌≤◌, ◌∙◌, ap, sym, subst, ℕ, List, map, length, arith}
use Rattle.std.proofs.lemmas.List.{length-map}
use Rattle.par_policy.specs.declared.clauses.Clause.{Clause}
use Rattle.par_index.specs.Texts.{texts}
use Rattle.par_tree.specs.Plain.{Class}
use Rattle.par_tree.specs.Shown.{source}
use Rattle.par_names.specs.Declarations.{classes}
use Rattle.par_resolved.specs.Policies.{Known, known}
use Rattle.par_resolved.specs.declared.limits.TheConstants.{MOST_POLICIES}
use Rattle.par_resolved.specs.Numbered.{numbered, shared_policies}
use Rattle.par_resolved.specs.Resolved.{Resolved}
use Rattle.par_table.proofs.Inferred.{numbered_count}
use Rattle.par_table.proofs.resolved.Resolved.of.Goals as goal

pub shared_policies-requires : goal.shared_policies-requires
shared_policies-requires c =
    let s = source c.args.program.now in
    subst (λ k. length (numbered k s) ≤ MOST_POLICIES) (sym c.requires.known)
    c.requires.room.few_policies

pub invariant_of-result : goal.invariant_of-result
invariant_of-result c =
    let s = source c.args.program.now in
    let named : texts c.in_ok-classes.classes.names.items ≡ map (λ c. c.id.name) (classes s) =
    c.in_ok-classes.ensures ∙ ap (map (λ (c : Class). c.id.name)) c.requires.classes in
    let all : length (texts c.in_ok-classes.classes.names.items) ≡ length (classes s) =
    ap length named ∙ length-map (classes s) (λ (c : Class). c.id.name) in
    let shared : length c.in_ok-policies.policies.items ≡ length (shared_policies (known s) s) =
    ap length (c.in_ok-policies.ensures ∙ ap (λ k. shared_policies k s) c.requires.known) in
    record {
      few = record {
        few_classes = omega (arith, all, c.requires.room.few_classes);
        few_policies =
            omega (arith, shared, numbered_count (known s) s, c.requires.room.few_policies);
      };
    }

pub returns : goal.returns
returns c =
    let s = source c.args.program.now in
    let made : Known → List (List ℕ) → List (List Clause) → Resolved =
    λ k c p. record { known = k; classes = c; policies = p } in
    let named = c.in_ok-classes.ensures ∙ ap (map (λ (c : Class). c.id.name)) c.requires.classes in
    let shared = c.in_ok-policies.ensures ∙ ap (λ k. shared_policies k s) c.requires.known in
    ap (λ k. made k (texts c.in_ok-classes.classes.names.items) c.in_ok-policies.policies.items)
    c.requires.known
    ∙ ap (λ n. made (known s) n c.in_ok-policies.policies.items) named
    ∙ ap (λ p. made (known s) (map (λ (c : Class). c.id.name) (classes s)) p) shared
