-- The policies of inferred fields stand behind the others.
use Rattle.std.proofs.Common.{◌≡◌, ◌+◌, List, [], ◌∷◌, ◌++◌, length, map, refl, sym, ap, ◌∙◌}
use Rattle.std.proofs.Common.{length-append}
use Rattle.std.specs.Prelude.{filter, sum_by}
use Rattle.std.specs.List.{flat_map}
use Rattle.std.proofs.lemmas.List.{map-append, length-map}
use Rattle.std.proofs.lemmas.List.Elements.{filter-append}
use Rattle.std.proofs.lemmas.List.Sums.{sum_by-cons, length-filter}
use Rattle.par_tree.specs.declared.decl.FieldDecl.{FieldDecl}
use Rattle.par_tree.specs.Plain.{Class, Source}
use Rattle.par_names.specs.Declarations.{classes, declared_classes}
use Rattle.par_resolved.specs.Policies.{Known}
use Rattle.par_resolved.specs.Numbered.{entries, distinct, inferred_fields}
use Rattle.par_resolved.specs.Numbered.{inferred_entry, numbered, shared_policies}
use Rattle.par_table.specs.Room.{inferred_count}
use Rattle.par_table.specs.Parts.{inferred_policy, inferred_policies}

of_fields : (k : Known) (fs : List FieldDecl)
    → map (λ e. e.policy) (map (inferred_entry k) fs) ≡ map (inferred_policy k) fs
of_fields k [] = refl
of_fields k (f ∷ fs) = ap (λ ps. inferred_policy k f ∷ ps) (of_fields k fs)

of_classes : (k : Known) (cs : List Class)
    → inferred_policies k (flat_map (λ c. c.fields) cs)
    ≡ flat_map (λ c. inferred_policies k c.fields) cs
of_classes k [] = refl
of_classes k (c ∷ cs) =
    let rest = flat_map (λ d. d.fields) cs in
    ap (map (inferred_policy k)) (filter-append (λ f. f.inferred) c.fields rest)
    ∙ map-append (inferred_policy k) (filter (λ f. f.inferred) c.fields)
    (filter (λ f. f.inferred) rest)
    ∙ ap (λ ps. inferred_policies k c.fields ++ ps) (of_classes k cs)

-- all policies of a table; the classes that every program has no fields
pub all_numbered : (k : Known) (s : Source) → map (λ e. e.policy) (numbered k s)
    ≡ shared_policies k s ++ flat_map (λ c. inferred_policies k c.fields) (classes s)
all_numbered k s =
    map-append (λ e. e.policy) (distinct (entries k s)) (map (inferred_entry k) (inferred_fields s))
    ∙ ap (λ ps. shared_policies k s ++ ps)
    (of_fields k (inferred_fields s) ∙ of_classes k (declared_classes s))

counted : (k : Known) (cs : List Class)
    → length (flat_map (λ c. inferred_policies k c.fields) cs) ≡ sum_by inferred_count cs
counted k [] = refl
counted k (c ∷ cs) =
    length-append (inferred_policies k c.fields) (flat_map (λ d. inferred_policies k d.fields) cs)
    ∙ ap (λ n. n + length (flat_map (λ d. inferred_policies k d.fields) cs))
    (length-map (filter (λ f. f.inferred) c.fields) (inferred_policy k)
    ∙ length-filter (λ f. f.inferred) c.fields)
    ∙ ap (λ n. inferred_count c + n) (counted k cs) ∙ sym (sum_by-cons inferred_count c cs)

-- how many they are
pub numbered_count : (k : Known) (s : Source)
    → length (numbered k s) ≡ length (shared_policies k s) + sum_by inferred_count (classes s)
numbered_count k s =
    sym (length-map (numbered k s) (λ e. e.policy)) ∙ ap length (all_numbered k s)
    ∙ length-append (shared_policies k s) (flat_map (λ c. inferred_policies k c.fields) (classes s))
    ∙ ap (λ n. length (shared_policies k s) + n) (counted k (classes s))
