-- The place of the policy that is one too many.
use Rattle.std.proofs.Common.{◌≡◌, ℕ, zero, suc, ◌+◌, List, [], ◌∷◌, ◌++◌, map, take, Option, None}
use Rattle.std.proofs.Common.{Some, refl, sym, ap, ◌∙◌}
use Rattle.std.specs.Prelude.{slice_get, filter}
use Rattle.std.specs.Option.{option_map}
use Rattle.std.specs.List.{flat_map}
use Rattle.std.proofs.lemmas.Option.{slice_get-map}
use Rattle.std.proofs.lemmas.List.{map-append}
use Rattle.std.proofs.lemmas.List.Elements.{filter-append}
use Rattle.par_tree.specs.declared.decl.FieldDecl.{FieldDecl}
use Rattle.par_tree.specs.Plain.{Class, Source}
use Rattle.par_resolved.specs.declared.entries.Entry.{Entry}
use Rattle.par_resolved.specs.Policies.{Known}
use Rattle.par_resolved.specs.Numbered.{inferred_entry, entries, distinct, numbered}
use Rattle.par_resolved.specs.par_names.Declarations.{declared_classes}
use Rattle.par_resolved.specs.declared.limits.TheConstants.{MOST_POLICIES}
use Rattle.par_resolved.specs.Limits.{one_too_many}
use Rattle.par_limits.specs.Places.{inferred_places, places_of, many_at}

by_place : (o : Option Entry) → many_at (option_map (λ e. e.at) o) ≡ one_too_many o
unfolding many_at one_too_many
by_place None = refl
by_place (Some e) = refl

-- no more is looked at
looked_at : (m : ℕ) (es : List Entry) (ns : List ℕ)
    → slice_get (map (λ e. e.at) (take (suc m) es) ++ ns) m ≡ slice_get (map (λ e. e.at) es ++ ns) m
looked_at m [] ns = refl
looked_at zero (e ∷ es) ns = refl
looked_at (suc m) (e ∷ es) ns = looked_at m es ns

of_fields : (k : Known) (fs : List FieldDecl)
    → map (λ e. e.at) (map (inferred_entry k) fs) ≡ map (λ f. f.id.at) fs
of_fields k [] = refl
of_fields k (f ∷ fs) = ap (λ ns. f.id.at ∷ ns) (of_fields k fs)

of_classes : (cs : List Class)
    → inferred_places (flat_map (λ c. c.fields) cs) ≡ flat_map (λ c. inferred_places c.fields) cs
of_classes [] = refl
of_classes (c ∷ cs) =
    let rest = flat_map (λ d. d.fields) cs in
    ap (map (λ f. f.id.at)) (filter-append (λ f. f.inferred) c.fields rest)
    ∙ map-append (λ f. f.id.at) (filter (λ f. f.inferred) c.fields) (filter (λ f. f.inferred) rest)
    ∙ ap (λ ns. inferred_places c.fields ++ ns) (of_classes cs)

abbrev of_all : Known → List Class → List Entry
of_all k cs = map (inferred_entry k) (filter (λ f. f.inferred) (flat_map (λ c. c.fields) cs))

pub many : (m : ℕ) (k : Known) (es : List Entry) (cs : List Class)
    → many_at (slice_get (places_of (take (suc m) es) cs) m)
    ≡ one_too_many (slice_get (es ++ of_all k cs) m)
many m k es cs =
    let places = flat_map (λ c. inferred_places c.fields) cs in
    let inferred = of_all k cs in
    let same : places ≡ map (λ e. e.at) inferred =
    sym (of_fields k (filter (λ f. f.inferred) (flat_map (λ c. c.fields) cs)) ∙ of_classes cs) in
    ap many_at
    (looked_at m es places ∙ ap (λ ns. slice_get (map (λ e. e.at) es ++ ns) m) same
    ∙ ap (λ ns. slice_get ns m) (sym (map-append (λ e. e.at) es inferred))
    ∙ slice_get-map (λ e. e.at) (es ++ inferred) m)
    ∙ by_place (slice_get (es ++ inferred) m)

-- of a whole program
pub counted_all : (k : Known) (s : Source) (es : List Entry) (cs : List Class)
    → es ≡ take (MOST_POLICIES + 1) (distinct (entries k s)) → cs ≡ declared_classes s
    → many_at (slice_get (places_of es cs) MOST_POLICIES)
    ≡ one_too_many (slice_get (numbered k s) MOST_POLICIES)
counted_all k s es cs those all =
    ap (λ x. many_at (slice_get (places_of x cs) MOST_POLICIES)) those
    ∙ ap
    (λ x. many_at (slice_get (places_of (take (MOST_POLICIES + 1) (distinct (entries k s))) x)
    MOST_POLICIES)) all
    ∙ many MOST_POLICIES k (distinct (entries k s)) (declared_classes s)
