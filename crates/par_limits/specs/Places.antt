-- The places where policies are counted.
use Rattle.std.specs.Prelude.{ℕ, ◌+◌, List, [], ◌∷◌, ◌++◌, map, flat_map, filter, Option, None}
use Rattle.std.specs.Prelude.{Some}
use Rattle.par_tree.specs.declared.decl.FieldDecl.{FieldDecl}
use Rattle.par_tree.specs.Plain.{Class}
use Rattle.par_refusals.specs.declared.refusal.Refusal.{Refusal}
use Rattle.par_refusals.specs.First.{exceeded}
use Rattle.par_resolved.specs.declared.limits.TheConstants.{MOST_POLICIES}
use Rattle.par_resolved.specs.declared.entries.Entry.{Entry}

-- the places of inferred fields
abbrev pub inferred_places : List FieldDecl → List ℕ
inferred_places fields = map (λ f. f.id.at) (filter (λ f. f.inferred) fields)

-- the places of these entries, and of the inferred fields of these classes
abbrev pub places_of : List Entry → List Class → List ℕ
places_of entries classes =
    map (λ e. e.at) entries ++ flat_map (λ c. inferred_places c.fields) classes

-- limit 3: one too many is counted here
unfoldable pub many_at : Option ℕ → List Refusal
many_at None = []
many_at (Some at) = exceeded 3 (MOST_POLICIES + 1) at ∷ []
